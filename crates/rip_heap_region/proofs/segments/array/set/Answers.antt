use Rattle.std.proofs.Common.{arith, set, subst, sym}
use Rattle.rip_heap_region.specs.Pages.{Paged}
use Rattle.rip_heap_region.specs.Segments.{AreLaid, elements_of, lists_from}
use Rattle.rip_heap_region.proofs.CallLemmas.{set_call, set_past_call}
use Rattle.rip_heap_region.proofs.segments.array.set.Goals as goal

pub returns-then-place-array-clause-all : goal.returns-then-place-array-clause-all
returns-then-place-array-clause-all c = λ arrays found are.
    set_past_call arrays c.args.pages.now.elements c.args.owner c.args.array c.args.place c.args.value found are c.requires.array c.if-place-array.true

pub returns-clause-all : goal.returns-clause-all
returns-clause-all c = λ arrays found are.
    subst (λ (p : Paged). AreLaid arrays p.elements
    (set (lists_from 0 arrays c.args.pages.now.elements) c.args.owner (set (elements_of c.args.owner c.args.pages.now.elements c.args.array) c.args.place c.args.value)))
    (sym c.set_value.ensures)
    (set_call arrays c.args.pages.now.elements c.args.owner c.args.array c.args.place c.seat-at.result c.args.value found are
    c.requires.array (omega arith) c.seat-at.ensures)
