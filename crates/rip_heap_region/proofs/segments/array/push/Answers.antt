use Rattle.std.proofs.Common.{◌-◌, ◌+◌, ◌∷◌, ◌++◌, [], ℕ, length, arith, refl, set, subst, sym}
use Rattle.rip_heap_region.specs.Pages.{Paged}
use Rattle.rip_heap_region.specs.Segments.{AreLaid, elements_of, lists_from}
use Rattle.rip_heap_region.proofs.CallLemmas.{begin_call, count-most, longer_call, put_call}
use Rattle.rip_heap_region.proofs.segments.array.push.Goals as goal

pub overflow_add-count : goal.overflow_add-count
overflow_add-count c =
    omega (arith, count-most c.args.pages.now c.args.owner c.args.array c.args.spare c.requires.array c.requires.room, c.room-room.ensures)

pub returns-then-array-places-clause-all : goal.returns-then-array-places-clause-all
returns-then-array-places-clause-all c = λ arrays found are.
    subst (λ (p : Paged). AreLaid (set arrays c.args.owner (record { top = c.args.array.top; count = c.args.array.count + 1 })) p.elements
    (set (lists_from 0 arrays c.args.pages.now.elements) c.args.owner (elements_of c.args.owner c.args.pages.now.elements c.args.array ++ c.args.value ∷ [])))
    (sym c.set_value.ensures)
    (put_call arrays c.args.pages.now.elements c.args.owner c.args.array c.seat-at.result c.args.value found are
    c.requires.array (omega (arith, c.if-array-places.true, c.places-places.ensures)) c.seat-at.ensures)

pub returns-then-ends_row-clause-all : goal.returns-then-ends_row-clause-all
returns-then-ends_row-clause-all c = λ arrays found are.
    subst (λ (p : Paged). AreLaid (set arrays c.args.owner (record { top = c.args.array.top; count = c.args.array.count + 1 })) p.elements
    (set (lists_from 0 arrays c.args.pages.now.elements) c.args.owner (elements_of c.args.owner c.args.pages.now.elements c.args.array ++ c.args.value ∷ [])))
    (sym c.lengthen.ensures)
    (longer_call arrays c.args.pages.now.elements c.args.owner c.args.array c.args.value found are
    c.requires.array (omega (arith, c.if-array-places.false, c.places-places.ensures)) (c.if-ends_row.ensures.0 refl).0 (c.if-ends_row.ensures.0 refl).1)

pub returns-clause-all : goal.returns-clause-all
returns-clause-all c = λ arrays found are.
    subst (λ (top : ℕ). AreLaid (set arrays c.args.owner (record { top = top; count = c.args.array.count + 1 })) c.begin-top.new.pages.elements
    (set (lists_from 0 arrays c.args.pages.now.elements) c.args.owner (elements_of c.args.owner c.args.pages.now.elements c.args.array ++ c.args.value ∷ [])))
    (sym c.begin-top.ensures.top)
    (subst (λ (p : Paged). AreLaid (set arrays c.args.owner (record { top = length c.args.pages.now.elements + 1; count = c.args.array.count + 1 })) p.elements
    (set (lists_from 0 arrays c.args.pages.now.elements) c.args.owner (elements_of c.args.owner c.args.pages.now.elements c.args.array ++ c.args.value ∷ [])))
    (sym c.begin-top.ensures.row)
    (begin_call arrays c.args.pages.now.elements c.args.owner c.args.array c.args.value c.places-places.result c.min-more.result c.saturating_sub.result found are
    c.requires.array c.places-places.ensures c.if-array-places.false
    (λ some. omega (arith, some, c.saturating_sub.ensures))))
