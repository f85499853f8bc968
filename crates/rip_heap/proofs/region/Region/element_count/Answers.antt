use Rattle.std.proofs.Common.{◌≡◌, length, ap, arith, ◌∙◌, subst, sym}
use Rattle.rip_heap.specs.HeadSlots.{array_in}
use Rattle.rip_heap.specs.Region.{Kept, elements_here}
use Rattle.rip_heap.proofs.RegionElementLemmas.{count_there, elements_past}
use Rattle.rip_heap.proofs.region.Region.element_count.Goals as goal

pub returns-then-at-len : goal.returns-then-at-len
returns-then-at-len c =
    subst (λ (k : Kept). 0 ≡ length (elements_here k c.args.at)) c.self.view_is
    (sym (ap length (elements_past c.self.inside.pages c.args.at (omega (arith, c.if-at-len.true, c.len.ensures)))))

pub returns : goal.returns
returns c =
    subst (λ (k : Kept). c.array_in.result.count ≡ length (elements_here k c.args.at)) c.self.view_is
    (count_there c.self.inside.pages c.self.inside.spent c.self.inside.room c.args.at c.array_in.result c.self.invariant
    (omega (arith, c.if-at-len.false, c.len.ensures)) (c.array_in.ensures ∙ ap array_in c.get.ensures))
