use Rattle.std.proofs.Common.{◌≡◌, None, ap, arith, ◌∙◌, slice_get, subst, sym}
use Rattle.rip_heap.specs.HeadSlots.{array_in}
use Rattle.rip_heap.specs.Region.{Kept, elements_here}
use Rattle.rip_heap.proofs.RegionElementLemmas.{array_is, elements_past, elements_there}
use Rattle.rip_heap.proofs.region.Region.element.Goals as goal

pub returns-then-at-len : goal.returns-then-at-len
returns-then-at-len c =
    subst (λ (k : Kept). None ≡ slice_get (elements_here k c.args.at) c.args.place) c.self.view_is
    (sym (ap (λ items. slice_get items c.args.place) (elements_past c.self.inside.pages c.args.at (omega (arith, c.if-at-len.true, c.len.ensures)))))

pub get-requires-2-clause-array : goal.get-requires-2-clause-array
get-requires-2-clause-array c =
    array_is c.self.inside.pages c.self.inside.spent c.self.inside.room c.args.at c.array_in-array.result c.self.invariant
    (omega (arith, c.if-at-len.false, c.len.ensures)) (c.array_in-array.ensures ∙ ap array_in c.get.ensures)

pub returns : goal.returns
returns c =
    subst (λ (k : Kept). c.get-2.result ≡ slice_get (elements_here k c.args.at) c.args.place) c.self.view_is
    (c.get-2.ensures ∙ ap (λ items. slice_get items c.args.place) (sym (elements_there c.self.inside.pages c.args.at c.array_in-array.result
    (omega (arith, c.if-at-len.false, c.len.ensures)) (c.array_in-array.ensures ∙ ap array_in c.get.ensures))))
