use Rattle.std.proofs.Common.{◌≡◌, ap, arith, ◌∙◌, subst, take}
use Rattle.std.specs.Prelude.{slice_set}
use Rattle.rip_heap.specs.HeadSlots.{array_in}
use Rattle.rip_heap.specs.Region.{IndexesStay, Kept, arrays_in, elements_here, listed, with_elements}
use Rattle.rip_heap.proofs.RegionElementLemmas.{indexes_refilled, is_cut, laid_fewer, laid_under, listed_long, listed_refilled, objects_within, rows_cut}
use Rattle.rip_heap.proofs.region.Region.cut_elements.Goals as goal

pub get-requires : goal.get-requires
get-requires c = record { within = objects_within c.self.inside.pages c.args.at c.args.self.now (ap (λ (k : Kept). k.pages) c.self.view_is) c.requires.within }

pub set-requires : goal.set-requires
set-requires c = record { within = objects_within c.self.inside.pages c.args.at c.args.self.now (ap (λ (k : Kept). k.pages) c.self.view_is) c.requires.within }

pub invariant_of-self : goal.invariant_of-self
invariant_of-self c =
    let lt = objects_within c.self.inside.pages c.args.at c.args.self.now (ap (λ (k : Kept). k.pages) c.self.view_is) c.requires.within in
    rows_cut c.self.inside.pages c.set.new.self c.args.at c.with_array.result (slice_set (arrays_in c.self.inside.pages) c.args.at (record { top = c.array_in-array.result.top; count = c.args.count })) _
    c.self.inside.spent c.self.inside.room c.set.ensures
    (is_cut c.self.inside.pages c.set.new.self c.args.at c.args.count c.array_in-array.result c.get.result.now c.with_array.result c.get.ensures c.array_in-array.ensures
    (omega (arith, c.if-count-array.true)) c.with_array.ensures c.set.ensures)
    (laid_fewer c.self.inside.pages c.self.inside.spent c.self.inside.room c.args.at c.args.count c.array_in-array.result c.self.invariant lt
    (c.array_in-array.ensures ∙ ap array_in c.get.ensures) (omega (arith, c.if-count-array.true))) c.self.invariant

pub returns-then-count-array-clause-listed : goal.returns-then-count-array-clause-listed
returns-then-count-array-clause-listed c =
    let lt = objects_within c.self.inside.pages c.args.at c.args.self.now (ap (λ (k : Kept). k.pages) c.self.view_is) c.requires.within in
    subst (λ (k : Kept). listed (record { pages = c.set.new.self; rooms = record { spent = c.self.inside.spent; room = c.self.inside.room } })
    ≡ with_elements (listed k) c.args.at (take c.args.count (elements_here k c.args.at))) c.self.view_is
    (listed_refilled c.self.inside.pages c.set.new.self (slice_set (arrays_in c.self.inside.pages) c.args.at (record { top = c.array_in-array.result.top; count = c.args.count }))
    (record { spent = c.self.inside.spent; room = c.self.inside.room }) (record { spent = c.self.inside.spent; room = c.self.inside.room }) c.args.at _
    (is_cut c.self.inside.pages c.set.new.self c.args.at c.args.count c.array_in-array.result c.get.result.now c.with_array.result c.get.ensures c.array_in-array.ensures
    (omega (arith, c.if-count-array.true)) c.with_array.ensures c.set.ensures)
    (laid_under c.self.inside.pages c.set.new.self c.args.at c.with_array.result _ _ c.set.ensures
    (laid_fewer c.self.inside.pages c.self.inside.spent c.self.inside.room c.args.at c.args.count c.array_in-array.result c.self.invariant lt
    (c.array_in-array.ensures ∙ ap array_in c.get.ensures) (omega (arith, c.if-count-array.true)))))

pub returns-then-count-array-clause-indexes : goal.returns-then-count-array-clause-indexes
returns-then-count-array-clause-indexes c =
    subst (λ (k : Kept). IndexesStay k.pages c.set.new.self) c.self.view_is
    (indexes_refilled c.self.inside.pages c.set.new.self (slice_set (arrays_in c.self.inside.pages) c.args.at (record { top = c.array_in-array.result.top; count = c.args.count }))
    (is_cut c.self.inside.pages c.set.new.self c.args.at c.args.count c.array_in-array.result c.get.result.now c.with_array.result c.get.ensures c.array_in-array.ensures
    (omega (arith, c.if-count-array.true)) c.with_array.ensures c.set.ensures))

pub returns-else-count-array-clause-listed : goal.returns-else-count-array-clause-listed
returns-else-count-array-clause-listed c =
    let lt = objects_within c.self.inside.pages c.args.at c.args.self.now (ap (λ (k : Kept). k.pages) c.self.view_is) c.requires.within in
    subst (λ (k : Kept). listed k ≡ with_elements (listed k) c.args.at (take c.args.count (elements_here k c.args.at))) c.self.view_is
    (listed_long c.self.inside.pages (record { spent = c.self.inside.spent; room = c.self.inside.room }) c.self.inside.spent c.self.inside.room c.args.at c.args.count c.array_in-array.result
    c.self.invariant lt (c.array_in-array.ensures ∙ ap array_in c.get.ensures) (omega (arith, c.if-count-array.false)))
