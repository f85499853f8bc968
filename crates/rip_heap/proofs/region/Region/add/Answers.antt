use Rattle.std.proofs.Common.{◌≡◌, ◌+◌, ◌<◌, ap, arith, ◌∙◌, ◌++◌, ◌∷◌, [], subst, sym}
use Rattle.rip_heap_region.specs.declared.pages.for_rows.Row.TheVariants.{Objects}
use Rattle.rip_heap_region.specs.Pages.{with_row}
use Rattle.rip_heap.specs.Region.{IndexesStay, Kept, listed, with_bare}
use Rattle.rip_heap.proofs.RegionLemmas.{indexes_added, listed_added, rows_added}
use Rattle.rip_heap.proofs.region.Region.add.Goals as goal

pub invariant_of-self : goal.invariant_of-self
invariant_of-self c =
    rows_added c.self.inside.pages c.push.new.self c.args.head c.self.inside.spent c.self.inside.room c.requires.storable
    (c.push.ensures ∙ ap (λ s. with_row Objects (c.self.inside.pages.objects ++ s ∷ []) c.self.inside.pages) c.slot_of.ensures)
    (subst (λ (k : Kept). k.rooms.spent < k.rooms.room) (sym c.self.view_is) c.requires.room) c.self.invariant

pub returns-clause-listed : goal.returns-clause-listed
returns-clause-listed c =
    subst (λ (k : Kept). listed (record { pages = c.push.new.self; rooms = record { spent = c.self.inside.spent + 1; room = c.self.inside.room } }) ≡ with_bare (listed k) c.args.head) c.self.view_is
    (listed_added c.self.inside.pages c.push.new.self c.args.head c.self.inside.spent c.self.inside.room c.requires.storable
    (c.push.ensures ∙ ap (λ s. with_row Objects (c.self.inside.pages.objects ++ s ∷ []) c.self.inside.pages) c.slot_of.ensures) c.self.invariant)

pub returns-clause-indexes : goal.returns-clause-indexes
returns-clause-indexes c =
    subst (λ (k : Kept). IndexesStay k.pages c.push.new.self) c.self.view_is
    (indexes_added c.self.inside.pages c.push.new.self c.args.head
    (c.push.ensures ∙ ap (λ s. with_row Objects (c.self.inside.pages.objects ++ s ∷ []) c.self.inside.pages) c.slot_of.ensures))
