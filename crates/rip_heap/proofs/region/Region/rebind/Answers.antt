use Rattle.std.proofs.Common.{◌≡◌, slice_get, subst}
use Rattle.rip_heap.specs.ScopeSlots.{bound}
use Rattle.rip_heap.specs.Region.{IndexesStay, Kept, listed}
use Rattle.rip_heap.proofs.RegionElementLemmas.{bindings_alone, indexes_scoped, listed_scoped, rows_bound}
use Rattle.rip_heap.proofs.region.Region.rebind.Goals as goal

pub invariant_of-self : goal.invariant_of-self
invariant_of-self c =
    rows_bound c.self.inside.pages c.rebind_at.new.pages c.self.inside.spent c.self.inside.room c.rebind_at.ensures.row c.rebind_at.ensures.size c.rebind_at.ensures.kept c.self.invariant

pub returns-clause-listed : goal.returns-clause-listed
returns-clause-listed c = λ told.
    subst (λ (k : Kept). listed (record { pages = c.rebind_at.new.pages; rooms = record { spent = c.self.inside.spent; room = c.self.inside.room } })
    ≡ record (listed k) { scopes = bound (listed k).scopes c.args.scope c.args.place c.args.v (slice_get (listed k).scopes c.args.scope) }) c.self.view_is
    (listed_scoped c.self.inside.pages c.rebind_at.new.pages (record { spent = c.self.inside.spent; room = c.self.inside.room }) (record { spent = c.self.inside.spent; room = c.self.inside.room }) _ (bindings_alone c.self.inside.pages c.rebind_at.new.pages c.rebind_at.ensures.row) (c.rebind_at.ensures.scopes told))

pub returns-clause-indexes : goal.returns-clause-indexes
returns-clause-indexes c =
    subst (λ (k : Kept). IndexesStay k.pages c.rebind_at.new.pages) c.self.view_is
    (indexes_scoped c.self.inside.pages c.rebind_at.new.pages (bindings_alone c.self.inside.pages c.rebind_at.new.pages c.rebind_at.ensures.row))
