use Rattle.std.proofs.Common.{◌≡◌, ◌+◌, ◌≤◌, ◌++◌, ◌∷◌, [], None, ap, arith, subst, sym}
use Rattle.std.specs.Prelude.{replicate}
use Rattle.rip_heap_region.specs.Pages.{Paged}
use Rattle.rip_heap.specs.Rooms.{spending}
use Rattle.rip_heap.specs.Region.{IndexesStay, Kept, listed}
use Rattle.rip_heap.proofs.RegionElementLemmas.{indexes_scoped, listed_scoped, rows_scoped}
use Rattle.rip_heap.proofs.region.Region.push_scope.Goals as goal

pub push_scope-requires-clause-room : goal.push_scope-requires-clause-room
push_scope-requires-clause-room c =
    omega (arith, subst (λ (k : Kept). k.rooms.spent + (1 + c.args.names) ≤ k.rooms.room) (sym c.self.view_is) c.requires.room, c.self.invariant.paid, c.self.invariant.within)

pub invariant_of-self : goal.invariant_of-self
invariant_of-self c =
    let fits = subst (λ (k : Kept). k.rooms.spent + (1 + c.args.names) ≤ k.rooms.room) (sym c.self.view_is) c.requires.room in
    rows_scoped c.self.inside.pages c.push_scope.new.pages c.self.inside.spent _ c.self.inside.room c.push_scope.ensures.rows c.push_scope.ensures.kept
    (omega (arith, fits))
    (omega (arith, fits, c.push_scope.ensures.paid, c.self.invariant.paid, ap (λ (p : Paged). p.room) c.push_scope.ensures.rows))
    c.self.invariant

pub returns-clause-listed : goal.returns-clause-listed
returns-clause-listed c =
    subst (λ (k : Kept). listed (record { pages = c.push_scope.new.pages; rooms = record { spent = c.self.inside.spent + (1 + c.args.names); room = c.self.inside.room } })
    ≡ record (listed k) { scopes = (listed k).scopes ++ record { parent = c.args.parent; bindings = replicate c.args.names None } ∷ []; rooms = spending (1 + c.args.names) k.rooms }) c.self.view_is
    (listed_scoped c.self.inside.pages c.push_scope.new.pages (record { spent = c.self.inside.spent; room = c.self.inside.room }) (record { spent = c.self.inside.spent + (1 + c.args.names); room = c.self.inside.room }) _ c.push_scope.ensures.rows c.push_scope.ensures.scopes)

pub returns-clause-indexes : goal.returns-clause-indexes
returns-clause-indexes c =
    subst (λ (k : Kept). IndexesStay k.pages c.push_scope.new.pages) c.self.view_is
    (indexes_scoped c.self.inside.pages c.push_scope.new.pages c.push_scope.ensures.rows)
