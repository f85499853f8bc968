use Rattle.std.proofs.Common.{◌≡◌, ◌<◌, ◌+◌, ℕ, refl, subst}
use Rattle.rip_history.specs.Run.{IsQuiet}
use Rattle.rip_server.specs.Links.{link_of, links_of, there_of}
use Rattle.rip_server.specs.declared.connection.Connection.{Connection}
use Rattle.rip_server.proofs.LinkLemmas.{same_at, there-get}
use Rattle.rip_server.proofs.PlaceLemmas.{got}
use Rattle.rip_server.specs.Handling.{state_of}
use Rattle.rip_server.proofs.HandleLemmas.{handled_none}
use Rattle.rip_server.proofs.TurnPlaceLemmas.{looked_less, quiet_next}
use Rattle.rip_server.proofs.TakenLemmas.{handled_at, handled_stops}
use Rattle.rip_server.proofs.turn.handle.look_at.Goals as goal

pub returns-then-not-is_due-clause-less : goal.returns-then-not-is_due-clause-less
returns-then-not-is_due-clause-less g c =
    let items = c.args.connections.now.list.items in
    let here = got items c.args.place c.index.result.now (subst (λ (k : ℕ). c.args.place < k) c.args.connections.now.list.ok.0 c.requires.place) c.index.ensures in
    looked_less (there_of items) c.args.place (link_of c.index.result.now) (there-get items c.args.place c.index.result.now here)

pub returns-then-not-is_due-clause-handled : goal.returns-then-not-is_due-clause-handled
returns-then-not-is_due-clause-handled g c = λ site h stages is quiet.
    let items = c.args.connections.now.list.items in
    let here = got items c.args.place c.index.result.now (subst (λ (k : ℕ). c.args.place < k) c.args.connections.now.list.ok.0 c.requires.place) c.index.ensures in
    handled_none site c.args.at.turn c.args.at.time (state_of (links_of c.args.connections.now) h stages) (c.args.place + 1) _ _ _ (
      record { links = refl; roll_is = is },
      quiet_next (there_of items) c.args.place (link_of c.index.result.now) quiet (there-get items c.args.place c.index.result.now here)
          c.if-not-is_due.ensures.quiet,
    )

pub handle_at-requires-clause-due : goal.handle_at-requires-clause-due
handle_at-requires-clause-due g c = λ x e.
    let items = c.args.connections.now.list.items in
    let here = got items c.args.place c.index.result.now (subst (λ (k : ℕ). c.args.place < k) c.args.connections.now.list.ok.0 c.requires.place) c.index.ensures in
    let same : c.index.result.now ≡ x = same_at items c.args.place c.index.result.now x here e in
    subst (λ (y : Connection). ¬ IsQuiet (link_of y)) same c.if-not-is_due.ensures.due

pub returns-in_err-handle_at-clause-handled : goal.returns-in_err-handle_at-clause-handled
returns-in_err-handle_at-clause-handled g c = λ site h stages is quiet.
    handled_stops site c.args.at.turn c.args.at.time (state_of (links_of c.args.connections.now) h stages) c.from_residual.result _ _ _ _ _ _ _ c.from_residual.ensures.0
    (c.in_err-handle_at.ensures.handled site h stages is quiet)

pub returns-clause-handled : goal.returns-clause-handled
returns-clause-handled g c = λ site h stages is quiet.
    handled_at site c.args.at.turn c.args.at.time (state_of (links_of c.args.connections.now) h stages) c.args.place _ _ _ _ _ _
    (λ next p. p) (c.in_ok-handle_at.ensures.handled site h stages is quiet)
