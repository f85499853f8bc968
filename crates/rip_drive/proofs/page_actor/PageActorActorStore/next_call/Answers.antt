use Rattle.std.proofs.Common.{◌∙◌, ap, sym}
use Rattle.std.specs.Prelude.{is_some}
use Rattle.rip_drive.specs.Actors.{page_session}
use Rattle.rip_drive.proofs.NextCalls.{next_empty, next_none, next_some}
use Rattle.rip_drive.proofs.page_actor.PageActorActorStore.next_call.Goals as goal

pub returns-then-taken : goal.returns-then-taken
unfolding page_session
returns-then-taken c = next_none c.args.self.now.session.replica.host c.taken-taken.result c.taken-taken.ensures c.if-taken.true

pub returns-in-Some : goal.returns-in-Some
unfolding page_session
returns-in-Some c =
    next_some c.args.self.now.session.replica.host c.taken-taken.result c.in-Some.text c.is_some.result c.taken-taken.ensures c.if-taken.false
    (sym c.in-Some.is ∙ c.in_ok-text.ensures) (c.is_some.ensures ∙ ap is_some c.front_callback.ensures)

pub returns-in-None : goal.returns-in-None
unfolding page_session
returns-in-None c = next_empty c.args.self.now.session.replica.host (sym c.in-None.is ∙ c.in_ok-text.ensures)
