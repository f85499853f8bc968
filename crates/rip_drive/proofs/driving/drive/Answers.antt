use Rattle.std.proofs.Common.{List, subst, sym}
use Rattle.std.specs.Prelude.{All}
use Rattle.rip_app.specs.App.{Loaded}
use Rattle.rip_client.specs.Sizes.{IsGesture}
use Rattle.rip_session.specs.Application.{doing_of}
use Rattle.rip_session.proofs.OpeningLemmas.{on-ok}
use Rattle.rip_trace.specs.declared.gestures.LinedGesture.{LinedGesture}
use Rattle.rip_drive.specs.Actors.{IsBegun, OpensPage, page_session}
use Rattle.rip_drive.specs.Drivers.{IsOpenedAndDriven, IsOpenedAndRefused}
use Rattle.rip_drive.proofs.Traces.{on-err, refusal_of, trace_of}
use Rattle.rip_drive.proofs.driving.drive.Goals as goal

pub open_and_tell-requires : goal.open_and_tell-requires
open_and_tell-requires c = subst (λ (gs : List LinedGesture). All (λ (l : LinedGesture). IsGesture l.gesture) gs) (sym c.as_slice.ensures) c.requires

pub returns-clause-told : goal.returns-clause-told
returns-clause-told c =
    let app = c.args.app in
    let begun = subst (λ (a : Loaded). IsBegun a (doing_of app 3 0) c.in_ok-actor.actor.session.replica) (sym c.in_ok-actor.ensures.0) c.in_ok-actor.ensures.1 in
    on-ok c.open_and_tell.result (λ text is. trace_of app c.in_ok-actor.actor c.in_ok-store.store c.args.gestures.now text begun c.in_ok-store.ensures
    (subst (λ (gs : List LinedGesture). IsOpenedAndDriven page_session OpensPage c.in_ok-actor.actor c.in_ok-store.store gs text) c.as_slice.ensures is)) c.open_and_tell.ensures.told

pub returns-clause-refused : goal.returns-clause-refused
returns-clause-refused c =
    let app = c.args.app in
    let begun = subst (λ (a : Loaded). IsBegun a (doing_of app 3 0) c.in_ok-actor.actor.session.replica) (sym c.in_ok-actor.ensures.0) c.in_ok-actor.ensures.1 in
    on-err c.open_and_tell.result (λ why is. refusal_of app c.in_ok-actor.actor c.in_ok-store.store c.args.gestures.now why begun c.in_ok-store.ensures
    (subst (λ (gs : List LinedGesture). IsOpenedAndRefused page_session OpensPage c.in_ok-actor.actor c.in_ok-store.store gs why) c.as_slice.ensures is)) c.open_and_tell.ensures.refused
