use Rattle.std.proofs.Common.{◌≡◌, Err, sym, subst}
use Rattle.std.proofs.lemmas.Result.{err_from_is_err_and}
use Rattle.rip_wire.specs.Items.{event}
use Rattle.rip_client.specs.Sizes.{Comes, place_of}
use Rattle.rip_client.specs.Truth.{TellsCalls, TellsEvent, TellsItem}
use Rattle.rip_client.proofs.Telling.{at_err, then_comes, then_stops}
use Rattle.rip_client.proofs.client.Client.tell_event.Goals as goal

pub returns-in_err-tell-in-Event : goal.returns-in_err-tell-in-Event
returns-in_err-tell-in-Event g c =
    let x = g.A.Actor.session in
    let p = place_of c.args.self.now c.args.giver.now in
    let q = place_of c.tell.new.self c.tell.new.giver in
    let report = c.in-Event.report in
    let stop = c.in_err-tell-in-Event.field-0.0 in
    at_err (λ r. Comes (TellsEvent x c.args.gesture.now) p r q) c.from_residual.result stop (err_from_is_err_and c.from_residual.result c.from_residual.ensures.1)
    (subst (λ told. Comes {T = Unit {0}} (TellsEvent x told) p (Err stop) q) (sym c.in-Event.is)
    (then_stops (Unit {0}) (Unit {0}) (TellsItem x (λ item. item ≡ event report.kind report.node report.text report.place)) (TellsCalls x) p q stop c.in_err-tell-in-Event.ensures))

pub returns-in_ok-tell-in-Event : goal.returns-in_ok-tell-in-Event
returns-in_ok-tell-in-Event g c =
    let x = g.A.Actor.session in
    let p = place_of c.args.self.now c.args.giver.now in
    let m = place_of c.tell.new.self c.tell.new.giver in
    let q = place_of c.tell_calls.new.self c.tell_calls.new.giver in
    let report = c.in-Event.report in
    subst (λ told. Comes (TellsEvent x told) p c.tell_calls.result q) (sym c.in-Event.is)
    (then_comes (TellsItem x (λ item. item ≡ event report.kind report.node report.text report.place)) (TellsCalls x) p m q c.tell_calls.result c.in_ok-tell-in-Event.ensures c.tell_calls.ensures)
