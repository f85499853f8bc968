use Rattle.std.proofs.lemmas.Result.{err_from_is_err_and}
use Rattle.rip_client.specs.Sizes.{Comes, place_of}
use Rattle.rip_client.specs.Truth.{TellsCall, waiting_of}
use Rattle.rip_client.proofs.Telling.{at_err, call_stops, call_told}
use Rattle.rip_client.proofs.client.Client.tell_call.Goals as goal

pub returns-in_err-tell : goal.returns-in_err-tell
returns-in_err-tell g c =
    let w = waiting_of c.args.call.now in
    let p = place_of c.args.self.now c.args.giver.now in
    let q = place_of c.tell.new.self c.tell.new.giver in
    at_err (λ r. Comes (TellsCall g.A.Actor.session w) p r q) c.from_residual.result c.in_err-tell.field-0.0 (err_from_is_err_and c.from_residual.result c.from_residual.ensures.1)
    (call_stops (Unit {0}) (Unit {0}) g.A.Actor.session w p q c.in_err-tell.field-0.0 c.in_err-tell.ensures)

pub returns : goal.returns
returns g c =
    call_told g.A.Actor.session (waiting_of c.args.call.now) (place_of c.args.self.now c.args.giver.now) c.tell.new.self c.keep_waiting.new.self c.tell.new.giver c.in_ok-tell.ensures c.in_ok-keep_waiting.ensures.waiting c.in_ok-keep_waiting.ensures.others.0 c.in_ok-keep_waiting.ensures.others.1
