use Rattle.std.proofs.Common.{subst}
use Rattle.std.proofs.lemmas.Result.{err_from_is_err_and}
use Rattle.rip_client.specs.Sizes.{Comes, place_of}
use Rattle.rip_client.specs.Truth.{IsNext, TellsCalls, waiting_of}
use Rattle.rip_client.proofs.Telling.{at_err, follows_break, follows_end, follows_more}
use Rattle.rip_client.proofs.client.Client.tell_calls.Goals as goal

pub returns-in_err-tell_call-in-Some : goal.returns-in_err-tell_call-in-Some
returns-in_err-tell_call-in-Some g c =
    let x = g.A.Actor.session in
    let p = place_of c.args.self.now c.args.giver.now in
    let m = place_of c.loop-told.self c.loop-told.giver in
    let n = place_of c.tell_call.new.self c.tell_call.new.giver in
    let stop = c.in_err-tell_call-in-Some.field-0.0 in
    let next = subst (λ o. IsNext (x.next c.loop-told.self.actor) o) c.in-Some.is c.in_ok-call.ensures in
    at_err (λ r. Comes (TellsCalls x) p r n) c.from_residual-in_err-tell_call-in-Some.result stop (err_from_is_err_and c.from_residual-in_err-tell_call-in-Some.result c.from_residual-in_err-tell_call-in-Some.ensures.1)
    (follows_break (Unit {0}) x p m n (waiting_of c.in-Some.call) stop c.loop-told.invariant next c.in_err-tell_call-in-Some.ensures)

pub returns-in-None : goal.returns-in-None
returns-in-None g c =
    let x = g.A.Actor.session in
    follows_end x (place_of c.args.self.now c.args.giver.now) (place_of c.loop-told.self c.loop-told.giver) c.loop-told.invariant (subst (λ o. IsNext (x.next c.loop-told.self.actor) o) c.in-None.is c.in_ok-call.ensures)

pub loop-told-preserved : goal.loop-told-preserved
loop-told-preserved g c =
    let x = g.A.Actor.session in
    let next = subst (λ o. IsNext (x.next c.loop-told.self.actor) o) c.in-Some.is c.in_ok-call.ensures in
    follows_more x (place_of c.args.self.now c.args.giver.now) (place_of c.loop-told.self c.loop-told.giver) (place_of c.tell_call.new.self c.tell_call.new.giver) (waiting_of c.in-Some.call) c.loop-told.invariant next c.in_ok-tell_call-in-Some.ensures
