use Rattle.std.proofs.Common.{get_or, refl, arith}
use Rattle.std.proofs.lemmas.Result.{err_from_is_err_and}
use Rattle.rip_client.specs.Sizes.{Comes, place_of}
use Rattle.rip_client.specs.Truth.{TellsReplies}
use Rattle.rip_client.proofs.Telling.{answers_calls_stop, answers_more, answers_stop, at_err}
use Rattle.rip_client.proofs.client.Client.tell_replies.Goals as goal

pub returns-in_err-tell : goal.returns-in_err-tell
returns-in_err-tell g c =
    let x = g.A.Actor.session in
    let ks = c.args.due.now in
    let i = c.loop-number.number-index in
    let p = place_of c.args.self.now c.args.giver.now in
    let m = place_of c.loop-number.self c.loop-number.giver in
    let n = place_of c.tell.new.self c.tell.new.giver in
    let stop = c.in_err-tell.field-0.0 in
    at_err (λ r. Comes (TellsReplies x ks) p r n) c.from_residual.result stop (err_from_is_err_and c.from_residual.result c.from_residual.ensures.1)
    (answers_stop x ks i (get_or ks i 0) 0 p m n stop (omega arith) refl c.loop-number.invariant c.in_err-tell.ensures)

pub returns-in_err-tell_calls : goal.returns-in_err-tell_calls
returns-in_err-tell_calls g c =
    let x = g.A.Actor.session in
    let ks = c.args.due.now in
    let i = c.loop-number.number-index in
    let p = place_of c.args.self.now c.args.giver.now in
    let m = place_of c.loop-number.self c.loop-number.giver in
    let n = place_of c.tell.new.self c.tell.new.giver in
    let o = place_of c.tell_calls.new.self c.tell_calls.new.giver in
    let stop = c.in_err-tell_calls.field-0.0 in
    at_err (λ r. Comes (TellsReplies x ks) p r o) c.from_residual-in_err-tell_calls.result stop (err_from_is_err_and c.from_residual-in_err-tell_calls.result c.from_residual-in_err-tell_calls.ensures.1)
    (answers_calls_stop x ks i (get_or ks i 0) 0 p m n o stop (omega arith) refl c.loop-number.invariant c.in_ok-tell.ensures c.in_err-tell_calls.ensures)

pub loop-number-preserved : goal.loop-number-preserved
loop-number-preserved g c =
    let x = g.A.Actor.session in
    let ks = c.args.due.now in
    let i = c.loop-number.number-index in
    answers_more x ks i (get_or ks i 0) 0 (place_of c.args.self.now c.args.giver.now) (place_of c.loop-number.self c.loop-number.giver) (place_of c.tell.new.self c.tell.new.giver) (place_of c.tell_calls.new.self c.tell_calls.new.giver) (omega arith) refl c.loop-number.invariant c.in_ok-tell.ensures c.in_ok-tell_calls.ensures
