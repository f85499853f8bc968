use Rattle.std.proofs.Common.{ℕ, List, Err, subst}
use Rattle.std.proofs.lemmas.Result.{err_from_is_err_and}
use Rattle.rip_eval_rows.specs.declared.close.Close.TheVariants.{Fine}
use Rattle.rip_client.specs.Sizes.{Comes, place_of}
use Rattle.rip_client.specs.Truth.{TellsEvent, TellsReplies, Then}
use Rattle.rip_client.proofs.Telling.{at_err, then_comes, then_stops}
use Rattle.rip_client.proofs.client.Client.tell_behind.Goals as goal

pub returns-in_err-tell_replies : goal.returns-in_err-tell_replies
returns-in_err-tell_replies g c =
    let x = g.A.Actor.session in
    let second = TellsEvent x c.args.gesture.now in
    let p = place_of c.args.self.now c.args.giver.now in
    let q = place_of c.tell_replies.new.self c.tell_replies.new.giver in
    let stop = c.in_err-tell_replies.field-0.0 in
    let first = subst (λ (ks : List ℕ). Comes {T = Unit {0}} (TellsReplies x ks) p (Err stop) q) c.as_slice.ensures.value c.in_err-tell_replies.ensures in
    at_err (λ r. Comes (Then (TellsReplies x c.args.due.items) second) p r q) c.from_residual.result stop (err_from_is_err_and c.from_residual.result c.from_residual.ensures.1)
    (then_stops (Unit {0}) (Unit {0}) (TellsReplies x c.args.due.items) second p q stop first)

pub returns : goal.returns
returns g c =
    let x = g.A.Actor.session in
    let p = place_of c.args.self.now c.args.giver.now in
    let m = place_of c.tell_replies.new.self c.tell_replies.new.giver in
    let first = subst (λ (ks : List ℕ). TellsReplies x ks p Fine m) c.as_slice.ensures.value c.in_ok-tell_replies.ensures in
    then_comes (TellsReplies x c.args.due.items) (TellsEvent x c.args.gesture.now) p m (place_of c.tell_event.new.self c.tell_event.new.giver) c.tell_event.result first c.tell_event.ensures
