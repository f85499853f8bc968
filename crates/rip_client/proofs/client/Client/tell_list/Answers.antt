use Rattle.std.proofs.Common.{◌≡◌, ℕ, List, [], Err, ap, subst, ◌∙◌}
use Rattle.std.proofs.lemmas.Result.{err_from_is_err_and}
use Rattle.rip_eval_rows.specs.declared.close.Close.TheVariants.{Fine}
use Rattle.rip_client.specs.Sizes.{Comes, place_of}
use Rattle.rip_client.specs.Truth.{TellsCalls, TellsEvent, TellsList, TellsReplies, Then}
use Rattle.rip_client.proofs.Telling.{at_err, list_comes, then_comes, then_stops}
use Rattle.rip_client.proofs.client.Client.tell_list.Goals as goal

pub returns-in_err-tell_calls : goal.returns-in_err-tell_calls
returns-in_err-tell_calls g c =
    let x = g.A.Actor.session in
    let told = c.args.gesture.now in
    let p = place_of c.args.self.now c.args.giver.now in
    let q = place_of c.tell_calls.new.self c.tell_calls.new.giver in
    let stop = c.in_err-tell_calls.field-0.0 in
    let none = ap (λ v. v.items) c.replace-due.ensures.after ∙ c.new.ensures.items in
    let first = subst (λ (ws : List ℕ). Comes {T = Unit {0}} (TellsCalls x) (record p { waiting = ws }) (Err stop) q) none c.in_err-tell_calls.ensures in
    at_err (λ r. Comes (TellsList x told) p r q) c.from_residual.result stop (err_from_is_err_and c.from_residual.result c.from_residual.ensures.1)
    (list_comes {T = Unit {0}} x told p q (Err stop) (then_stops (Unit {0}) (Unit {0}) (TellsCalls x) (Then (TellsReplies x p.waiting) (TellsEvent x told)) (record p { waiting = [] }) q stop first))

pub returns : goal.returns
returns g c =
    let x = g.A.Actor.session in
    let told = c.args.gesture.now in
    let p = place_of c.args.self.now c.args.giver.now in
    let m = place_of c.tell_calls.new.self c.tell_calls.new.giver in
    let q = place_of c.tell_behind.new.self c.tell_behind.new.giver in
    let none = ap (λ v. v.items) c.replace-due.ensures.after ∙ c.new.ensures.items in
    let first = subst (λ (ws : List ℕ). TellsCalls x (record p { waiting = ws }) Fine m) none c.in_ok-tell_calls.ensures in
    let second = subst (λ v. Comes (Then (TellsReplies x v.items) (TellsEvent x told)) m c.tell_behind.result q) c.replace-due.ensures.value c.tell_behind.ensures in
    list_comes x told p q c.tell_behind.result (then_comes (TellsCalls x) (Then (TellsReplies x p.waiting) (TellsEvent x told)) (record p { waiting = [] }) m q c.tell_behind.result first second)
