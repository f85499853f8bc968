use Rattle.std.proofs.Common.{◌≡◌, Some, get_or, sym, ap, ◌∙◌}
use Rattle.std.specs.Prelude.{remove}
use Rattle.rip_host.proofs.ReplyLemmas.{found_at, found_none, same_waiting}
use Rattle.rip_host.specs.Waiting.{Waiting}
use Rattle.rip_host.proofs.replies.Undelivered.take_due.Goals as goal

pub returns-in-Some-clause-taken : goal.returns-in-Some-clause-taken
returns-in-Some-clause-taken c =
    let p = found_at c.args.number c.args.batch c.args.self.now.replies c.in-Some.place (sym c.place.ensures ∙ c.in-Some.is) in
    let v : c.remove.result ≡ get_or c.args.self.now.replies c.in-Some.place c.remove.result =
    c.remove.ensures.value ∙ ap (λ (u : Waiting). get_or u.replies c.in-Some.place c.remove.result) c.self.view_is in
    ap Some v ∙ sym (p.found c.remove.result)

pub returns-in-Some-clause-left : goal.returns-in-Some-clause-left
returns-in-Some-clause-left c =
    let p = found_at c.args.number c.args.batch c.args.self.now.replies c.in-Some.place (sym c.place.ensures ∙ c.in-Some.is) in
    same_waiting (ap (λ (u : Waiting). u.most) c.self.view_is)
    (c.remove.ensures.items ∙ ap (λ (u : Waiting). remove u.replies c.in-Some.place) c.self.view_is ∙ sym p.rest)

pub returns-in-None-clause-taken : goal.returns-in-None-clause-taken
returns-in-None-clause-taken c = sym (found_none c.args.number c.args.batch c.args.self.now.replies (sym c.place.ensures ∙ c.in-None.is)).0

pub returns-in-None-clause-left : goal.returns-in-None-clause-left
returns-in-None-clause-left c =
    ap (λ rs. record c.args.self.now { replies = rs }) (sym (found_none c.args.number c.args.batch c.args.self.now.replies (sym c.place.ensures ∙ c.in-None.is)).1)
