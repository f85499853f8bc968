use Rattle.std.proofs.Common.{sym, ◌∙◌, rules}
use Rattle.rip_host.proofs.ReplyLemmas.{found_at, found_none}
use Rattle.rip_host.proofs.replies.Undelivered.due.Goals as goal

pub returns-in-Some : goal.returns-in-Some
returns-in-Some c =
    let p = found_at c.args.number c.args.batch c.args.self.now.replies c.in-Some.place (sym c.place-place.ensures ∙ c.in-Some.is) in
    let f = p.found in
    let w = p.within in
    search (rules, f, w)

pub returns-in-None : goal.returns-in-None
returns-in-None c = (found_none c.args.number c.args.batch c.args.self.now.replies (sym c.place-place.ensures ∙ c.in-None.is)).0
