use Rattle.std.proofs.Common.{subst}
use Rattle.rip_headline.specs.declared.limits.counts.Used.{Used}
use Rattle.rip_headline.specs.Within.{IsWithin}
use Rattle.rip_headline.proofs.Ended.{passes_none}
use Rattle.rip_headline.proofs.pages.pages_pass_no_limit.Goals as goal

pub returns : goal.returns
returns c = λ app st at.
    let r = c.args.session.now.replica in
    let n = r.runner in
    let own = subst (λ (u : Used). IsWithin u r.heap n.evaluator r.host) c.used_by_session.ensures.used c.used_by_session.ensures.within in
    passes_none app r st at (record { nodes = own.nodes; waiting = own.waiting; replies = own.replies })
