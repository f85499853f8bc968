use Rattle.std.proofs.Common.{◌∙◌, sym}
use Rattle.rip_host.proofs.OpeningLemmas.{body-on, body-here}
use Rattle.rip_host.proofs.opening.body_of.Goals as goal

pub loop-i-preserved : goal.loop-i-preserved
loop-i-preserved c =
    c.loop-i.invariant
    ∙ body-on c.args.page.now.nodes c.loop-i.i c.node.result.now c.node.ensures (sym c.is_body.ensures ∙ c.if-is_body.false)

pub returns-then-is_body-clause-body : goal.returns-then-is_body-clause-body
returns-then-is_body-clause-body c =
    sym (c.loop-i.invariant ∙ body-here c.args.page.now.nodes c.loop-i.i c.node.result.now c.node.ensures (sym c.is_body.ensures ∙ c.if-is_body.true))
