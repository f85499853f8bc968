use Rattle.rip_server.proofs.ReplyLemmas.{messaged_so, messaged_err}
use Rattle.rip_server.proofs.turn.handle.on_message.Goals as goal

pub returns-in_err-decided-clause-handled : goal.returns-in_err-decided-clause-handled
returns-in_err-decided-clause-handled g c = λ limit h stages x is e.
    messaged_err limit c.args.at.turn c.args.at.time x.number c.args.message h stages _ _ _ c.from_residual.result _ _ _ _ _ c.from_residual.ensures.0
    (c.in_err-decided.ensures.comes limit h stages is)

pub returns-clause-handled : goal.returns-clause-handled
returns-clause-handled g c = λ limit h stages x is e.
    messaged_so limit c.args.at.turn c.args.at.time x.number c.args.message h stages _ c.in_ok-decided.decided c.settle.result _ _ _ _ _ _
    (c.in_ok-decided.ensures.comes limit h stages is)
    (λ es line closes. c.settle.ensures.settled x es e (c.requires.free x e) line closes)
