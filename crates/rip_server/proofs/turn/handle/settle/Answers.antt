use Rattle.rip_server.specs.Acts.{seen}
use Rattle.rip_server.proofs.ReplyLemmas.{settled_then, settled_err}
use Rattle.rip_server.proofs.turn.handle.settle.Goals as goal

pub returns-in_err-put_some-clause-settled : goal.returns-in_err-put_some-clause-settled
returns-in_err-put_some-clause-settled g c = λ x es e free line closes.
    settled_err x.number c.args.close es c.args.decided.reply c.from_residual.result _ _
    (seen (g.D.Door.sent c.args.door.now) (g.D.Door.knocks c.args.door.now) (g.D.Door.shuts c.args.door.now) (g.D.Door.asked c.args.door.now) (g.K.Sink.held c.args.out.now))
    (g.K.Sink.held c.put_some.new.out) c.from_residual.ensures.0 (c.in_err-put_some.ensures.put es line)

pub returns-clause-settled : goal.returns-clause-settled
returns-clause-settled g c = λ x es e free line closes.
    settled_then x.number c.args.close es c.args.decided.reply c.reply_to.result _ _
    (seen (g.D.Door.sent c.args.door.now) (g.D.Door.knocks c.args.door.now) (g.D.Door.shuts c.args.door.now) (g.D.Door.asked c.args.door.now) (g.K.Sink.held c.args.out.now))
    (seen (g.D.Door.sent c.reply_to.new.door) (g.D.Door.knocks c.reply_to.new.door) (g.D.Door.shuts c.reply_to.new.door) (g.D.Door.asked c.reply_to.new.door) (g.K.Sink.held c.put_some.new.out))
    (g.K.Sink.held c.put_some.new.out) (c.in_ok-put_some.ensures.put es line)
    (c.reply_to.ensures.replied x (g.K.Sink.held c.put_some.new.out) e free closes)
