-- The roll with a session that is closed.
use Rattle.rip_table.proofs.CallLemmas.{closed_call}
use Rattle.rip_table.proofs.roll.roll.Roll.close.Goals as goal

pub returns-clause-closed : goal.returns-clause-closed
returns-clause-closed g c = λ sessions limit turn h stages s r standing closes.
    let done = c.close_at.ensures in
    closed_call (g.S.Sessions.stands sessions) (g.S.Sessions.meaning sessions) (g.S.Sessions.lawful sessions)
    limit turn c.args.session c.args.self.now c.close_at.new.self h stages s r standing closes
    c.requires.sound.table done.table done.limit done.busy done.closed
