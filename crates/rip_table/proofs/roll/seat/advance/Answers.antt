-- A seat goes on, and is given up where its batch ended the session.
use Rattle.rip_table.proofs.SliceLemmas.{slice_of}
use Rattle.rip_table.proofs.roll.seat.advance.Goals as goal

pub returns : goal.returns
returns g c = λ st meant calls there undone replied.
    slice_of (g.S.Sessions.stands c.args.sessions.now) (g.S.Sessions.meaning c.args.sessions.now) st meant calls c.args.slice.now
    c.args.seat.now c.resume-advanced.new.seat c.give_up.new.seat c.resume-advanced.result (g.V.Service.replies_as c.resume-advanced.new.service meant)
    (c.resume-advanced.ensures st meant calls there undone replied) c.give_up.ensures
