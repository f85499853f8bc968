-- The seat that was lent has one more batch.
use Rattle.std.proofs.Common.{◌≡◌, sym, subst}
use Rattle.rip_table.specs.Table.{at_ordinal, live_value}
use Rattle.rip_table.specs.Seats.{IsThere, IsAdmitted}
use Rattle.rip_table.specs.declared.roll.seat.Seat.{Seat}
use Rattle.rip_table.proofs.CallLemmas.{lent_seat, put_changed, same_put}
use Rattle.rip_table.proofs.ResultLemmas.{on_ok_both, on_err}
use Rattle.rip_table.proofs.roll.roll.Roll.admit_at.Goals as goal

pub returns-in-Some-clause-admitted : goal.returns-in-Some-clause-admitted
returns-in-Some-clause-admitted g c = λ st seat live there may.
    let same : c.in-Some.seat.now ≡ seat =
    lent_seat c.in-Some.seat.now seat (at_ordinal (live_value c.args.self.now.table) c.args.session) c.in-Some.ensures.value live in
    let stands = g.S.Sessions.stands c.args.sessions.now in
    on_ok_both c.admit.result
    (λ a s. (
      c.admit.new.seat,
      subst (λ (x : Seat g.row.T.Denot). IsAdmitted c.args.batch.number x c.admit.new.seat) same a,
      s,
      put_changed c.args.session c.args.self.now.table c.admit.new.seat,
    ))
    c.admit.ensures.admitted
    (c.admit.ensures.stands st (subst (λ (x : Seat g.row.T.Denot). IsThere stands x st) (sym same) there) may)

pub returns-in-Some-clause-same : goal.returns-in-Some-clause-same
returns-in-Some-clause-same g c =
    on_err c.admit.result (λ e. same_put c.args.session c.args.self.now.table c.in-Some.seat.now c.admit.new.seat c.in-Some.ensures.value e) c.admit.ensures.memory
