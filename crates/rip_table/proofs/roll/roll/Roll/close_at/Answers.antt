-- The seat that was lent is closed.
use Rattle.std.proofs.Common.{◌≡◌, subst}
use Rattle.rip_table.specs.Table.{at_ordinal, live_value}
use Rattle.rip_table.specs.Seats.{IsClosed}
use Rattle.rip_table.specs.declared.roll.seat.Seat.{Seat}
use Rattle.rip_table.proofs.CallLemmas.{lent_seat, end_changed}
use Rattle.rip_table.proofs.roll.roll.Roll.close_at.Goals as goal

pub returns-in-Some-clause-closed : goal.returns-in-Some-clause-closed
returns-in-Some-clause-closed g c = λ seat live.
    let same : c.in-Some.seat.now ≡ seat =
    lent_seat c.in-Some.seat.now seat (at_ordinal (live_value c.args.self.now.table) c.args.session) c.in-Some.ensures.value live in (
      c.close.new.seat,
      subst (λ (x : Seat g.row.T.Denot). IsClosed x c.close.new.seat) same c.close.ensures,
      end_changed c.args.session c.args.self.now.table c.end_at.new.self c.close.new.seat c.end_at.ensures.ends,
    )
