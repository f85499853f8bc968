-- The session that lives goes on.
use Rattle.std.proofs.Common.{refl, subst}
use Rattle.std.specs.Box.{with_value}
use Rattle.rip_table.specs.Seats.{LivingSlice}
use Rattle.rip_table.specs.declared.roll.seat.Living.{Living}
use Rattle.rip_table.proofs.HeldLemmas.{lent_stands}
use Rattle.rip_table.proofs.roll.seat.resume.Goals as goal

pub returns-in-Live : goal.returns-in-Live
returns-in-Live g c = λ st meant calls there undone replied.
    let stands = g.S.Sessions.stands c.args.sessions.now in
    record {
      before = c.in-Live.living;
      was = c.in-Live.is;
      held = with_value c.in-Live.living c.go_on.new.living;
      is = refl;
      went_on =
          subst (λ (x : Living g.row.S-Session.Denot). LivingSlice (g.S.Sessions.meaning c.args.sessions.now) st meant calls c.args.slice.now x c.go_on.new.living c.go_on.result stands (g.V.Service.replies_as c.go_on.new.service meant))
          c.deref_mut.ensures.value
          (c.go_on.ensures st meant calls
          (lent_stands stands c.args.seat.now c.in-Live.living c.deref_mut.result.now st c.in-Live.is c.deref_mut.ensures.value there) undone replied);
    }
