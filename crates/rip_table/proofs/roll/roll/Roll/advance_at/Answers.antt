-- The seat that was lent goes on.
use Rattle.std.proofs.Common.{◌≡◌, ◌∙◌, ◌-◌, Bool, sym, subst}
use Rattle.rip_table.specs.Table.{at_ordinal, live_value, with_value}
use Rattle.rip_table.specs.Rolls.{IsChanged}
use Rattle.rip_table.specs.Seats.{IsThere, SliceOf}
use Rattle.rip_table.specs.declared.roll.seat.Seat.{Seat}
use Rattle.rip_table.proofs.CallLemmas.{lent_seat, put_changed, end_changed}
use Rattle.rip_table.proofs.roll.roll.Roll.advance_at.Goals as goal

pub returns-then-has_ended-clause-advanced : goal.returns-then-has_ended-clause-advanced
returns-then-has_ended-clause-advanced g c = λ st meant calls seat live there undone replied.
    let stands = g.S.Sessions.stands c.args.sessions.now in
    let same : c.in-Some.seat.now ≡ seat =
    lent_seat c.in-Some.seat.now seat (at_ordinal (live_value c.args.self.now.table) c.args.slice.now.session) c.in-Some.ensures.value live in
    let a = c.advance-advanced in (
      a.new.seat,
      subst (λ (x : Seat g.row.T.Denot). SliceOf (g.S.Sessions.meaning c.args.sessions.now) st meant calls c.args.slice.now x a.new.seat a.result stands (g.V.Service.replies_as a.new.service meant)) same
          (a.ensures st meant calls (subst (λ (x : Seat g.row.T.Denot). IsThere stands x st) (sym same) there) undone replied),
      subst (λ (b : Bool). IsChanged c.args.slice.now.session c.args.self.now.table c.end_at.new.self a.new.seat b) (sym c.if-has_ended.true ∙ c.has_ended.ensures)
          (end_changed c.args.slice.now.session c.args.self.now.table c.end_at.new.self a.new.seat c.end_at.ensures.ends),
    )

pub returns-else-has_ended-clause-advanced : goal.returns-else-has_ended-clause-advanced
returns-else-has_ended-clause-advanced g c = λ st meant calls seat live there undone replied.
    let stands = g.S.Sessions.stands c.args.sessions.now in
    let same : c.in-Some.seat.now ≡ seat =
    lent_seat c.in-Some.seat.now seat (at_ordinal (live_value c.args.self.now.table) c.args.slice.now.session) c.in-Some.ensures.value live in
    let a = c.advance-advanced in (
      a.new.seat,
      subst (λ (x : Seat g.row.T.Denot). SliceOf (g.S.Sessions.meaning c.args.sessions.now) st meant calls c.args.slice.now x a.new.seat a.result stands (g.V.Service.replies_as a.new.service meant)) same
          (a.ensures st meant calls (subst (λ (x : Seat g.row.T.Denot). IsThere stands x st) (sym same) there) undone replied),
      subst (λ (b : Bool). IsChanged c.args.slice.now.session c.args.self.now.table (with_value c.args.self.now.table (c.args.slice.now.session - 1) a.new.seat) a.new.seat b) (sym c.if-has_ended.false ∙ c.has_ended.ensures)
          (put_changed c.args.slice.now.session c.args.self.now.table a.new.seat),
    )
