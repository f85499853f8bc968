-- The session that lives has one more batch.
use Rattle.std.proofs.Common.{◌∙◌, ap, refl, sym}
use Rattle.std.specs.Box.{with_value}
use Rattle.rip_table.specs.declared.roll.seat.Living.{Living}
use Rattle.rip_table.specs.declared.roll.seat.Seat.TheVariants.{Live}
use Rattle.rip_table.proofs.HeldLemmas.{lent_stands, batch_admitted}
use Rattle.rip_table.proofs.ResultLemmas.{on_ok, on_err}
use Rattle.rip_table.proofs.roll.seat.admit.Goals as goal

pub returns-in-Live-clause-admitted : goal.returns-in-Live-clause-admitted
returns-in-Live-clause-admitted g c =
    on_ok c.admit_to.result
    (λ b. batch_admitted c.args.batch.number c.args.seat.now c.in-Live.living c.deref_mut.result.now c.admit_to.new.living c.in-Live.is c.deref_mut.ensures.value b)
    c.admit_to.ensures.admitted

pub returns-in-Live-clause-stands : goal.returns-in-Live-clause-stands
returns-in-Live-clause-stands g c = λ st there may.
    on_ok c.admit_to.result (λ s. record { held = with_value c.in-Live.living c.admit_to.new.living; live = refl; at_stage = s })
    (c.admit_to.ensures.stands st
    (lent_stands (g.S.Sessions.stands c.args.sessions.now) c.args.seat.now c.in-Live.living c.deref_mut.result.now st c.in-Live.is c.deref_mut.ensures.value there)
    may)

pub returns-in-Live-clause-memory : goal.returns-in-Live-clause-memory
returns-in-Live-clause-memory g c =
    on_err c.admit_to.result
    (λ e. ap (λ (v : Living g.row.S-Session.Denot). Live (with_value c.in-Live.living v)) (e ∙ c.deref_mut.ensures.value) ∙ sym c.in-Live.is)
    c.admit_to.ensures.memory
