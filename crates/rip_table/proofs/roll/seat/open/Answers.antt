-- The session as it begins is kept apart.
use Rattle.std.proofs.Common.{◌∙◌, ap, refl, sym, subst}
use Rattle.rip_history.specs.Stages.{begun}
use Rattle.rip_table.specs.declared.roll.seat.Living.{Living}
use Rattle.rip_table.proofs.roll.seat.open.Goals as goal

pub returns-clause-opened : goal.returns-clause-opened
returns-clause-opened g c =
    let ok = c.in_ok-new.ensures.ok in
    record {
      standing = ap (λ (x : Living g.row.S-Session.Denot). x.standing) ok ∙ c.opened.ensures;
      noted = c.in_ok-new.field-0.value.notes;
      notes = refl;
      opening = ap (λ (x : Living g.row.S-Session.Denot). x.notes.opening) ok ∙ c.first.ensures.opening;
      told = ap (λ (x : Living g.row.S-Session.Denot). x.notes.told.items) ok ∙ c.first.ensures.told;
      making = ap (λ (x : Living g.row.S-Session.Denot). x.notes.making.items) ok ∙ c.first.ensures.making;
    }

pub returns-clause-stands : goal.returns-clause-stands
returns-clause-stands g c = record {
  held = c.in_ok-new.field-0;
  live = refl;
  at_stage =
      subst (λ (v : Living g.row.S-Session.Denot). g.S.Sessions.stands c.args.sessions.now v.session (begun c.args.seed c.args.time)) (sym c.in_ok-new.ensures.ok)
      c.in_ok-session.ensures;
}
