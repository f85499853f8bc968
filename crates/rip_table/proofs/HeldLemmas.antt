-- A session that lives, in its seat.
use Rattle.std.proofs.Common.{◌≡◌, ℕ, Some, sym, ap, ◌∙◌, subst}
use Rattle.std.specs.Box.{with_value}
use Rattle.rip_history.specs.Stages.{Stage}
use Rattle.rip_history.specs.Standings.{when_admitted}
use Rattle.rip_table.specs.Seats.{Held, standing_in, notes_in, IsThere, HasBatch, IsAdmitted}
use Rattle.rip_table.specs.declared.roll.seat.Living.{Living}
use Rattle.rip_table.specs.declared.roll.seat.Notes.{Notes}
use Rattle.rip_table.specs.declared.roll.seat.Seat.{Seat}
use Rattle.rip_table.specs.declared.roll.seat.Seat.TheVariants.{Live, Ended}

module _ {T : Type 0} where
  abbrev held-or : Held T → Seat T → Held T
  held-or d (Live held) = held
  held-or d (Ended last reason) = d

  pub same_live : (a b : Held T) → Live a ≡ Live b → a ≡ b
  same_live a b e = ap (held-or a) e

  -- the session that is lent from its seat stands at the stage
  pub lent_stands : (stands : T → Stage → Type 0) (seat : Seat T) (held : Held T) (lent : Living T) (st : Stage) → seat ≡ Live held → lent ≡ held.value
      → IsThere stands seat st → stands lent.session st
  lent_stands stands seat held lent st is same there =
      subst (λ (v : Living T). stands v.session st) (sym same)
      (subst (λ (b : Held T). stands b.value.session st) (same_live there.held held (sym there.live ∙ is)) there.at_stage)

  -- one more batch
  pub batch_admitted : (number : ℕ) (seat : Seat T) (held : Held T) (lent new : Living T) → seat ≡ Live held → lent ≡ held.value
      → HasBatch number lent new → IsAdmitted number seat (Live (with_value held new))
  batch_admitted number seat held lent new is same b = record {
    standing =
        b.standing ∙ ap (λ (x : Living T). when_admitted number x.standing) same
        ∙ ap (λ (x : Seat T). when_admitted number (standing_in x)) (sym is);
    notes = ap (λ (n : Notes). Some n) (b.notes ∙ ap (λ (x : Living T). x.notes) same) ∙ ap notes_in (sym is);
  }
