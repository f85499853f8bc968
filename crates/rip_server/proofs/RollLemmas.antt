-- A roll of sessions at rest, and as it is made.
use Rattle.std.proofs.Common.{◌≡◌, ℕ, zero, suc, List, [], ◌++◌, take, drop, Option, Some, None, refl, sym, ap, subst, ◌∙◌, arith}
use Rattle.rip_log.specs.Entries.{Recorded}
use Rattle.rip_history.specs.Connections.{Connections as Links, no_connections}
use Rattle.rip_history.specs.Parts.{Meaning}
use Rattle.rip_history.specs.Run.{busy_in, stage_of}
use Rattle.rip_history.specs.Stages.{Stage}
use Rattle.rip_table.specs.Ordinals.{get_at}
use Rattle.rip_table.specs.Rolls.{IsAtRest, IsKept, IsAtStage, IsRollOf, seats, waiting}
use Rattle.rip_table.specs.Seats.{IsKeptAt}
use Rattle.rip_table.specs.declared.roll.roll.Roll.{Roll}
use Rattle.rip_table.specs.declared.roll.seat.Seat.{Seat}
use Rattle.rip_server.specs.Links.{AreLinks}

pub no_links : (P : ℕ → Type 0) (k : Links) → k ≡ no_connections → AreLinks P k
no_links P k e = subst (AreLinks P) (sym e) (record { rising = tt; each = tt; few = omega arith })

no_stage : (n : ℕ) → stage_of n [] ≡ None
no_stage zero = refl
no_stage (suc n) = refl

module _ {T : Type 0} where
  -- at rest those that wait for their turn are all that are busy
  pub waiting_busy : (limit : ℕ) (roll : Roll T) (h : List Recorded) → IsAtRest roll → IsKept limit roll h → waiting roll ≡ busy_in h
  waiting_busy limit roll h rest kept =
      let items = roll.busy.list.items in
      sym (ap (λ (k : ℕ). take k items ++ drop roll.busy.next items) rest.kept) ∙ kept.busy

  pub first_roll : (stands : T → Stage → Type 0) (m : Meaning) (limit : ℕ) (roll : Roll T) → IsKept limit roll [] → IsRollOf stands m limit roll [] []
  first_roll stands m limit roll kept = record { kept = kept; count = refl; each = λ n. by n (get_at n (seats roll)) (kept.each n) }
    where
      by : (n : ℕ) (o : Option (Seat T)) → IsKeptAt [] n o → IsAtStage stands m o (stage_of n [])
      by n None e = no_stage n
      by n (Some seat) e = let s = e.standing in cc
