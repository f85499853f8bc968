-- A session that lives in a server stands at a stage.
use Rattle.std.proofs.Common.{◌≡◌, ℕ, Bool, true, false, List, Option, None, Some, refl, sym, ◌∙◌, subst}
use Rattle.std.specs.Prelude.{is_none}
use Rattle.std.proofs.lemmas.Bool.{false≢true}
use Rattle.rip_log.specs.Entries.{Recorded}
use Rattle.rip_wire.specs.declared.ending.Reason.{Reason}
use Rattle.rip_history.specs.Parts.{Meaning}
use Rattle.rip_history.specs.Run.{State, stage_of}
use Rattle.rip_history.specs.Stages.{Stage, is_ended}
use Rattle.rip_table.specs.Ordinals.{get_at}
use Rattle.rip_table.specs.Rolls.{IsAtStage, seats}
use Rattle.rip_table.specs.Seats.{Held, IsKeptAt, IsSeat}
use Rattle.rip_table.specs.declared.roll.seat.Seat.{Seat}
use Rattle.rip_table.specs.declared.roll.seat.Seat.TheVariants.{Live}
use Rattle.rip_table.proofs.HeldLemmas.{lent_stands}
use Rattle.rip_server.specs.declared.turn.server.Server.{Server}
use Rattle.rip_server.specs.Standing.{IsServer}

none-ended : (o : Option Reason) → true ≡ is_none o → o ≡ None
none-ended None e = refl
none-ended (Some reason) e = absurd (false≢true (sym e))

module _ {T : Type 0} (stands : T → Stage → Type 0) (m : Meaning) where
  -- a seat with a session that lives
  lives-at : (h : List Recorded) (n : ℕ) (held : Held T) (o : Option Stage) → IsSeat h n (Live held) → IsAtStage stands m (Some (Live held)) o
      → (st : Stage) × stands held.value.session st × (is_ended m st ≡ false)
  lives-at h n held None kept at = absurd at
  lives-at h n held (Some st) kept at =
      let lives = at.lives (none-ended held.value.standing.ended kept.lives) in
      (st, lent_stands stands (Live held) held held.value st refl refl lives.there, lives.open_yet)

  pub living_stands : (limit : ℕ) (server : Server T) (state : State) → IsServer stands m limit server state
      → (n : ℕ) (held : Held T) → get_at n (seats server.roll) ≡ Some (Live held) → (st : Stage) × stands held.value.session st × (is_ended m st ≡ false)
  living_stands limit server state is n held there =
      lives-at state.history n held (stage_of n state.stages)
      (subst (λ (o : Option (Seat T)). IsKeptAt state.history n o) there (is.roll.kept.each n))
      (subst (λ (o : Option (Seat T)). IsAtStage stands m o (stage_of n state.stages)) there (is.roll.each n))
