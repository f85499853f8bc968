-- A slice of no units.
use Rattle.std.proofs.Common.{◌≡◌, ℕ, List, [], map, inl, refl, sym, subst, arith, append-nil}
use Rattle.rip_wire.specs.Answers.{served_of}
use Rattle.rip_log.specs.Entries.{recorded_of}
use Rattle.rip_history.specs.Parts.{Meaning}
use Rattle.rip_history.specs.Services.{Called, Service}
use Rattle.rip_history.specs.Stages.{GoesOn, Resumed, Stage, parts_at}
use Rattle.rip_history.specs.declared.sessions.Made.{Made}
use Rattle.rip_history.specs.declared.sessions.Progress.TheVariants.{Busy}
use Rattle.rip_history.specs.declared.sessions.Slice.{Slice}

-- nothing comes in it
rests_on : (m : Meaning) (st : Stage) (n : ℕ) → n ≡ 0 → GoesOn m st n [] [] st
rests_on m st n none = record {
  seed = refl;
  time = refl;
  batches = refl;
  given = sym (append-nil st.given);
  units = omega (arith, none);
  lacking = inl refl;
  come = sym (append-nil (parts_at m st));
  now = tt;
  each = refl;
}

-- the session stays as it is, and nothing is told
pub rests : (m : Meaning) (st : Stage) (service : Service) (calls : List Called) (slice : Slice) (made : Made) (Stands : Stage → Type 0) (Replies : List Called → Type 0)
    → slice.units ≡ 0 → Stands st → Replies calls → Resumed m st service calls slice made made Busy Stands Replies
rests m st service calls slice made Stands Replies none stands replies = record {
  parts = [];
  given = [];
  next = st;
  goes_on = rests_on m st slice.units none;
  stands = stands;
  replied = refl;
  replies = subst Replies (sym (append-nil calls)) replies;
  entries = sym (append-nil (map recorded_of made.entries.items));
  served = sym (append-nil (map served_of made.served.items));
  how_far = refl;
}
