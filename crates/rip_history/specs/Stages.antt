-- How far a session went, and that it goes on.
use Rattle.std.specs.Prelude.{◌≡◌, ◌⊎◌, ℕ, ◌+◌, ◌<◌, ◌==◌, ◌&&◌, ◌||◌, Bool, true, false, nat_lt, nat_le, List, [], ◌∷◌, ◌++◌, length, map, Option, Some, None, if◌then◌else◌}
use Rattle.std.specs.List.{AllByRecursion, list_any}
use Rattle.rip_wire.specs.Answers.{served_of}
use Rattle.rip_wire.specs.Batches.{Contents}
use Rattle.rip_wire.specs.declared.ending.Ending.{Ending}
use Rattle.rip_log.specs.Entries.{recorded_of}
use Rattle.rip_history.specs.Parts.{finishes, Part, Given, Meaning, IsLawful, ends_batch, served_count, has_finished, has_ended, Lacking, IsLack, with_lack}
use Rattle.rip_history.specs.Services.{Called, Service, called_in, given_by, served_entries, answered_calls}
use Rattle.rip_history.specs.declared.sessions.Made.{Made}
use Rattle.rip_history.specs.declared.sessions.Progress.{Progress}
use Rattle.rip_history.specs.declared.sessions.Progress.TheVariants.{Busy, Finished}
use Rattle.rip_history.specs.declared.sessions.Slice.{Slice}

-- what a session was given, and how far it went: its seed and time; the batches that were admitted, after the opening;
-- what its served calls were given; the units that the last of its batches got; and where memory was wanting, if it was
pub record Stage : Type 0 where
  pub seed : ℕ
  pub time : ℕ
  pub batches : List Contents
  pub given : List Given
  pub units : ℕ
  pub lacking : Option Lacking

-- a part has come, where the last batch has this number and got so many units: it is of an earlier batch, or its cost
-- is spent
abbrev pub has_come : ℕ → ℕ → Part → Bool
has_come last units p = nat_lt p.batch last || (p.batch == last && nat_le p.cost units)

-- the parts before the first that has not come
abbrev pub come : ℕ → ℕ → List Part → List Part
come last units [] = []
come last units (p ∷ ps) = if has_come last units p then p ∷ come last units ps else []

-- all that the session does if it gets units without end and no more batches
abbrev pub whole_parts : Meaning → Stage → List Part
whole_parts m st = with_lack st.lacking (m st.seed st.time st.batches st.given)

-- what it has done so far
abbrev pub parts_at : Meaning → Stage → List Part
parts_at m st = come (length st.batches) st.units (whole_parts m st)

-- a batch of this number is done in these parts
abbrev pub finishes_batch : ℕ → List Part → Bool
finishes_batch number ps = list_any (λ (p : Part). p.batch == number && ends_batch p.fact) ps

-- the last batch is done
abbrev pub is_done : Meaning → Stage → Bool
is_done m st = finishes_batch (length st.batches) (parts_at m st)

-- the session has ended
abbrev pub is_ended : Meaning → Stage → Bool
is_ended m st = has_ended (parts_at m st)

-- as it is opened
abbrev pub begun : ℕ → ℕ → Stage
begun seed time = record { seed = seed; time = time; batches = []; given = []; units = 0; lacking = None }

-- after one more batch was admitted
abbrev pub with_batch : Contents → Stage → Stage
with_batch b st = record st { batches = st.batches ++ b ∷ []; units = 0 }

-- a batch may be admitted: memory was not wanting, the last one is done and has not ended the session, and this has the
-- next number
pub record MayAdmit (m : Meaning) (st : Stage) (b : Contents) : Type 0 where
  pub sound : st.lacking ≡ None
  pub done : is_done m st ≡ true
  pub lives : is_ended m st ≡ false
  pub next : b.number ≡ length st.batches + 1

-- what has come stays: nothing comes without a unit, and a batch that is admitted changes nothing that came
pub record KeepsParts (m : Meaning) : Type 0 where
  pub opens : (seed time : ℕ) → parts_at m (begun seed time) ≡ []
  pub admits : (st : Stage) (b : Contents) → MayAdmit m st b → parts_at m (with_batch b st) ≡ parts_at m st

-- so it is of each lawful meaning
abbrev pub MeaningsKeep : Type 0
MeaningsKeep = (m : Meaning) → IsLawful m → KeepsParts m

-- memory is wanting where it may be, and the session ends so in these parts
pub record IsNewLack (whole parts : List Part) (old new : Option Lacking) : Type 0 where
  pub lack : Lacking
  pub none : old ≡ None
  pub some : new ≡ Some lack
  pub may : IsLack lack whole
  pub ends : has_ended parts ≡ true

-- memory was wanting where it was, or it is from now on
abbrev pub GoesLacking : List Part → List Part → Option Lacking → Option Lacking → Type 0
GoesLacking whole parts old new = (new ≡ old) ⊎ IsNewLack whole parts old new

-- the part comes now: it is of the last batch, and costs more than was spent before
pub record ComesNow (st : Stage) (p : Part) : Type 0 where
  pub batch : p.batch ≡ length st.batches
  pub above : st.units < p.cost

-- the session goes on by n units: these parts come, and the served calls among them are given these
pub record GoesOn (m : Meaning) (st : Stage) (n : ℕ) (new : List Given) (parts : List Part) (next : Stage) : Type 0 where
  pub seed : next.seed ≡ st.seed
  pub time : next.time ≡ st.time
  pub batches : next.batches ≡ st.batches
  pub given : next.given ≡ st.given ++ new
  pub units : next.units ≡ st.units + n
  pub lacking : GoesLacking (m st.seed st.time st.batches (st.given ++ new)) parts st.lacking next.lacking
  pub come : parts_at m next ≡ parts_at m st ++ parts
  pub now : AllByRecursion (ComesNow st) parts
  pub each : served_count parts ≡ length new

-- the last of these parts, and no other, ends its batch, and so
pub record FinishesSo (how : Option Ending) (parts : List Part) : Type 0 where
  pub others : List Part
  pub last : Part
  pub are : parts ≡ others ++ last ∷ []
  pub busy : has_finished others ≡ false
  pub fact : last.fact ≡ finishes how

-- what is told of these parts: the batch is busy where none of them ends it, and else it is done so at the last of them
abbrev pub IsProgress : Progress → List Part → Type 0
IsProgress Busy parts = has_finished parts ≡ false
IsProgress (Finished how) parts = FinishesSo how parts

-- what comes of a slice for a session at a stage, where a service replied to these calls before: how the session stands
-- and how the service replies is told for each stage and all calls
pub record Resumed (m : Meaning) (st : Stage) (service : Service) (calls : List Called) (slice : Slice) (old new : Made) (progress : Progress)
    (Stands : Stage → Type 0) (Replies : List Called → Type 0) : Type 0 where
  pub parts : List Part
  pub given : List Given
  pub next : Stage
  pub goes_on : GoesOn m st slice.units given parts next
  pub stands : Stands next
  pub replied : given ≡ given_by service calls slice.time parts
  pub replies : Replies (calls ++ called_in parts)
  pub entries : map recorded_of new.entries.items ≡ map recorded_of old.entries.items ++ served_entries slice.turn slice.session parts given
  pub served : map served_of new.served.items ≡ map served_of old.served.items ++ answered_calls parts given
  pub how_far : IsProgress progress parts
