-- Work of many sessions: they open in order, then each tells its gestures, round by round, and this makes the lines of a trace.
use Rattle.std.specs.Prelude.{◌≡◌, ◌≢◌, ℕ, ◌+◌, ◌-◌, ◌/◌, ◌==◌, ◌&&◌, nat_le, not, Bool, true, false, List, [], ◌∷◌, ◌++◌, set, slice_get, Option, Some, None, if◌then◌else◌}
use Rattle.std.specs.List.{flat_map}
use Rattle.rip_eval_rows.specs.declared.close.Close.{Close}
use Rattle.rip_eval_rows.specs.declared.close.Close.TheVariants.{Fine, Refused, Mismatch, Stopped}
use Rattle.rip_wire.specs.Batches.{Contents, contents_of}
use Rattle.rip_wire.specs.declared.gesture.Gesture.{Gesture}
use Rattle.rip_client.specs.Bytes.{batches_of}
use Rattle.rip_client.specs.Truth.{Playing, TellsGesture}
use Rattle.rip_client.specs.declared.list.ToldBatch.{ToldBatch}
use Rattle.rip_gen.specs.Plans.{Plan, place_of}
use Rattle.rip_trace.specs.Said.{batch_line, opening_lines, quiet_lines}
use Rattle.rip_gen.specs.Lies.{lied, lies_in}

-- ---- sessions

-- the sessions of work, where A is the type of one and G that of what gives replies to all: how the session at a place goes,
-- where the first is at 0; that it opens and closes so, with what gives replies before and behind; and what gives replies
-- before any call
pub record Sessions (A G : Type 0) : Type 1 where
  pub goes : ℕ → Playing A G
  pub opens : ℕ → G → Close → A → G → Type 0
  pub gives : G → Type 0

-- a session that goes on: where it stands, the number of its next batch, and the calls whose replies wait
pub record Stand (A : Type 0) : Type 0 where
  pub session : A
  pub number : ℕ
  pub waiting : List ℕ

-- where each session stands, in order, or none of one that has ended; what gives replies; and whether the lie was told
pub record Stage (A G : Type 0) : Type 0 where
  pub stands : List (Option (Stand A))
  pub giver : G
  pub lied : Bool

-- no session was opened
abbrev pub first_stage : {A G : Type 0} → G → Stage A G
first_stage g = record { stands = []; giver = g; lied = false }

-- a session that was opened, before its first gesture
abbrev pub first_stand : {A : Type 0} → A → Stand A
first_stand a = record { session = a; number = 1; waiting = [] }

abbrev pub is_fine : Close → Bool
is_fine Fine = true
is_fine (Refused item kind) = false
is_fine (Mismatch item) = false
is_fine (Stopped item stop) = false

-- a session whose last item closed so goes on there, or has ended
abbrev pub goes_on : {A : Type 0} → Close → Stand A → Option (Stand A)
goes_on close stand = if is_fine close then Some stand else None

-- ---- lines

-- the opening of the session at a place, on the connection of that number, and so many turns behind it
abbrev pub open_lines : ℕ → ℕ → List ℕ
open_lines place quiet = opening_lines place ++ quiet_lines quiet

-- the turns behind the first of what takes so many units
abbrev pub waits : ℕ → ℕ
waits cost = (cost - 1) / 1000

-- a batch of the session at a place, and the turns behind it
abbrev pub told_line : ℕ → ToldBatch → List ℕ
told_line place told = batch_line place (place + 1) (contents_of told.batch) ++ quiet_lines (waits told.cost)

abbrev pub told_lines : ℕ → List ToldBatch → List ℕ
told_lines place told = flat_map (told_line place) told

-- ---- openings

abbrev pub with_stand : {A G : Type 0} → Option (Stand A) → G → Stage A G → Stage A G
with_stand stand behind s = record s { stands = s.stands ++ stand ∷ []; giver = behind }

-- so many sessions opened, in order
pub data Opened {A G : Type 0} (x : Sessions A G) : ℕ → Stage A G → List ℕ → Type 0 where
  none : (g : G) → x.gives g → Opened x 0 (first_stage g) []
  more : (place : ℕ) (s : Stage A G) (lines : List ℕ) (close : Close) (a : A) (behind : G) (quiet : ℕ) → Opened x place s lines → x.opens place s.giver close a behind
      → Opened x (place + 1) (with_stand (goes_on close (first_stand a)) behind s) (lines ++ open_lines place quiet)

-- ---- gestures

-- a session tells a gesture by these batches, from where it stands to there, and closes so
abbrev pub Tells : {A G : Type 0} → Playing A G → Gesture → Stand A → G → Close → List Contents → Stand A → G → Type 0
Tells x gesture a g close batches b h = TellsGesture x gesture a.session g a.number a.waiting close batches b.session h b.number b.waiting

-- it is the liar's turn to lie: in round 20 or later, where it has not lied yet
abbrev pub may_lie : Plan → ℕ → ℕ → Bool → Bool
may_lie plan round place lied = not lied && (nat_le 19 round && (place + 1 == plan.liar))

abbrev pub with_told : {A G : Type 0} → ℕ → Option (Stand A) → G → Stage A G → Stage A G
with_told place after behind s = record s { stands = set s.stands place after; giver = behind }

-- the liar ends where it lies; what it told is kept from the others
abbrev pub with_lie : {A G : Type 0} → ℕ → Option (Stand A) → Bool → Stage A G → Stage A G
with_lie place after is_told s = record s { stands = set s.stands place (if is_told then None else after); lied = is_told }

-- the session at a place tells a gesture, by these lines: one that has ended tells nothing; the liar, in its turn, tells the
-- name of its first call as `x`, and of what it tells replies are given apart
pub data Plays {A G : Type 0} (x : Sessions A G) (place : ℕ) (gesture : Gesture) (s : Stage A G) : Bool → Stage A G → List ℕ → Type 0 where
  skips : (lies : Bool) → ((stand : Stand A) → slice_get s.stands place ≢ Some (Some stand)) → Plays x place gesture s lies s []
  tells : (a b : Stand A) (close : Close) (behind : G) (told : List ToldBatch) → slice_get s.stands place ≡ Some (Some a)
      → Tells (x.goes place) gesture a s.giver close (batches_of told) b behind
      → Plays x place gesture s false (with_told place (goes_on close b) behind s) (told_lines place told)
  lies : (a b : Stand A) (close : Close) (fresh behind : G) (batches : List Contents) (told : List ToldBatch) → slice_get s.stands place ≡ Some (Some a) → x.gives fresh
      → Tells (x.goes place) gesture a fresh close batches b behind → batches_of told ≡ lied batches
      → Plays x place gesture s true (with_lie place (goes_on close b) (lies_in batches) s) (told_lines place told)

-- ---- rounds

-- so many rounds of the plan were played, and of the next so many sessions told their gesture; these are the lines so far
pub data Played {A G : Type 0} (x : Sessions A G) (plan : Plan) : ℕ → ℕ → Stage A G → List ℕ → Type 0 where
  opened : (s : Stage A G) (lines : List ℕ) → Opened x plan.sessions s lines → Played x plan 0 0 s lines
  told : (round place : ℕ) (s : Stage A G) (lines : List ℕ) (gesture : Gesture) (after : Stage A G) (behind : List ℕ) → Played x plan round place s lines
      → slice_get plan.gestures (place_of plan (round + 1) (place + 1)) ≡ Some gesture → Plays x place gesture s (may_lie plan round place s.lied) after behind
      → Played x plan round (place + 1) after (lines ++ behind)
  over : (round : ℕ) (s : Stage A G) (lines : List ℕ) → Played x plan round plan.sessions s lines → Played x plan (round + 1) 0 s lines

-- the lines of the plan: 40 rounds were played
abbrev pub AreLinesOf : {A G : Type 0} → Sessions A G → Plan → List ℕ → Type 0
AreLinesOf x plan lines = (s : Stage _ _) × Played x plan 40 0 s lines
