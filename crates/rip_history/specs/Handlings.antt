-- In which turns the requests of a connection are handled.
use Rattle.std.specs.Prelude.{◌≡◌, ℕ, ◌+◌, ◌<◌, ◌≤◌, max, List, [], ◌∷◌, Option, Some, None}

-- when a request is answered: in the turn in which it is handled; at the end of a turn, when its batch is done; or never
pub data Answered : Type 0 where
  at_once : Answered
  when_done : ℕ → Answered
  never : Answered

-- a request of a connection: the turn by which all its bytes have come, and when it is answered
pub record Request : Type 0 where
  pub came : ℕ
  pub answered : Answered

-- one that was handled in this turn is answered before another is handled in turn t: in the same turn or an earlier one
-- where it is answered at once, in an earlier one where it is at a turn's end
abbrev pub IsAnsweredBefore : ℕ → Answered → ℕ → Type 0
IsAnsweredBefore handled at_once t = handled ≤ t
IsAnsweredBefore handled (when_done u) t = u < t
IsAnsweredBefore handled never t = ⊥

-- the request before it on its connection, with the turn in which that was handled, is answered before turn t
abbrev pub IsFree : Option (ℕ × Request) → ℕ → Type 0
IsFree None t = Unit {0}
IsFree (Some (handled, before)) t = IsAnsweredBefore handled before.answered t

-- a request may be handled in turn t: its bytes have come, and the one before it is answered
pub record MayBeHandled (before : Option (ℕ × Request)) (r : Request) (t : ℕ) : Type 0 where
  pub came : r.came ≤ t
  pub free : IsFree before t

-- requests are handled in these turns: each in the first in which it may be, and where there is none, neither it nor any
-- behind it is handled
abbrev pub AreHandled : Option (ℕ × Request) → List Request → List ℕ → Type 0
AreHandled before [] turns = turns ≡ []
AreHandled before (r ∷ rs) [] = (t : ℕ) → ¬ MayBeHandled before r t
AreHandled before (r ∷ rs) (t ∷ turns) =
    MayBeHandled before r t × ((u : ℕ) → MayBeHandled before r u → t ≤ u) × AreHandled (Some (t, r)) rs turns

-- the first turn in which the next request may be handled, if there is one
abbrev pub free_from : ℕ → Answered → Option ℕ
free_from handled at_once = Some handled
free_from handled (when_done u) = Some (u + 1)
free_from handled never = None

-- the same turns one after another, from the first in which a request may be handled, if there is one
abbrev pub handled_turns : Option ℕ → List Request → List ℕ
handled_turns free [] = []
handled_turns None (r ∷ rs) = []
handled_turns (Some free) (r ∷ rs) = max r.came free ∷ handled_turns (free_from (max r.came free) r.answered) rs

-- the requests of a connection are handled in those turns, and in no others
abbrev pub TurnsAreHandled : Type 0
TurnsAreHandled = (rs : List Request) → AreHandled None rs (handled_turns (Some 0) rs)

abbrev pub HandledOnce : Type 0
HandledOnce = (rs : List Request) (turns : List ℕ) → AreHandled None rs turns → turns ≡ handled_turns (Some 0) rs
