-- The plan of a number: how many sessions there are, which of them lies, and what their users do.
use Rattle.std.specs.Prelude.{◌≡◌, ℕ, zero, suc, ◌+◌, ◌-◌, ◌*◌, ◌/◌, ◌%◌, ◌^◌, ◌≤◌, ◌==◌, if◌then◌else◌, List, [], ◌∷◌, ◌++◌, length, codes, decimal, Some, None, ⊤}
use Rattle.std.specs.List.{AllByRecursion}
use Rattle.rip_base.specs.declared.report.EventKind.TheVariants.{Click, Change, Input}
use Rattle.rip_wire.specs.Items.{event, IsItem}
use Rattle.rip_wire.specs.declared.gesture.Gesture.{Gesture}
use Rattle.rip_wire.specs.declared.gesture.Gesture.TheVariants.{Event, Flush}

-- ---- draws

-- the random word after this one, and the number below n that a word stands for; a page's `ripley.random` has the same
abbrev pub next_random : ℕ → ℕ
next_random x = (1664525 * x + 1013904223) % 2 ^ 32

abbrev pub random_below : ℕ → ℕ → ℕ
random_below n x = x * n / 2 ^ 32

-- what is drawn below n behind this word; the next draw is behind the next word
abbrev pub drawn : ℕ → ℕ → ℕ
drawn x n = random_below n (next_random x)

-- ---- gestures

abbrev pub input : ℕ → List ℕ → Gesture
input node text = Event (record { kind = Input; node = node; text = Some text; place = None })

abbrev pub change : ℕ → ℕ → Gesture
change node place = Event (record { kind = Change; node = node; text = None; place = Some place })

abbrev pub click : ℕ → Gesture
click node = Event (record { kind = Click; node = node; text = None; place = None })

-- a gesture by its kind, and the word behind its draws: 0 puts a number below 1000 into node 8; 1 chooses one of the two
-- options of node 9; 2 clicks node 14; 3 puts `n` and a number below 100 into node 7; 4 does nothing
abbrev pub gesture_of : ℕ → ℕ → Gesture × ℕ
gesture_of kind x =
    if kind == 0 then (input 8 (decimal (drawn x 1000)), next_random x)
    else if kind == 1 then (change 9 (drawn x 2), next_random x)
    else if kind == 2 then (click 14, x)
    else if kind == 3 then (input 7 (codes "n" ++ decimal (drawn x 100)), next_random x)
    else (Flush, x)

-- the gesture that is drawn behind this word, its kind first
abbrev pub gesture_drawn : ℕ → Gesture × ℕ
gesture_drawn x = gesture_of (drawn x 5) (next_random x)

-- so many gestures, drawn one after the other
abbrev pub gestures_drawn : ℕ → ℕ → List Gesture
gestures_drawn zero x = []
gestures_drawn (suc count) x = (gesture_drawn x).0 ∷ gestures_drawn count (gesture_drawn x).1

-- ---- plans

-- how many sessions there are, which of them lies, counted from 1, and what their users do: in each of 40 rounds one
-- gesture of each session, in order
pub record Plan : Type 0 where
  pub sessions : ℕ
  pub liar : ℕ
  pub gestures : List Gesture

-- the plan of n: drawn behind n are the number of sessions, from 4 to 32, then the liar, then the gestures
abbrev pub plan_of : ℕ → Plan
plan_of n = record {
  sessions = 4 + drawn n 29;
  liar = 1 + drawn (next_random n) (4 + drawn n 29);
  gestures = gestures_drawn (40 * (4 + drawn n 29)) (next_random (next_random n));
}

-- where the gesture of a session in a round stands; rounds and sessions are counted from 1
abbrev pub place_of : Plan → ℕ → ℕ → ℕ
place_of p round session = (round - 1) * p.sessions + (session - 1)

-- ---- the law

-- an event is one that a batch may report
abbrev pub IsInRange : Gesture → Type 0
IsInRange (Event r) = IsItem (event r.kind r.node r.text r.place)
IsInRange Flush = ⊤

-- a plan has 4 to 32 sessions, of which one lies, and 40 gestures for each, all of which a batch may report
pub record IsPlan (p : Plan) : Type 0 where
  pub from_four : 4 ≤ p.sessions
  pub most : p.sessions ≤ 32
  pub from_one : 1 ≤ p.liar
  pub lies : p.liar ≤ p.sessions
  pub rounds : length p.gestures ≡ 40 * p.sessions
  pub each : AllByRecursion IsInRange p.gestures

abbrev pub PlansAreInRange : Type 0
PlansAreInRange = (n : ℕ) → IsPlan (plan_of n)
