-- How many turns are enough for a run to come to its end.
use Rattle.std.specs.Prelude.{◌≡◌, ◌⊎◌, ℕ, ◌+◌, ◌-◌, ◌*◌, ◌/◌, ◌≤◌, ◌<◌, true, List, [], ◌∷◌, length, Option, Some, None}
use Rattle.std.specs.List.{AllByRecursion}
use Rattle.rip_outer.specs.declared.connections.TraceKnock.{TraceKnock}
use Rattle.rip_wire.specs.Batches.{Contents, IsBatch}
use Rattle.rip_history.specs.Parts.{Part, Given, Meaning, IsLawful, has_ended}
use Rattle.rip_history.specs.Run.{Site, first_state, Coming}
use Rattle.rip_history.specs.Runs.{AreTurns, GoOn}
use Rattle.rip_history.specs.Stages.{finishes_batch}

-- ---- what a batch costs

-- a part of a session that has so many batches is of one of them or of its opening, and costs at most so many units
pub record IsPartWithin (batches units : ℕ) (p : Part) : Type 0 where
  pub batch : p.batch ≤ batches
  pub cost : p.cost ≤ units

-- the last batch is done in these parts, or the session has ended
abbrev pub ComesToEnd : ℕ → List Part → Type 0
ComesToEnd last ps = (finishes_batch last ps ≡ true) ⊎ (has_ended ps ≡ true)

-- whatever sessions are given, where their batches are in range: each batch comes to its end, the opening too, and costs at
-- most so many units
pub record BatchesCost (m : Meaning) (cost : ℕ) : Type 0 where
  pub within : (seed time : ℕ) (batches : List Contents) (given : List Given) → AllByRecursion IsBatch batches
      → AllByRecursion (IsPartWithin (length batches) cost) (m seed time batches given)
  pub ends : (seed time : ℕ) (batches : List Contents) (given : List Given) → AllByRecursion IsBatch batches
      → ComesToEnd (length batches) (m seed time batches given)

-- in so many turns a batch gets these units: 1,000 in each
abbrev pub slices : ℕ → ℕ
slices cost = 1 + (cost - 1) / 1000

-- ---- what comes in turns

-- the turns that began with a knock
abbrev pub knock_count : Option TraceKnock → ℕ
knock_count None = 0
knock_count (Some k) = 1

abbrev pub knocks_in : List Coming → ℕ
knocks_in [] = 0
knocks_in (t ∷ ts) = knock_count t.knock + knocks_in ts

-- the requests and refused heads that were handled in them
abbrev pub requests_in : List Coming → ℕ
requests_in [] = 0
requests_in (t ∷ ts) = length t.handlings + requests_in ts

-- so many turns are enough for so many knocks and requests, where a batch costs at most so many units: one for each knock,
-- one in which the door is found closed, and for each request those in which a batch gets its units
abbrev pub turns_enough : ℕ → ℕ → ℕ → ℕ
turns_enough cost knocks requests = knocks + 1 + requests * slices cost

-- a run of which none of these turns is the last has made fewer than are enough for its knocks and its requests
abbrev pub RunsComeToEnd : Type 0
RunsComeToEnd =
    (site : Site) (cost : ℕ) (ts : List Coming) → IsLawful site.meaning → BatchesCost site.meaning cost
    → AreTurns site 1 first_state ts → GoOn site 1 first_state ts
    → length ts < turns_enough cost (knocks_in ts) (requests_in ts)
