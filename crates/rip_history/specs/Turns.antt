-- When what an item does comes: turns are numbered from 1, and in each a session with a batch gets 1,000 units.
use Rattle.std.specs.Prelude.{◌≡◌, ℕ, ◌+◌, ◌-◌, ◌*◌, ◌/◌, ◌≤◌}

-- the turn in which a batch that was admitted in turn t has spent this cost, which is counted in units, from 1
abbrev pub turn_at : ℕ → ℕ → ℕ
turn_at t cost = t + (cost - 1) / 1000

-- the units that it was given when turn u is over: 1,000 in each turn, that of its admission the first
abbrev pub units_by : ℕ → ℕ → ℕ
units_by t u = 1000 * (u + 1 - t)

-- that turn is the first by whose end the units cover the cost
pub record IsFirstTurn (t cost turn : ℕ) : Type 0 where
  pub from : t ≤ turn
  pub covered : cost ≤ units_by t turn
  pub first : (u : ℕ) → t ≤ u → cost ≤ units_by t u → turn ≤ u

-- the turn of each cost is the first that covers it
abbrev pub TurnsAreFirst : Type 0
TurnsAreFirst = (t cost : ℕ) → IsFirstTurn t cost (turn_at t cost)

-- of two costs of a batch the greater has no earlier turn
abbrev pub TurnsKeepOrder : Type 0
TurnsKeepOrder = (t low high : ℕ) → low ≤ high → turn_at t low ≤ turn_at t high

-- how many turns a cost comes after the admission depends on the cost alone
abbrev pub DistanceIsOfCost : Type 0
DistanceIsOfCost = (t u cost : ℕ) → turn_at t cost - t ≡ turn_at u cost - u
