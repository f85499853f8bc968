-- Turns of costs.
use Rattle.std.proofs.Common.{◌≡◌, ℕ, ◌-◌, ◌≤◌, arith}
use Rattle.rip_history.specs.Turns.{turn_at, IsFirstTurn}

pub turns_are_first : (t cost : ℕ) → IsFirstTurn t cost (turn_at t cost)
turns_are_first t cost = record {
  from = omega arith;
  covered = omega arith;
  first = λ u from covered. omega (arith, from, covered);
}

pub turns_keep_order : (t low high : ℕ) → low ≤ high → turn_at t low ≤ turn_at t high
turns_keep_order t low high h = omega (arith, h)

pub distance_is_of_cost : (t u cost : ℕ) → turn_at t cost - t ≡ turn_at u cost - u
distance_is_of_cost t u cost = omega arith
