use Rattle.std.proofs.Common.{◌≡◌, ◌-◌, ◌^◌}
use Rattle.rip_heap.specs.World.{World}
use Rattle.rip_eval_language.specs.Rows.Switch.{case_tests, clauses_from}
use Rattle.rip_eval_statements.proofs.switch.tests.Given as goal

abbrev pub invariant-loop-c : goal.invariant-loop-c
invariant-loop-c l = (w : World) → case_tests l.p l.at l.v (clauses_from l.p l.at l.clause) w ≡ case_tests l.p l.at l.v (clauses_from l.p l.at l.from) w

abbrev pub decreases-loop-c : goal.decreases-loop-c
decreases-loop-c l = 2 ^ 32 - l.clause
