use Rattle.std.proofs.Common.{◌≡◌, ◌-◌, ◌^◌}
use Rattle.rip_eval_language.specs.Rows.Switch.{clauses_from, fall_through}
use Rattle.rip_eval_statements.proofs.switch.clauses.Given as goal

abbrev pub invariant-loop-c : goal.invariant-loop-c
invariant-loop-c l = fall_through l.p (clauses_from l.p l.at l.clause) ≡ fall_through l.p (clauses_from l.p l.at l.from)

abbrev pub decreases-loop-c : goal.decreases-loop-c
decreases-loop-c l = 2 ^ 32 - l.clause
