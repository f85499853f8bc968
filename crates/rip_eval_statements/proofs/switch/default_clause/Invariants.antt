use Rattle.std.proofs.Common.{◌≡◌, ◌-◌, ◌^◌}
use Rattle.rip_eval_language.specs.Rows.Switch.{clauses_from, from_default}
use Rattle.rip_eval_statements.proofs.switch.default_clause.Given as goal

abbrev pub invariant-loop-c : goal.invariant-loop-c
invariant-loop-c l = from_default l.p (clauses_from l.p l.at l.clause) ≡ from_default l.p (clauses_from l.p l.at 0)

abbrev pub decreases-loop-c : goal.decreases-loop-c
decreases-loop-c l = 2 ^ 32 - l.clause
