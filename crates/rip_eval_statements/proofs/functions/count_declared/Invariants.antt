use Rattle.std.proofs.Common.{◌≡◌, ◌+◌, ◌-◌, ◌≤◌, ◌^◌}
use Rattle.rip_eval_language.specs.Reading.{children_from}
use Rattle.rip_eval_language.specs.Rows.Functions.{declared_functions}
use Rattle.rip_eval_statements.proofs.functions.count_declared.Given as goal

-- those so far, and those from this place on
abbrev pub invariant-loop-f : goal.invariant-loop-f
invariant-loop-f l = record {
  few : l.count ≤ l.place;
  counted : l.count + declared_functions l.p (children_from l.p l.id l.place) ≡ declared_functions l.p (children_from l.p l.id l.from);
}

abbrev pub decreases-loop-f : goal.decreases-loop-f
decreases-loop-f l = 2 ^ 32 - l.place
