use Rattle.std.proofs.Common.{◌≡◌}
use Rattle.rip_eval_language.specs.Rows.Names.{scope_up}
use Rattle.rip_eval_language.proofs.names.scope_up.Given as goal

abbrev pub invariant-loop-i : goal.invariant-loop-i
invariant-loop-i l = l.at ≡ scope_up l.heap l.scope l._i
