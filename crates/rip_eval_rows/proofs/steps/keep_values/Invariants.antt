use Rattle.std.proofs.Common.{◌≡◌, [], ◌∷◌, take}
use Rattle.rip_eval_rows.specs.Stack.{framed}
use Rattle.rip_eval_rows.proofs.steps.keep_values.Given as goal

abbrev pub invariant-loop-v : goal.invariant-loop-v
invariant-loop-v l = record {
  kept : l.stack ≡ record l.fn.stack { frames = framed l.frame (take l.v-index l.values) ∷ [] };
}
