use Rattle.std.proofs.Common.{◌≡◌, drop}
use Rattle.rip_builtins.proofs.NumberLemmas.{extreme_from}
use Rattle.rip_builtins.proofs.numbers.extreme_from.Given as goal

abbrev pub invariant-loop-v : goal.invariant-loop-v
invariant-loop-v l = extreme_from l.extreme l.heap.pool l.best (drop l.v-index l.rest) ≡ extreme_from l.extreme l.heap.pool l.fn.first l.rest
