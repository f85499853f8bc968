use Rattle.std.proofs.Common.{◌≡◌, ◌+◌, drop}
use Rattle.std.specs.List.{sum_by}
use Rattle.rip_machine.specs.Loading.{cost_of_literals, node_cost}
use Rattle.rip_machine.proofs.loading.literals_fit.Given as goal

abbrev pub invariant-loop-id : goal.invariant-loop-id
invariant-loop-id l = l.left + cost_of_literals l.program ≡ l.fn.room + sum_by (node_cost l.program.grove.units) (drop l.id l.program.grove.branches)
