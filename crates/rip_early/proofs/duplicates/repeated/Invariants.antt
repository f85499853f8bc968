use Rattle.std.proofs.Common.{take}
use Rattle.rip_early.specs.Indexed.{names_of, IsIndexed}
use Rattle.rip_early.specs.Least.{IsLeast}
use Rattle.rip_early.specs.Mistakes.{repeated}
use Rattle.rip_early.proofs.Repeating.{StandAlike}
use Rattle.rip_early.proofs.duplicates.repeated.Given as goal

abbrev pub invariant-loop-placed : goal.invariant-loop-placed
invariant-loop-placed l = record {
  kept : IsIndexed l.before;
  alike : StandAlike (names_of l.before) (take l.placed-index l.names);
  least : IsLeast (repeated (take l.placed-index l.names)) l.least;
}
