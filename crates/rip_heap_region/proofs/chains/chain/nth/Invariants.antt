use Rattle.std.proofs.Common.{◌-◌, ◌≡◌, ◌≤◌, Some, slice_get}
use Rattle.rip_heap_region.specs.Chains.{places_of}
use Rattle.rip_heap_region.proofs.chains.chain.nth.Given as goal

abbrev pub invariant-loop-passed : goal.invariant-loop-passed
invariant-loop-passed l = record {
  within : l.passed ≤ l.number;
  here : slice_get (places_of l.pages.properties l.fn.chain) l.passed ≡ Some l.at;
}

abbrev pub decreases-loop-passed : goal.decreases-loop-passed
decreases-loop-passed l = l.number - l.passed
