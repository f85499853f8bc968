use Rattle.std.proofs.Common.{◌-◌, ◌≡◌, ℕ, ◌<◌, ◌≤◌, false, Some, slice_get}
use Rattle.rip_heap_region.specs.declared.pages.property.Property.{Property}
use Rattle.rip_heap_region.specs.Chains.{places_of, properties_of}
use Rattle.rip_heap_region.specs.Names.{same_text}
use Rattle.rip_heap_region.proofs.chains.names.find.Given as goal

abbrev pub invariant-loop-passed : goal.invariant-loop-passed
invariant-loop-passed l = record {
  within : l.passed ≤ l.chain.count;
  here : l.passed < l.chain.count → slice_get (places_of l.pages.properties l.chain) l.passed ≡ Some l.at;
  none : (k : ℕ) (property : Property) → k < l.passed → slice_get (properties_of l.pages.properties l.chain) k ≡ Some property → same_text l.pool property.name l.name ≡ false;
}

abbrev pub decreases-loop-passed : goal.decreases-loop-passed
decreases-loop-passed l = l.chain.count - l.passed
