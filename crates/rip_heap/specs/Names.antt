use Rattle.std.specs.Prelude.{ℕ, Bool, Option, List, slice_get, option_map, option_and_then}
use Rattle.rip_base.specs.declared.value.Span.{Span}
use Rattle.rip_base.specs.declared.value.Value.{Value}
use Rattle.rip_values.specs.Pool.{Texts}
use Rattle.rip_heap_region.specs.declared.pages.property.Property.{Property}
use Rattle.rip_heap_region.specs.Names.{same_text as same_for_chains, place_of as place_for_chains}

-- the two spans stand for one text
abbrev pub same_text : Texts → Span → Span → Bool
same_text pool a b = same_for_chains pool a b

-- the place of the property with this name, in the order of making
abbrev pub place_of : Texts → Span → List Property → Option ℕ
place_of pool name properties = place_for_chains pool name properties

-- the value of the property with this name
abbrev pub named : Texts → Span → List Property → Option Value
named pool name properties = option_map (λ property. property.value) (option_and_then (slice_get properties) (place_of pool name properties))
