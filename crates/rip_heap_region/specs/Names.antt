-- When a property has a name: names are compared by the texts that they stand for.
use Rattle.std.specs.Prelude.{ℕ, Bool, Option, List, position, nat_eq}
use Rattle.std.specs.Cmp.Lexicographic.{pointwise}
use Rattle.rip_base.specs.declared.value.Span.{Span}
use Rattle.rip_values.specs.Pool.{Texts, text_at}
use Rattle.rip_heap_region.specs.declared.pages.property.Property.{Property}

-- the two spans stand for one text
abbrev pub same_text : Texts → Span → Span → Bool
same_text pool a b = pointwise nat_eq (text_at pool a) (text_at pool b)

-- the place of the property with this name, in the order of making
abbrev pub place_of : Texts → Span → List Property → Option ℕ
place_of pool name properties = position (λ property. same_text pool property.name name) properties
