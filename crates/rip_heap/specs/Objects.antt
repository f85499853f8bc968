use Rattle.std.specs.Prelude.{ℕ, zero, suc, Option, None, Some, List, [], ◌∷◌, ◌++◌, length, ◌+◌, if◌then◌else◌, is_some, unwrap_or, remove, slice_get, slice_set, slice_index_or, option_map, option_and_then}
use Rattle.rip_base.specs.declared.value.Span.{Span}
use Rattle.rip_base.specs.declared.value.Value.{Value}
use Rattle.rip_base.specs.declared.value.Value.TheVariants.{Undefined, Object as ObjectValue}
use Rattle.rip_values.specs.declared.fixed.FixedText.TheVariants.{Prototype as PrototypeText}
use Rattle.rip_values.specs.FixedTable.{text_of}
use Rattle.rip_values.specs.FixedTexts.{fixed_span}
use Rattle.rip_heap.specs.declared.class.Class.{Class}
use Rattle.rip_heap.specs.declared.class.Class.TheVariants.{Plain, Prototype, Function}
use Rattle.rip_heap_region.specs.declared.pages.property.Property.{Property}
use Rattle.rip_heap.specs.Names.{place_of, named}
use Rattle.rip_heap.specs.Stored.{properties_of}
use Rattle.rip_heap.specs.World.{World, Object, object_at, with_object, proto_of, first_object, charging, cost_of_object, cost_of_property, cost_of_function}

-- MAKING

-- an object of this class and prototype with nothing in it
abbrev pub bare : Class → Option ℕ → Object
bare class proto = record { class = class; proto = proto; code = None; properties = []; elements = [] }

-- the number of a new object, and the world with it behind all others
abbrev pub adding : Object → World → ℕ × World
adding o w = (first_object + length w.objects, record w { objects = w.objects ++ o ∷ [] })

-- the prototype that a new object gets: what is no object of the world counts as none
abbrev pub kept_proto : World → Option ℕ → Option ℕ
kept_proto w proto = option_and_then (λ n. if is_some (object_at w n) then Some n else None) proto

-- a new plain object with that prototype
abbrev pub new_object : World → Option ℕ → Option (ℕ × World)
new_object w proto = charging cost_of_object w (adding (bare Plain (kept_proto w proto)))

-- a new object of that class, which has no prototype
abbrev pub new_of : World → Class → Option (ℕ × World)
new_of w class = charging cost_of_object w (adding (bare class None))

-- the name `prototype`, which stands in every pool
abbrev pub prototype_name : Span
prototype_name = unwrap_or (fixed_span (text_of PrototypeText)) (record { start = 0; count = 0 })

-- a function of the script, with its node and its scope, and an object as its `prototype` (ECMA-262 13.2)
abbrev pub function_object : ℕ → ℕ → ℕ → Object
function_object node scope prototype = record {
  class = Function;
  proto = None;
  code = Some (node, scope);
  properties = record { name = prototype_name; value = ObjectValue prototype } ∷ [];
  elements = [];
}

-- the number of a new function, and the world with its prototype object and it behind all others
abbrev pub adding_function : ℕ → ℕ → World → ℕ × World
adding_function node scope w =
    (first_object + length w.objects + 1, record w { objects = w.objects ++ bare Prototype None ∷ function_object node scope (first_object + length w.objects) ∷ [] })

-- a new function of the script
abbrev pub new_function : World → ℕ → ℕ → Option (ℕ × World)
new_function w node scope = charging cost_of_function w (adding_function node scope)

-- READING

-- the value of the object's own property with this name (8.12.1)
abbrev pub own : World → ℕ → Span → Option Value
own w n name = option_and_then (λ o. named w.pool name o.properties) (object_at w n)

-- the own properties, in the order of making; what is no object of the world has none
abbrev pub own_properties : World → ℕ → List Property
own_properties w n = properties_of (object_at w n)

-- the name and the value of the own property at this place, in the order of making
abbrev pub own_at : World → ℕ → ℕ → Option (Span × Value)
own_at w n place = option_map (λ property. (property.name, property.value)) (option_and_then (λ o. slice_get o.properties place) (object_at w n))

-- the own value, or else what is found further up
abbrev pub or_up : Option Value → Option ℕ → (ℕ → Option Value) → Option Value
or_up (Some v) proto further = Some v
or_up None None further = None
or_up None (Some n) further = further n

-- what is found on an object and its prototypes, of which so many are looked at
abbrev pub found_within : ℕ → World → ℕ → Span → Option Value
found_within zero w n name = None
found_within (suc k) w n name = or_up (own w n name) (proto_of (object_at w n)) (λ up. found_within k w up name)

-- the value of the first property with this name on the object and its prototypes (8.12.2)
unfoldable pub find : World → ℕ → Span → Option Value
find w n name = found_within (length w.objects) w n name

-- CHANGING

-- the properties with the value at this place replaced, which keeps its name
abbrev pub with_value : List Property → ℕ → Value → List Property
with_value properties place v =
    slice_set properties place (record { name = (slice_index_or properties place (record { name = record { start = 0; count = 0 }; value = Undefined })).name; value = v })

-- the own property at this place gets the value; where there is no place for the name, one is made
abbrev pub put_at : World → ℕ → Span → Value → Object → Option ℕ → Option World
put_at w n name v o (Some place) = Some (with_object w n (record o { properties = with_value o.properties place v }))
put_at w n name v o None = charging cost_of_property w (λ x. with_object x n (record o { properties = o.properties ++ record { name = name; value = v } ∷ [] }))

-- the same, of an object or none
abbrev pub put_in : World → ℕ → Span → Value → Option Object → Option World
put_in w n name v None = Some w
put_in w n name v (Some o) = put_at w n name v o (place_of w.pool name o.properties)

-- the own property with this name gets the value, at no charge (8.12.5); where there is none it is made, behind the
-- others. What is no object of the world stays as it is
abbrev pub put : World → ℕ → Span → Value → Option World
put w n name v = put_in w n name v (object_at w n)

-- the own property at this place is gone; where there is none, nothing is
abbrev pub removed_at : World → ℕ → Object → Option ℕ → World
removed_at w n o None = w
removed_at w n o (Some place) = with_object w n (record o { properties = remove o.properties place })

-- the same, of an object or none
abbrev pub removed_in : World → ℕ → Span → Option Object → World
removed_in w n name None = w
removed_in w n name (Some o) = removed_at w n o (place_of w.pool name o.properties)

-- the own property with this name is gone, and the others stay in their order (8.12.7); its cells stay charged
abbrev pub removed : World → ℕ → Span → World
removed w n name = removed_in w n name (object_at w n)
