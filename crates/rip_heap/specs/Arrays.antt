use Rattle.std.specs.Prelude.{ℕ, Option, None, Some, List, [], ◌∷◌, ◌++◌, length, ◌-◌, ◌*◌, take, slice_get, slice_range, slice_set}
use Rattle.rip_base.specs.declared.value.Value.{Value}
use Rattle.rip_heap.specs.declared.class.Class.TheVariants.{Array}
use Rattle.rip_heap.specs.Objects.{adding}
use Rattle.rip_heap.specs.World.{World, Object, object_at, as_array, with_object, charging, cost_of_array, cost_of_element}

-- an array of these elements (ECMA-262 15.4)
abbrev pub array_object : List Value → Object
array_object items = record { class = Array; proto = None; code = None; properties = []; elements = items }

-- a new array of these elements
abbrev pub new_array : World → List Value → Option (ℕ × World)
new_array w items = charging (cost_of_array (length items)) w (adding (array_object items))

-- the elements of an array, or of none
abbrev pub elements_of : Option Object → List Value
elements_of None = []
elements_of (Some o) = o.elements

-- the elements of the array; what is no array of the world has none
abbrev pub elements_at : World → ℕ → List Value
elements_at w n = elements_of (as_array (object_at w n))

-- the last element, or none
abbrev pub last_of : List Value → Option Value
last_of items = slice_get items (length items - 1)

-- the elements but for the last
abbrev pub without_last : List Value → List Value
without_last items = take (length items - 1) items

-- the array of that number with its elements changed, or the world as it was where there is no array
abbrev pub with_elements : World → ℕ → (List Value → List Value) → Option Object → World
with_elements w n change None = w
with_elements w n change (Some o) = with_object w n (record o { elements = change o.elements })

-- the element at this place is v; past the end nothing is changed
abbrev pub with_item : World → ℕ → ℕ → Value → World
with_item w n place v = with_elements w n (λ items. slice_set items place v) (as_array (object_at w n))

-- the array without its last element
abbrev pub popped : World → ℕ → World
popped w n = with_elements w n without_last (as_array (object_at w n))

-- the array with as many of its elements as that, or all where it has fewer
abbrev pub cut : World → ℕ → ℕ → World
cut w n count = with_elements w n (take count) (as_array (object_at w n))

-- the array with one element more, or the world as it was where there is no array
abbrev pub push_in : World → ℕ → Value → Option Object → Option World
push_in w n v None = Some w
push_in w n v (Some o) = charging cost_of_element w (λ x. with_object x n (record o { elements = o.elements ++ v ∷ [] }))

-- the array with these elements behind the others, at a cell each, or the world as it was where there is no array
abbrev pub push_all_in : World → ℕ → List Value → Option Object → Option World
push_all_in w n items None = Some w
push_all_in w n items (Some o) =
    charging (length items * cost_of_element) w (λ x. with_object x n (record o { elements = o.elements ++ items }))

-- the array with these elements behind the others, all of them or none; what is no array of the world stays as it is
abbrev pub push_items : World → ℕ → List Value → Option World
push_items w n items = push_all_in w n items (as_array (object_at w n))

-- a new array of the elements of an array from one place up to another
abbrev pub new_piece : World → ℕ → ℕ → ℕ → Option (ℕ × World)
new_piece w n from to = new_array w (slice_range (elements_at w n) from to)

-- the array with one element more behind the others; what is no array of the world stays as it is
abbrev pub push_item : World → ℕ → Value → Option World
push_item w n v = push_in w n v (as_array (object_at w n))
