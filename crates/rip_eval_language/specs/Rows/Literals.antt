-- The rows of array and object literals (ECMA-262 11.1.4, 11.1.5).
use Rattle.std.specs.Prelude.{ℕ, ◌+◌, if◌then◌else◌, List, [], ◌∷◌, Option, None, Some}
use Rattle.rip_base.specs.declared.value.Fault.TheVariants.{NotInProfile}
use Rattle.rip_base.specs.declared.value.Limit.TheVariants.{Cells}
use Rattle.rip_base.specs.declared.value.Value.{Value}
use Rattle.rip_base.specs.declared.value.Value.TheVariants.{Object}
use Rattle.rip_values.specs.Pool.{text_at}
use Rattle.rip_heap.specs.Arrays.{new_array, push_item}
use Rattle.rip_heap.specs.Keys.{is_underscored}
use Rattle.rip_heap.specs.Objects.{new_object, put}
use Rattle.rip_heap.specs.World.{World}
use Rattle.rip_eval_rows.specs.declared.completion.Completion.{Completion}
use Rattle.rip_eval_rows.specs.declared.completion.Stop.TheVariants.{Fault as AtFault, Limit as AtLimit}
use Rattle.rip_eval_rows.specs.declared.part.Part.{Part}
use Rattle.rip_eval_rows.specs.Row.{Row, Halts, value_of, with_value}
use Rattle.rip_eval_language.specs.Reading.{Loaded, child, children_from, literal, part}
use Rattle.rip_eval_language.specs.Rows.Expressions.{gives}

-- goes on with the world that something was put in, or ends with the limit of cells
abbrev pub with_room : Option World → World → (World → Row) → Row
with_room None w go = Halts (AtLimit Cells) w
with_room (Some x) w go = go x

-- ARRAYS (11.1.4)

-- the elements from left to right, each put behind the others as it comes
abbrev pub elements : Loaded → Part → ℕ → List ℕ → World → Row
elements p at array [] w = gives (Object array) w
elements p at array (e ∷ es) w = value_of (part at e) w (λ v x. with_room (push_item x array v) x (elements p at array es))

-- after the element at this place
abbrev pub element_end : Loaded → Part → ℕ → ℕ → Completion → World → Row
element_end p at place array c w =
    with_value c w (λ v. with_room (push_item w array v) w (elements p at array (children_from p at.node (place + 1))))

abbrev pub array_begun : Loaded → Part → Option (ℕ × World) → World → Row
array_begun p at None w = Halts (AtLimit Cells) w
array_begun p at (Some made) w = elements p at made.0 (children_from p at.node 0) made.1

-- the row of an array literal
abbrev pub array_row : Loaded → Part → World → Row
array_row p at w = array_begun p at (new_array w []) w

-- OBJECTS (11.1.5)

-- the value of an entry is put under its key
abbrev pub entry_put : Loaded → ℕ → ℕ → Value → World → (World → Row) → Row
entry_put p object e v w go =
    if is_underscored (text_at w.pool (literal p e)) then Halts (AtFault NotInProfile) w
    else with_room (put w object (literal p e) v) w go

-- the entries from left to right: of each the value, and then the property
abbrev pub entries : Loaded → Part → ℕ → List ℕ → World → Row
entries p at object [] w = gives (Object object) w
entries p at object (e ∷ es) w = value_of (part at (child p e 0)) w (λ v x. entry_put p object e v x (entries p at object es))

-- after the value of the entry at this place
abbrev pub entry_end : Loaded → Part → ℕ → ℕ → Completion → World → Row
entry_end p at place object c w =
    with_value c w (λ v. entry_put p object (child p at.node place) v w (entries p at object (children_from p at.node (place + 1))))

abbrev pub object_begun : Loaded → Part → Option (ℕ × World) → World → Row
object_begun p at None w = Halts (AtLimit Cells) w
object_begun p at (Some made) w = entries p at made.0 (children_from p at.node 0) made.1

-- the row of an object literal
abbrev pub object_row : Loaded → Part → World → Row
object_row p at w = object_begun p at (new_object w None) w
