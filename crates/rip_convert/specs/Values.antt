-- Values made of data: the steps that make them, one behind the other, with what each costs.
use Rattle.std.specs.Prelude.{ℕ, ◌+◌, nat_le, nat_lt, length, if◌then◌else◌, Bool, List, [], Option, None, Some, Result, Ok, Err}
use Rattle.rip_base.specs.declared.value.Value.{Value}
use Rattle.rip_base.specs.declared.value.Value.TheVariants.{Null, Bool as Boolean, Num, Text, Object}
use Rattle.rip_base.specs.declared.value.Limit.{Limit}
use Rattle.rip_base.specs.declared.value.Limit.TheVariants.{Cells, Units}
use Rattle.rip_base.specs.declared.value.Span.{Span}
use Rattle.rip_base.specs.declared.value.Fault.TheVariants.{TextTooLong}
use Rattle.rip_heap.specs.declared.outcome.Halt.{Halt}
use Rattle.rip_heap.specs.declared.outcome.Halt.TheVariants.{Fault as AtFault, Limit as AtLimit}
use Rattle.rip_heap.specs.World.{World, cost_of_property}
use Rattle.rip_heap.specs.Arrays.{new_array, push_item}
use Rattle.rip_heap.specs.Objects.{new_object, put}
use Rattle.rip_heap.specs.Texts.{new_text}
use Rattle.rip_data.specs.Datum.{Tree, null, boolean, number, text, array, object, Elements, no_elements, element, Fields, no_fields, field}

-- what steps come to: what is made, or the fault of the next step or the limit that it would pass; and the world after the
-- steps that were done, whose charges stand
abbrev pub Made : Type 0 → Type 0
Made A = Result A Halt × World

-- a step that makes something
abbrev pub making : {A : Type 0} → Limit → World → Option (A × World) → Made A
making limit w None = (Err (AtLimit limit), w)
making limit w (Some made) = (Ok made.0, made.1)

-- a step that changes something at a charge of cells
abbrev pub changing : World → Option World → Made (Unit {0})
changing w None = (Err (AtLimit Cells), w)
changing w (Some x) = (Ok tt, x)

-- what follows a step: the next ones where it was done, and nothing where it was not
abbrev pub then_in : {A B : Type 0} → Result A Halt → World → (A → World → Made B) → Made B
then_in (Ok a) w next = next a w
then_in (Err halt) w next = (Err halt, w)

infixl 10 ◌>>=◌
-- steps, and then those that follow
abbrev pub ◌>>=◌ : {A B : Type 0} → Made A → (A → World → Made B) → Made B
m >>= next = then_in m.0 m.1 next

-- these are more units than a text may have
abbrev pub is_too_long : World → List ℕ → Bool
is_too_long w units = nat_lt w.pool.text_limit (length units)

-- a new text: its length is judged before its charge
abbrev pub text_made : List ℕ → World → Made Span
text_made units w = if is_too_long w units then (Err (AtFault TextTooLong), w) else making Units w (new_text w units)

-- a field of an object: one cell and the units of its name are one step, of which the length of the name is judged first, and
-- then the cell
abbrev pub field_put : ℕ → List ℕ → Value → World → Made (Unit {0})
field_put n name v w =
    if is_too_long w name then (Err (AtFault TextTooLong), w)
    else if nat_le (w.cells + cost_of_property) w.limit then making Units w (new_text w name) >>= (λ span x. changing w (put x n span v))
    else (Err (AtLimit Cells), w)

abbrev mutual
  -- the value of a datum: null, booleans and numbers are there; a text is a new text; an array is made empty, and then
  -- each element is made and pushed; an object is made empty, and then the value of each field is made, in the order of
  -- the fields, and put under its name
  pub made_value : Tree → World → Made Value
  made_value null w = (Ok Null, w)
  made_value (boolean b) w = (Ok (Boolean b), w)
  made_value (number z) w = (Ok (Num z), w)
  made_value (text units) w = text_made units w >>= (λ span x. (Ok (Text span), x))
  made_value (array ts) w =
      making Cells w (new_array w []) >>= (λ n x. elements_in n ts x >>= (λ _ y. (Ok (Object n), y)))
  made_value (object fs) w =
      making Cells w (new_object w None) >>= (λ n x. fields_in n fs x >>= (λ _ y. (Ok (Object n), y)))

  -- the elements, made and pushed behind those of the array
  pub elements_in : ℕ → Elements → World → Made (Unit {0})
  elements_in n no_elements w = (Ok tt, w)
  elements_in n (element t ts) w = made_value t w >>= (λ v x. changing x (push_item x n v) >>= (λ _ y. elements_in n ts y))

  -- the fields, each made and put under its name
  pub fields_in : ℕ → Fields → World → Made (Unit {0})
  fields_in n no_fields w = (Ok tt, w)
  fields_in n (field name t fs) w = made_value t w >>= (λ v x. field_put n name v x >>= (λ _ y. fields_in n fs y))
