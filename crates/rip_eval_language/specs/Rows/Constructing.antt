-- The row of `new` (ECMA-262 11.2.2, 13.2.2).
use Rattle.std.specs.Prelude.{ℕ, ◌+◌, List, [], ◌∷◌, ◌++◌, length, Option, None, Some, Result, Ok, Err}
use Rattle.rip_values.specs.declared.builtin.Builtin.{Builtin}
use Rattle.rip_values.specs.declared.builtin.Builtin.TheVariants as which
use Rattle.rip_values.specs.declared.fixed.FixedText.TheVariants.{Prototype}
use Rattle.rip_base.specs.declared.value.Fault.{Fault}
use Rattle.rip_base.specs.declared.value.Fault.TheVariants.{NotInProfile}
use Rattle.rip_base.specs.declared.value.Limit.TheVariants.{Cells}
use Rattle.rip_base.specs.declared.value.Value.{Value}
use Rattle.rip_base.specs.declared.value.Value.TheVariants.{Undefined, Null, Bool as Boolean, Num, NaN, Text, Object}
use Rattle.rip_heap.specs.declared.class.Class.TheVariants.{ThrownTypeError}
use Rattle.rip_heap.specs.Conversions.{span_of}
use Rattle.rip_heap.specs.Objects.{new_object, own}
use Rattle.rip_heap.specs.World.{World}
use Rattle.rip_ops.specs.declared.access.base.Base.{Base}
use Rattle.rip_ops.specs.declared.access.base.Base.TheVariants as base
use Rattle.rip_ops.specs.Base.{base_of}
use Rattle.rip_builtins.specs.Builtins.{builtin}
use Rattle.rip_eval_rows.specs.declared.completion.Completion.{Completion}
use Rattle.rip_eval_rows.specs.declared.completion.Stop.TheVariants.{Fault as AtFault, Limit as AtLimit}
use Rattle.rip_eval_rows.specs.declared.frame.Ending.TheVariants as ending
use Rattle.rip_eval_rows.specs.declared.part.Part.{Part}
use Rattle.rip_eval_rows.specs.Row.{Row, Halts, value_of, with_value}
use Rattle.rip_eval_language.specs.declared.callee.Invocable.{Invocable}
use Rattle.rip_eval_language.specs.declared.callee.Invocable.TheVariants.{OfScript, OfBuiltin, NotCallable}
use Rattle.rip_eval_language.specs.declared.callee.Making.{Making}
use Rattle.rip_eval_language.specs.declared.callee.Making.TheVariants.{Errors, OutsideProfile, Nothing}
use Rattle.rip_eval_language.specs.Reading.{Loaded, children_from, part, part_at}
use Rattle.rip_eval_language.specs.Rows.Calls.{callable, charged, enters}
use Rattle.rip_eval_language.specs.Rows.Expressions.{gives, with_outcome}
use Rattle.rip_eval_language.specs.Rows.Names.{throws}

-- of a plain object its number; another object is outside the profile as a prototype
abbrev pub plain_prototype : Base → Result (Option ℕ) Fault
plain_prototype (base.Plain n) = Ok (Some n)
plain_prototype base.Nothing = Ok None
plain_prototype base.Primitive = Ok None
plain_prototype (base.Text span) = Ok None
plain_prototype (base.Error n) = Err NotInProfile
plain_prototype (base.Array n) = Err NotInProfile
plain_prototype (base.Function n) = Err NotInProfile
plain_prototype (base.Builtin n) = Err NotInProfile
plain_prototype (base.Host n) = Err NotInProfile

-- the prototype of what a function makes: the object that its `prototype` is; where that is none, the standard's
-- Object.prototype, which is no object of the heap
abbrev pub prototype_value : World → Option Value → Result (Option ℕ) Fault
prototype_value w None = Ok None
prototype_value w (Some v) = plain_prototype (base_of w v)

-- of a function that is this value
abbrev pub prototype_of : World → Value → Result (Option ℕ) Fault
prototype_of w (Object n) = prototype_value w (own w n (span_of Prototype))
prototype_of w Undefined = Ok None
prototype_of w Null = Ok None
prototype_of w (Boolean b) = Ok None
prototype_of w (Num z) = Ok None
prototype_of w NaN = Ok None
prototype_of w (Text span) = Ok None

-- the function is called on the new object (13.2.2)
abbrev pub constructed_on : Loaded → Part → ℕ → ℕ → List Value → Option (ℕ × World) → World → Row
constructed_on p at f scope args None w = Halts (AtLimit Cells) w
constructed_on p at f scope args (Some made) w = enters p at f scope (Object made.0) args (ending.Construct made.0) made.1

abbrev pub constructed_from : Loaded → Part → ℕ → ℕ → List Value → Result (Option ℕ) Fault → World → Row
constructed_from p at f scope args (Err fault) w = Halts (AtFault fault) w
constructed_from p at f scope args (Ok proto) w = constructed_on p at f scope args (new_object w proto) w

-- what `new` makes of each built-in
abbrev pub making_of : Builtin → Making
making_of which.Error = Errors
making_of which.TypeError = Errors
making_of which.RangeError = Errors
making_of which.String = OutsideProfile
making_of which.Number = OutsideProfile
making_of b = Nothing

-- what `new` makes of a built-in function: an error; conversions are outside the profile (15.5.2, 15.7.2), and the others
-- construct nothing
abbrev pub made_by : Making → Builtin → List Value → World → Row
made_by Errors b args w = charged (length args) w (λ x. with_outcome (builtin x b Undefined args) x gives)
made_by OutsideProfile b args w = Halts (AtFault NotInProfile) w
made_by Nothing b args w = throws ThrownTypeError w

abbrev pub constructs_by : Loaded → Part → Invocable → Value → List Value → World → Row
constructs_by p at (OfScript f scope) constructor args w = constructed_from p at f scope args (prototype_of w constructor) w
constructs_by p at (OfBuiltin b) constructor args w = made_by (making_of b) b args w
constructs_by p at NotCallable constructor args w = throws ThrownTypeError w

abbrev pub constructs : Loaded → Part → Value → List Value → World → Row
constructs p at constructor args w = constructs_by p at (callable w constructor) constructor args w

-- the arguments from left to right, behind those so far, and then the new object
abbrev pub new_arguments : Loaded → Part → Value → List Value → List ℕ → World → Row
new_arguments p at constructor args [] w = constructs p at constructor args w
new_arguments p at constructor args (a ∷ rest) w = value_of (part at a) w (λ v x. new_arguments p at constructor (args ++ v ∷ []) rest x)

-- after the argument at this place, where these stand before it
abbrev pub new_argument_end : Loaded → Part → ℕ → Value → List Value → Completion → World → Row
new_argument_end p at place constructor args c w =
    with_value c w (λ v. new_arguments p at constructor (args ++ v ∷ []) (children_from p at.node (place + 2)) w)

-- 11.2.2
abbrev pub new_row : Loaded → Part → World → Row
new_row p at w = value_of (part_at p at 0) w (λ f x. new_arguments p at f [] (children_from p at.node 1) x)
