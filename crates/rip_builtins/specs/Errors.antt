-- The makers of errors (ECMA-262 15.11.1.1 and 15.11.7.1, also of TypeError and RangeError).
use Rattle.std.specs.Prelude.{List}
use Rattle.rip_base.specs.declared.value.Value.{Value}
use Rattle.rip_base.specs.declared.value.Value.TheVariants.{Undefined}
use Rattle.rip_heap.specs.declared.class.Class.{Class}
use Rattle.rip_heap.specs.Errors.{new_error}
use Rattle.rip_heap.specs.Objects.{new_of}
use Rattle.rip_heap.specs.Outcome.{Outcome}
use Rattle.rip_heap.specs.World.{World}
use Rattle.rip_builtins.specs.Arguments.{argument, object_or_limit}

-- a new error of that class; undefined is no message
abbrev pub error_of : Class → World → Value → Outcome
error_of class w Undefined = object_or_limit (new_of w class)
error_of class w v = new_error class w v

-- `Error`, `TypeError` and `RangeError`
abbrev pub error_call : Class → World → List Value → Outcome
error_call class w args = error_of class w (argument args 0)
