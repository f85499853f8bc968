-- The values on which the functions of arrays and of texts are called.
use Rattle.std.specs.Prelude.{ℕ, Result, Ok, Err, if◌then◌else◌}
use Rattle.rip_base.specs.declared.value.Span.{Span}
use Rattle.rip_base.specs.declared.value.Value.{Value}
use Rattle.rip_base.specs.declared.value.Value.TheVariants.{Undefined, Null, Bool as Boolean, Num, NaN, Text, Object}
use Rattle.rip_base.specs.declared.value.Fault.TheVariants.{NotInProfile}
use Rattle.rip_heap.specs.Outcome.{Outcome, Throws, Faults}
use Rattle.rip_heap.specs.World.{World, is_array, class_of, object_at}
use Rattle.rip_builtins.specs.declared.receivers.NoReceiver.{NoReceiver}
use Rattle.rip_builtins.specs.declared.receivers.NoReceiver.TheVariants.{Absent, Other}

-- the array that the value is
abbrev pub array_of : World → Value → Result ℕ NoReceiver
array_of w Undefined = Err Absent
array_of w Null = Err Absent
array_of w (Boolean b) = Err Other
array_of w (Num z) = Err Other
array_of w NaN = Err Other
array_of w (Text span) = Err Other
array_of w (Object n) = if is_array (class_of (object_at w n)) then Ok n else Err Other

-- the text that the value is
abbrev pub text_of : Value → Result Span NoReceiver
text_of Undefined = Err Absent
text_of Null = Err Absent
text_of (Boolean b) = Err Other
text_of (Num z) = Err Other
text_of NaN = Err Other
text_of (Text span) = Ok span
text_of (Object n) = Err Other

-- null and undefined throw a TypeError, and others have no such member in the profile
abbrev pub refusal : NoReceiver → Outcome
refusal Absent = Throws
refusal Other = Faults NotInProfile

-- the call on a receiver, if there is one
abbrev pub on : {A : Type 0} → Result A NoReceiver → (A → Outcome) → Outcome
on (Ok receiver) call = call receiver
on (Err reason) call = refusal reason
