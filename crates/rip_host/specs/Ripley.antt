-- The members of `ripley`: calls to the server, the moment and random numbers.
use Rattle.std.specs.Prelude.{ℕ, ℤ, pos, negsuc, ◌+◌, ◌*◌, ◌/◌, ◌%◌, ◌^◌, ◌&&◌, nat_le, Bool, true, false, if◌then◌else◌, List, length, Option, None, Some, Result, Ok, Err}
use Rattle.std.specs.List.{list_all}
use Rattle.rip_values.specs.declared.builtin.Builtin.TheVariants.{RipleyCall, RipleyNow, RipleyRandom}
use Rattle.rip_values.specs.declared.builtin.Builtin.{Builtin}
use Rattle.rip_values.specs.declared.fixed.FixedText.{FixedText}
use Rattle.rip_values.specs.declared.fixed.FixedText.TheVariants.{Call, Now, Random}
use Rattle.rip_base.specs.declared.value.Fault.{Fault}
use Rattle.rip_base.specs.declared.value.Fault.TheVariants.{BadArgument}
use Rattle.rip_base.specs.declared.value.Limit.TheVariants.{Cells, Queue}
use Rattle.rip_base.specs.declared.value.Span.{Span}
use Rattle.rip_base.specs.declared.value.Value.{Value}
use Rattle.rip_base.specs.declared.value.Value.TheVariants.{Undefined, Null, Bool as Boolean, Num, NaN, Text, Object}
use Rattle.rip_values.specs.Pool.{text_at}
use Rattle.rip_heap.specs.declared.holder.Holder.{Holder}
use Rattle.rip_heap.specs.declared.holder.Holder.TheVariants.{PlainObject, ArrayObject, OtherObject}
use Rattle.rip_heap.specs.declared.host.HostDone.{HostDone}
use Rattle.rip_heap.specs.declared.host.HostDone.TheVariants as host
use Rattle.rip_heap.specs.Holders.{holder_of}
use Rattle.rip_heap.specs.World.{World, object_at, paid}
use Rattle.rip_ops.specs.Calls.{builtin_of}
use Rattle.rip_wire.specs.Names.{is_name_letter}
use Rattle.rip_calls.specs.Calls.{Calls, used, with_call}
use Rattle.rip_convert.specs.Arguments.{call_text}
use Rattle.rip_host.specs.declared.browser.Browser.{Browser}
use Rattle.rip_host.specs.Listening.{is_function_object, is_spent}

-- the function of `ripley` that has this name
abbrev pub ripley_member : FixedText → Option Builtin
ripley_member Call = Some RipleyCall
ripley_member Now = Some RipleyNow
ripley_member Random = Some RipleyRandom
ripley_member _ = None

-- the random word after this one
abbrev pub next_random : ℕ → ℕ
next_random x = (1664525 * x + 1013904223) % 2 ^ 32

-- the random number below n that a word stands for
abbrev pub random_below : ℕ → ℕ → ℕ
random_below n x = x * n / 2 ^ 32

-- a number as a value
abbrev pub random_number : ℕ → Value
random_number n = Num (pos n)

-- a random number below n, and the browser with the next word
abbrev pub random_given : World → Browser → ℕ → HostDone × World × Browser
random_given w s n =
    (host.Value (random_number (random_below n (next_random s.random))), w, record s { random = next_random s.random })

-- a whole number from 1 to 2^31; else the argument is bad
abbrev pub random_of : World → Browser → ℤ → HostDone × World × Browser
random_of w s (pos n) = if nat_le 1 n && nat_le n (2 ^ 31) then random_given w s n else (host.Fault BadArgument, w, s)
random_of w s (negsuc n) = (host.Fault BadArgument, w, s)

-- `ripley.random(n)`
abbrev pub random_call : World → Browser → Value → HostDone × World × Browser
random_call w s (Num z) = random_of w s z
random_call w s Undefined = (host.Fault BadArgument, w, s)
random_call w s Null = (host.Fault BadArgument, w, s)
random_call w s (Boolean b) = (host.Fault BadArgument, w, s)
random_call w s NaN = (host.Fault BadArgument, w, s)
random_call w s (Text span) = (host.Fault BadArgument, w, s)
random_call w s (Object n) = (host.Fault BadArgument, w, s)

-- CALLS

-- the text is the name of a call: 1 to 64 ASCII letters, digits, `_` and `.`
abbrev pub is_call_name : List ℕ → Bool
is_call_name text = nat_le 1 (length text) && nat_le (length text) 64 && list_all is_name_letter text

-- the name of a call, where the value is one
abbrev pub call_name : World → Value → Option Span
call_name w (Text span) = if is_call_name (text_at w.pool span) then Some span else None
call_name w Undefined = None
call_name w Null = None
call_name w (Boolean b) = None
call_name w (Num z) = None
call_name w NaN = None
call_name w (Object n) = None

abbrev pub is_array_holder : Holder → Bool
is_array_holder ArrayObject = true
is_array_holder PlainObject = false
is_array_holder OtherObject = false

-- the value is an array
abbrev pub is_array : World → Value → Bool
is_array w (Object n) = is_array_holder (holder_of (object_at w n))
is_array w Undefined = false
is_array w Null = false
is_array w (Boolean b) = false
is_array w (Num z) = false
is_array w NaN = false
is_array w (Text span) = false

-- the callback of a call, where the value is one: a function of the script or one that is built in, or none, for which
-- undefined and null stand
abbrev pub call_callback : World → Value → Option (Option ℕ)
call_callback w Undefined = Some None
call_callback w Null = Some None
call_callback w (Object n) = if is_function_object w n (builtin_of n) then Some (Some n) else None
call_callback w (Boolean b) = None
call_callback w (Num z) = None
call_callback w NaN = None
call_callback w (Text span) = None

-- the calls with one more of this text and callback, at a cell, where one is left and the bytes that wait have room for the
-- text; else nothing is changed
abbrev pub call_put : World → Calls → Option ℕ → List ℕ → HostDone × World × Calls
call_put w c callback text =
    if is_spent w then (host.Limit Cells, w, c)
    else if nat_le (used c + (length text + 1)) c.limit then (host.Value Undefined, paid 1 w, with_call c text callback)
    else (host.Limit Queue, w, c)

abbrev pub of_calls : HostDone × World × Calls → Browser → HostDone × World × Browser
of_calls put s = (put.0, put.1, record s { calls = put.2 })

-- the call is made
abbrev pub call_made : World → Browser → Option ℕ → List ℕ → HostDone × World × Browser
call_made w s callback text = of_calls (call_put w s.calls callback text) s

-- the same where the walk over the arguments comes to a text; else it answers its fault
abbrev pub call_judged : World → Browser → Option ℕ → Result (List ℕ) Fault → HostDone × World × Browser
call_judged w s callback (Ok text) = call_made w s callback text
call_judged w s callback (Err fault) = (host.Fault fault, w, s)

-- a call of this name with these arguments and this callback, where they are fit for one
abbrev pub call_with : World → Browser → Option Span → Bool → Option (Option ℕ) → Value → HostDone × World × Browser
call_with w s None array callback args = (host.Fault BadArgument, w, s)
call_with w s (Some name) false callback args = (host.Fault BadArgument, w, s)
call_with w s (Some name) true None args = (host.Fault BadArgument, w, s)
call_with w s (Some name) true (Some callback) args = call_judged w s callback (call_text w name args)

-- `ripley.call(n, a, c)`: n is a name, a an array, c a function, null or undefined, which are judged before the walk over
-- the array; the limits are judged last, that of cells before that of the bytes that wait
abbrev pub ripley_call : World → Browser → Value → Value → Value → HostDone × World × Browser
ripley_call w s n a c = call_with w s (call_name w n) (is_array w a) (call_callback w c) a
