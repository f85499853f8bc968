-- What each built-in function means where it is called on a value with some arguments (ECMA-262 15).
use Rattle.std.specs.Prelude.{ℕ, List}
use Rattle.rip_values.specs.declared.builtin.Builtin.{Builtin}
use Rattle.rip_values.specs.declared.builtin.Builtin.TheVariants as which
use Rattle.rip_values.specs.declared.builtin.BuiltinHome.{BuiltinHome}
use Rattle.rip_values.specs.declared.builtin.BuiltinHome.TheVariants as home
use Rattle.rip_base.specs.declared.value.Span.{Span}
use Rattle.rip_base.specs.declared.value.Value.{Value}
use Rattle.rip_base.specs.declared.value.Fault.TheVariants.{NotInProfile}
use Rattle.rip_values.specs.Builtins.{home_of}
use Rattle.rip_heap.specs.declared.class.Class.TheVariants.{Error as ErrorClass, TypeError as TypeErrorClass, RangeError as RangeErrorClass}
use Rattle.rip_heap.specs.Outcome.{Outcome, Faults}
use Rattle.rip_heap.specs.World.{World}
use Rattle.rip_builtins.specs.declared.numbers.Extreme.TheVariants.{Least, Greatest}
use Rattle.rip_builtins.specs.Arrays.{push, pop, slice, index_of}
use Rattle.rip_builtins.specs.Errors.{error_call}
use Rattle.rip_builtins.specs.Globals.{string_call}
use Rattle.rip_builtins.specs.Joining.{join}
use Rattle.rip_builtins.specs.Numbers.{math_abs, math_floor, math_extreme, is_nan_call, number_call}
use Rattle.rip_builtins.specs.OwnProperties.{has_own_property}
use Rattle.rip_builtins.specs.ParseInt.{parse_int}
use Rattle.rip_builtins.specs.Receivers.{array_of, text_of, on}
use Rattle.rip_builtins.specs.Search.{text_index_of}
use Rattle.rip_builtins.specs.Texts.{char_at, char_code_at, substring}

-- A built-in has one row: in the table of its home for arrays and texts, else in the last. Objects, and functions that are
-- answered elsewhere, have none.

-- the functions of arrays, on an array (15.4.4)
abbrev pub array_function : Builtin → World → ℕ → List Value → Outcome
array_function which.ArrayPush w array args = push w array args
array_function which.ArrayPop w array args = pop w array
array_function which.ArraySlice w array args = slice w array args
array_function which.ArrayIndexOf w array args = index_of w array args
array_function which.ArrayJoin w array args = join w array args
array_function _ w array args = Faults NotInProfile

-- the functions of texts, on a text (15.5.4)
abbrev pub text_function : Builtin → World → Span → List Value → Outcome
text_function which.TextCharAt w text args = char_at w text args
text_function which.TextCharCodeAt w text args = char_code_at w text args
text_function which.TextSubstring w text args = substring w text args
text_function which.TextIndexOf w text args = text_index_of w text args
text_function _ w text args = Faults NotInProfile

-- the functions that take any receiver
abbrev pub plain_function : Builtin → World → Value → List Value → Outcome
-- 15.1.2, 15.5.1, 15.7.1
plain_function which.ParseInt w this args = parse_int w args
plain_function which.IsNaN w this args = is_nan_call w args
plain_function which.String w this args = string_call w args
plain_function which.Number w this args = number_call w args
-- 15.11.1, 15.11.6
plain_function which.Error w this args = error_call ErrorClass w args
plain_function which.TypeError w this args = error_call TypeErrorClass w args
plain_function which.RangeError w this args = error_call RangeErrorClass w args
-- 15.8.2
plain_function which.MathAbs w this args = math_abs w args
plain_function which.MathFloor w this args = math_floor w args
plain_function which.MathMin w this args = math_extreme Least w args
plain_function which.MathMax w this args = math_extreme Greatest w args
-- 15.2.4.5
plain_function which.HasOwnProperty w this args = has_own_property w this args
plain_function _ w this args = Faults NotInProfile

-- what a member of this home means where it is called on a value with some arguments
abbrev pub function_of : BuiltinHome → Builtin → World → Value → List Value → Outcome
function_of home.Array b w this args = on (array_of w this) (λ array. array_function b w array args)
function_of home.Text b w this args = on (text_of this) (λ text. text_function b w text args)
function_of _ b w this args = plain_function b w this args

-- what a built-in function means where it is called on a value with some arguments
abbrev pub builtin : World → Builtin → Value → List Value → Outcome
builtin w b this args = function_of (home_of b) b w this args
