-- Made from tables/names.txt by tools/names.py.
use Rattle.std.proofs.Common.{◌≡◌, Some, refl}
use Rattle.std.specs.Prelude.{slice_get}
use Rattle.rip_values.specs.declared.builtin.Builtin.{Builtin}
use Rattle.rip_values.specs.declared.builtin.Builtin.TheVariants.{Math, Ripley, ParseInt, IsNaN, String, Number, Error, TypeError, RangeError, MathAbs, MathFloor, MathMin, MathMax, HasOwnProperty, FunctionCall, ArrayPush, ArrayPop, ArraySlice, ArrayIndexOf, ArrayJoin, TextCharAt, TextCharCodeAt, TextSubstring, TextIndexOf, RipleyCall, RipleyNow, RipleyRandom, GetElementById, CreateElement, CreateTextNode, HasChildNodes, AppendChild, InsertBefore, ReplaceChild, RemoveChild, GetAttribute, HasAttribute, SetAttribute, RemoveAttribute, AddEventListener, RemoveEventListener, StopPropagation, PreventDefault}
use Rattle.rip_values.specs.Builtins.{number_of, builtins}

-- each built-in stands at the place of its number
pub slice_get-number_of : (builtin : Builtin) → slice_get builtins (number_of builtin) ≡ Some builtin
unfolding builtins
slice_get-number_of Math = refl
slice_get-number_of Ripley = refl
slice_get-number_of ParseInt = refl
slice_get-number_of IsNaN = refl
slice_get-number_of String = refl
slice_get-number_of Number = refl
slice_get-number_of Error = refl
slice_get-number_of TypeError = refl
slice_get-number_of RangeError = refl
slice_get-number_of MathAbs = refl
slice_get-number_of MathFloor = refl
slice_get-number_of MathMin = refl
slice_get-number_of MathMax = refl
slice_get-number_of HasOwnProperty = refl
slice_get-number_of FunctionCall = refl
slice_get-number_of ArrayPush = refl
slice_get-number_of ArrayPop = refl
slice_get-number_of ArraySlice = refl
slice_get-number_of ArrayIndexOf = refl
slice_get-number_of ArrayJoin = refl
slice_get-number_of TextCharAt = refl
slice_get-number_of TextCharCodeAt = refl
slice_get-number_of TextSubstring = refl
slice_get-number_of TextIndexOf = refl
slice_get-number_of RipleyCall = refl
slice_get-number_of RipleyNow = refl
slice_get-number_of RipleyRandom = refl
slice_get-number_of GetElementById = refl
slice_get-number_of CreateElement = refl
slice_get-number_of CreateTextNode = refl
slice_get-number_of HasChildNodes = refl
slice_get-number_of AppendChild = refl
slice_get-number_of InsertBefore = refl
slice_get-number_of ReplaceChild = refl
slice_get-number_of RemoveChild = refl
slice_get-number_of GetAttribute = refl
slice_get-number_of HasAttribute = refl
slice_get-number_of SetAttribute = refl
slice_get-number_of RemoveAttribute = refl
slice_get-number_of AddEventListener = refl
slice_get-number_of RemoveEventListener = refl
slice_get-number_of StopPropagation = refl
slice_get-number_of PreventDefault = refl
