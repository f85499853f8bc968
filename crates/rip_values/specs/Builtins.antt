-- Made from tables/names.txt by tools/names.py.
use Rattle.std.specs.Prelude.{ℕ, Bool, true, false, List, [], ◌∷◌, codes}
use Rattle.rip_values.specs.declared.builtin.Builtin.{Builtin}
use Rattle.rip_values.specs.declared.builtin.Builtin.TheVariants.{Math, Ripley, ParseInt, IsNaN, String, Number, Error, TypeError, RangeError, MathAbs, MathFloor, MathMin, MathMax, HasOwnProperty, FunctionCall, ArrayPush, ArrayPop, ArraySlice, ArrayIndexOf, ArrayJoin, TextCharAt, TextCharCodeAt, TextSubstring, TextIndexOf, RipleyCall, RipleyNow, RipleyRandom, GetElementById, CreateElement, CreateTextNode, HasChildNodes, AppendChild, InsertBefore, ReplaceChild, RemoveChild, GetAttribute, HasAttribute, SetAttribute, RemoveAttribute, AddEventListener, RemoveEventListener, StopPropagation, PreventDefault}
use Rattle.rip_values.specs.declared.builtin.BuiltinHome.{BuiltinHome}
use Rattle.rip_values.specs.declared.builtin.BuiltinHome.TheVariants as home

-- the table of built-ins: their numbers, their names, and what they are members of
abbrev pub number_of : Builtin → ℕ
number_of Math = 0
number_of Ripley = 1
number_of ParseInt = 2
number_of IsNaN = 3
number_of String = 4
number_of Number = 5
number_of Error = 6
number_of TypeError = 7
number_of RangeError = 8
number_of MathAbs = 9
number_of MathFloor = 10
number_of MathMin = 11
number_of MathMax = 12
number_of HasOwnProperty = 13
number_of FunctionCall = 14
number_of ArrayPush = 15
number_of ArrayPop = 16
number_of ArraySlice = 17
number_of ArrayIndexOf = 18
number_of ArrayJoin = 19
number_of TextCharAt = 20
number_of TextCharCodeAt = 21
number_of TextSubstring = 22
number_of TextIndexOf = 23
number_of RipleyCall = 24
number_of RipleyNow = 25
number_of RipleyRandom = 26
number_of GetElementById = 27
number_of CreateElement = 28
number_of CreateTextNode = 29
number_of HasChildNodes = 30
number_of AppendChild = 31
number_of InsertBefore = 32
number_of ReplaceChild = 33
number_of RemoveChild = 34
number_of GetAttribute = 35
number_of HasAttribute = 36
number_of SetAttribute = 37
number_of RemoveAttribute = 38
number_of AddEventListener = 39
number_of RemoveEventListener = 40
number_of StopPropagation = 41
number_of PreventDefault = 42

-- the name of a built-in
abbrev pub name_of : Builtin → List ℕ
name_of Math = codes "Math"
name_of Ripley = codes "ripley"
name_of ParseInt = codes "parseInt"
name_of IsNaN = codes "isNaN"
name_of String = codes "String"
name_of Number = codes "Number"
name_of Error = codes "Error"
name_of TypeError = codes "TypeError"
name_of RangeError = codes "RangeError"
name_of MathAbs = codes "abs"
name_of MathFloor = codes "floor"
name_of MathMin = codes "min"
name_of MathMax = codes "max"
name_of HasOwnProperty = codes "hasOwnProperty"
name_of FunctionCall = codes "call"
name_of ArrayPush = codes "push"
name_of ArrayPop = codes "pop"
name_of ArraySlice = codes "slice"
name_of ArrayIndexOf = codes "indexOf"
name_of ArrayJoin = codes "join"
name_of TextCharAt = codes "charAt"
name_of TextCharCodeAt = codes "charCodeAt"
name_of TextSubstring = codes "substring"
name_of TextIndexOf = codes "indexOf"
name_of RipleyCall = codes "call"
name_of RipleyNow = codes "now"
name_of RipleyRandom = codes "random"
name_of GetElementById = codes "getElementById"
name_of CreateElement = codes "createElement"
name_of CreateTextNode = codes "createTextNode"
name_of HasChildNodes = codes "hasChildNodes"
name_of AppendChild = codes "appendChild"
name_of InsertBefore = codes "insertBefore"
name_of ReplaceChild = codes "replaceChild"
name_of RemoveChild = codes "removeChild"
name_of GetAttribute = codes "getAttribute"
name_of HasAttribute = codes "hasAttribute"
name_of SetAttribute = codes "setAttribute"
name_of RemoveAttribute = codes "removeAttribute"
name_of AddEventListener = codes "addEventListener"
name_of RemoveEventListener = codes "removeEventListener"
name_of StopPropagation = codes "stopPropagation"
name_of PreventDefault = codes "preventDefault"

-- what a built-in is a member of
abbrev pub home_of : Builtin → BuiltinHome
home_of Math = home.Global
home_of Ripley = home.Global
home_of ParseInt = home.Global
home_of IsNaN = home.Global
home_of String = home.Global
home_of Number = home.Global
home_of Error = home.Global
home_of TypeError = home.Global
home_of RangeError = home.Global
home_of MathAbs = home.Math
home_of MathFloor = home.Math
home_of MathMin = home.Math
home_of MathMax = home.Math
home_of HasOwnProperty = home.Object
home_of FunctionCall = home.Function
home_of ArrayPush = home.Array
home_of ArrayPop = home.Array
home_of ArraySlice = home.Array
home_of ArrayIndexOf = home.Array
home_of ArrayJoin = home.Array
home_of TextCharAt = home.Text
home_of TextCharCodeAt = home.Text
home_of TextSubstring = home.Text
home_of TextIndexOf = home.Text
home_of RipleyCall = home.Ripley
home_of RipleyNow = home.Ripley
home_of RipleyRandom = home.Ripley
home_of GetElementById = home.Document
home_of CreateElement = home.Document
home_of CreateTextNode = home.Document
home_of HasChildNodes = home.Node
home_of AppendChild = home.Node
home_of InsertBefore = home.Node
home_of ReplaceChild = home.Node
home_of RemoveChild = home.Node
home_of GetAttribute = home.Node
home_of HasAttribute = home.Node
home_of SetAttribute = home.Node
home_of RemoveAttribute = home.Node
home_of AddEventListener = home.Node
home_of RemoveEventListener = home.Node
home_of StopPropagation = home.Event
home_of PreventDefault = home.Event

-- the built-in is a function, and no object
abbrev pub is_function : Builtin → Bool
is_function Math = false
is_function Ripley = false
is_function ParseInt = true
is_function IsNaN = true
is_function String = true
is_function Number = true
is_function Error = true
is_function TypeError = true
is_function RangeError = true
is_function MathAbs = true
is_function MathFloor = true
is_function MathMin = true
is_function MathMax = true
is_function HasOwnProperty = true
is_function FunctionCall = true
is_function ArrayPush = true
is_function ArrayPop = true
is_function ArraySlice = true
is_function ArrayIndexOf = true
is_function ArrayJoin = true
is_function TextCharAt = true
is_function TextCharCodeAt = true
is_function TextSubstring = true
is_function TextIndexOf = true
is_function RipleyCall = true
is_function RipleyNow = true
is_function RipleyRandom = true
is_function GetElementById = true
is_function CreateElement = true
is_function CreateTextNode = true
is_function HasChildNodes = true
is_function AppendChild = true
is_function InsertBefore = true
is_function ReplaceChild = true
is_function RemoveChild = true
is_function GetAttribute = true
is_function HasAttribute = true
is_function SetAttribute = true
is_function RemoveAttribute = true
is_function AddEventListener = true
is_function RemoveEventListener = true
is_function StopPropagation = true
is_function PreventDefault = true

-- every built-in, in the order of their numbers
unfoldable pub builtins : List Builtin
builtins =
    Math ∷ Ripley ∷ ParseInt ∷ IsNaN ∷ String ∷ Number ∷ Error ∷ TypeError ∷ RangeError ∷
    MathAbs ∷ MathFloor ∷ MathMin ∷ MathMax ∷
    HasOwnProperty ∷
    FunctionCall ∷
    ArrayPush ∷ ArrayPop ∷ ArraySlice ∷ ArrayIndexOf ∷ ArrayJoin ∷
    TextCharAt ∷ TextCharCodeAt ∷ TextSubstring ∷ TextIndexOf ∷
    RipleyCall ∷ RipleyNow ∷ RipleyRandom ∷
    GetElementById ∷ CreateElement ∷ CreateTextNode ∷
    HasChildNodes ∷ AppendChild ∷ InsertBefore ∷ ReplaceChild ∷ RemoveChild ∷ GetAttribute ∷ HasAttribute ∷ SetAttribute ∷ RemoveAttribute ∷ AddEventListener ∷ RemoveEventListener ∷
    StopPropagation ∷ PreventDefault ∷ []
