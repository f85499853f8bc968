-- Made from tables/names.txt by tools/names.py.
use Rattle.std.specs.Prelude.{ℕ, ◌^◌, List, [], ◌∷◌, codes}
use Rattle.rip_values.specs.declared.builtin.Builtin.TheVariants as builtin
use Rattle.rip_values.specs.declared.global.Global.{Global}
use Rattle.rip_values.specs.declared.global.Global.TheVariants.{Document, Ripley, Math, ParseInt, IsNaN, String, Number, Error, TypeError, RangeError, Undefined, NaN}
use Rattle.rip_base.specs.declared.value.Value.{Value}
use Rattle.rip_base.specs.declared.value.Value.TheVariants as value
use Rattle.rip_values.specs.Builtins.{number_of}

-- the name of a global
abbrev pub global_name : Global → List ℕ
global_name Document = codes "document"
global_name Ripley = codes "ripley"
global_name Math = codes "Math"
global_name ParseInt = codes "parseInt"
global_name IsNaN = codes "isNaN"
global_name String = codes "String"
global_name Number = codes "Number"
global_name Error = codes "Error"
global_name TypeError = codes "TypeError"
global_name RangeError = codes "RangeError"
global_name Undefined = codes "undefined"
global_name NaN = codes "NaN"

-- the value of a global where no scope binds the name (ECMA-262 15.1); the document is the object of the first number of a node
abbrev pub global_value : Global → Value
global_value Document = value.Object (2 ^ 31)
global_value Ripley = value.Object (number_of builtin.Ripley)
global_value Math = value.Object (number_of builtin.Math)
global_value ParseInt = value.Object (number_of builtin.ParseInt)
global_value IsNaN = value.Object (number_of builtin.IsNaN)
global_value String = value.Object (number_of builtin.String)
global_value Number = value.Object (number_of builtin.Number)
global_value Error = value.Object (number_of builtin.Error)
global_value TypeError = value.Object (number_of builtin.TypeError)
global_value RangeError = value.Object (number_of builtin.RangeError)
global_value Undefined = value.Undefined
global_value NaN = value.NaN

-- all globals
unfoldable pub globals : List Global
globals = Document ∷ Ripley ∷ Math ∷ ParseInt ∷ IsNaN ∷ String ∷ Number ∷ Error ∷ TypeError ∷ RangeError ∷ Undefined ∷ NaN ∷ []
