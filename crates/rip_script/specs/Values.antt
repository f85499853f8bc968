-- Values of the script language as text.
use Rattle.std.specs.Prelude.{ℕ, zero, suc, ◌+◌, ◌/◌, ◌%◌, Bool, true, false, not, ◌&&◌, ◌==◌, nat_le, nat_lt, if◌then◌else◌, List, [], ◌∷◌, ◌++◌, map, Option, Some, None, option_map, option_and_then, unwrap_or, slice_get, codes}
use Rattle.std.specs.List.{flat_map, join_with_byte, list_any}
use Rattle.std.specs.Fmt.{signed_decimal}
use Rattle.std.specs.Char.Utf16.{utf16_lossy_chars}
use Rattle.std.specs.Str.{encode_utf8_all}
use Rattle.rip_values.specs.Builtins.{builtins, name_of}
use Rattle.rip_values.specs.Pool.{Texts, text_at}
use Rattle.rip_values.specs.declared.builtin.Builtin.{Builtin}
use Rattle.rip_base.specs.declared.value.Value.{Value}
use Rattle.rip_base.specs.declared.value.Value.TheVariants as V
use Rattle.rip_tree.specs.Branches.{node_of, units_at}
use Rattle.rip_tree.specs.Program.{Code}
use Rattle.rip_tree.specs.declared.form.Form.{Form}
use Rattle.rip_tree.specs.declared.form.Form.TheVariants as F
use Rattle.rip_tree.specs.declared.node.Piece.{Piece}
use Rattle.rip_heap.specs.Arrays.{elements_at}
use Rattle.rip_heap.specs.World.{World, Object, object_at, class_of, code_of}
use Rattle.rip_heap.specs.declared.class.Class.{Class}
use Rattle.rip_heap.specs.declared.class.Class.TheVariants as C
use Rattle.rip_heap_region.specs.declared.pages.property.Property.{Property}

-- TEXTS

-- a unit that stands for itself between quotes: of ASCII, no control, `"` (34) or `\` (92)
abbrev pub is_plain : ℕ → Bool
is_plain unit = nat_le 32 unit && nat_le unit 126 && not (unit == 34) && not (unit == 92)

-- a hexadecimal digit, in small letters
abbrev pub hexadecimal : ℕ → ℕ
hexadecimal digit = if nat_lt digit 10 then 48 + digit else 87 + digit

-- a unit between quotes: itself, or `\u` and four hexadecimal digits
abbrev pub unit_text : ℕ → List ℕ
unit_text unit =
    if is_plain unit then unit ∷ []
    else 92 ∷ 117 ∷ hexadecimal (unit / 4096 % 16) ∷ hexadecimal (unit / 256 % 16) ∷ hexadecimal (unit / 16 % 16) ∷ hexadecimal (unit % 16) ∷ []

-- a text between quotes
abbrev pub quoted : List ℕ → List ℕ
quoted units = codes "\"" ++ flat_map unit_text units ++ codes "\""

-- a name in UTF-8, with U+FFFD for each surrogate that has no partner
abbrev pub name_text : List ℕ → List ℕ
name_text units = encode_utf8_all (utf16_lossy_chars units)

-- FUNCTIONS

-- the name of a function of the script, by its form
abbrev pub name_of_form : Form → Option Piece
name_of_form (F.FunctionDeclaration head) = head.name
name_of_form (F.Function head) = head.name
name_of_form _ = None

-- the name of the function of the script that is this node
abbrev pub name_of_node : Code → ℕ → Option Piece
name_of_node program node = option_and_then (λ n. name_of_form n.form) (node_of program.grove.branches node)

-- `function`, and behind a space its name, if it has one
abbrev pub named_text : Code → Option Piece → List ℕ
named_text program None = codes "function"
named_text program (Some name) = codes "function " ++ name_text (units_at program.grove.units name)

-- a function of the script, which knows its node and its scope
abbrev pub function_text : Code → Option (ℕ × ℕ) → List ℕ
function_text program code = named_text program (option_and_then (λ c. name_of_node program c.0) code)

-- `builtin` and its name
abbrev pub builtin_text : Builtin → List ℕ
builtin_text builtin = codes "builtin " ++ name_of builtin

-- OTHER OBJECTS

-- the word before the properties of an object of this class; a plain object has none
abbrev pub class_word : Class → List ℕ
class_word C.Plain = []
class_word C.Prototype = []
class_word C.Array = []
class_word C.Function = []
class_word C.Error = codes "Error"
class_word C.TypeError = codes "TypeError"
class_word C.RangeError = codes "RangeError"
class_word C.ThrownTypeError = codes "ThrownTypeError"
class_word C.ThrownReferenceError = codes "ThrownReferenceError"
class_word C.Code = []
class_word C.Event = codes "Event"

-- elements between brackets, with commas between them
abbrev pub array_text : (Value → List ℕ) → List Value → List ℕ
array_text show items = codes "[" ++ join_with_byte 44 (map show items) ++ codes "]"

-- a property: its name, `:` and its value
abbrev pub property_text : Texts → (Value → List ℕ) → Property → List ℕ
property_text pool show property = name_text (text_at pool property.name) ++ codes ":" ++ show property.value

-- properties between braces in the order of making, with commas between them
abbrev pub properties_text : Texts → (Value → List ℕ) → List Property → List ℕ
properties_text pool show properties = codes "{" ++ join_with_byte 44 (map (property_text pool show) properties) ++ codes "}"

-- the own properties of an object, or of none
abbrev pub properties_of : Option Object → List Property
properties_of None = []
properties_of (Some o) = o.properties

-- an object that is shown by what it holds
abbrev pub contents_text : World → (Value → List ℕ) → ℕ → Class → List ℕ
contents_text w show n C.Array = array_text show (elements_at w n)
contents_text w show n class = class_word class ++ properties_text w.pool show (properties_of (object_at w n))

-- the class is that of functions of the script
abbrev pub is_function : Class → Bool
is_function C.Function = true
is_function _ = false

-- an object by its class: a function by its name, and any other by what it holds
abbrev pub object_by_class : World → Code → ℕ → List ℕ → Class → List ℕ
object_by_class w program n contents class = if is_function class then function_text program (code_of (object_at w n)) else contents

-- the object is one of these
abbrev pub is_around : List ℕ → ℕ → Bool
is_around around n = list_any (λ m. m == n) around

-- what an object holds, but `<cycle>` where the object is one of those around it
abbrev pub unless_around : List ℕ → ℕ → List ℕ → List ℕ
unless_around around n contents = if is_around around n then codes "<cycle>" else contents

-- the value, where objects are shown so
abbrev pub value_with : World → (ℕ → List ℕ) → Value → List ℕ
value_with w show V.Undefined = codes "undefined"
value_with w show V.Null = codes "null"
value_with w show (V.Bool true) = codes "true"
value_with w show (V.Bool false) = codes "false"
value_with w show V.NaN = codes "NaN"
value_with w show (V.Num number) = signed_decimal number
value_with w show (V.Text span) = quoted (text_at w.pool span)
value_with w show (V.Object n) = show n

-- The object of this number, in which so many levels of objects are shown and `...` stands below them, where these
-- objects are around it. A number that is no object of the world is that of an empty object.
abbrev pub object_text : World → Code → ℕ → List ℕ → ℕ → List ℕ
object_text w program zero around n =
    unwrap_or (option_map builtin_text (slice_get builtins n)) (object_by_class w program n (unless_around around n (codes "...")) (class_of (object_at w n)))
object_text w program (suc levels) around n =
    let show : Value → List ℕ = λ v. value_with w (λ m. object_text w program levels (around ++ n ∷ []) m) v in
    unwrap_or (option_map builtin_text (slice_get builtins n)) (object_by_class w program n (unless_around around n (contents_text w show n (class_of (object_at w n)))) (class_of (object_at w n)))

-- so many levels of objects are shown
abbrev pub shown_levels : ℕ
shown_levels = 6

-- the value, in which so many levels of objects are shown, where these objects are around it
abbrev pub value_text : World → Code → ℕ → List ℕ → Value → List ℕ
value_text w program levels around v = value_with w (λ n. object_text w program levels around n) v
