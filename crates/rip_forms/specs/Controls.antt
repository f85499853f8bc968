-- What an element is to a form, by its name and, of an input, by its `type`.
use Rattle.std.specs.Prelude.{ℕ, Bool, true, false, ◌||◌, is_some, if◌then◌else◌, Option, None, Some, List, [], ◌∷◌, codes, option_map}
use Rattle.std.specs.List.{list_any}
use Rattle.std.specs.Str.{bytes_eq}
use Rattle.rip_base.specs.declared.value.Span.{Span}
use Rattle.rip_values.specs.Pool.{Texts, text_at}
use Rattle.rip_base.specs.Units.{small_text}
use Rattle.rip_dom.specs.Names.{attribute_of}
use Rattle.rip_dom.specs.Tree.{Tree, node_at}
use Rattle.rip_forms.specs.declared.control.FormPart.{FormPart}
use Rattle.rip_forms.specs.declared.control.FormPart.TheVariants.{Button, TextInput, NumberInput, TextArea, Checkbox, OtherInput, Select, Choice, Form, Link, Other}

-- the text of the node's attribute of this name
abbrev pub attribute_text : Texts → Tree → ℕ → List ℕ → Option (List ℕ)
attribute_text pool t n name = option_map (text_at pool) (attribute_of pool t n name)

-- the node has an attribute of this name
abbrev pub has_attribute : Texts → Tree → ℕ → List ℕ → Bool
has_attribute pool t n name = is_some (attribute_of pool t n name)

-- values of `type`, in small letters, with which an input holds a text, beside `number` (HTML 4.01 17.4.1: text and
-- password; HTML 4.10.5.1: search, tel, url and email)
unfoldable pub text_types : List (List ℕ)
text_types =
    codes "text" ∷ codes "password" ∷ codes "search" ∷ codes "tel" ∷ codes "url" ∷ codes "email" ∷ []

-- the type, in small letters, is one with which an input holds a text
abbrev pub is_text_type : List ℕ → Bool
is_text_type type = list_any (bytes_eq type) text_types

-- what an input of this type, in small letters, is
abbrev pub input_of_type : List ℕ → FormPart
input_of_type type =
    if is_text_type type then TextInput
    else if bytes_eq type (codes "number") then NumberInput
    else if bytes_eq type (codes "checkbox") then Checkbox
    else OtherInput

-- what an input of the type that is spelled there is; without one it holds a text (HTML 4.01 17.4.1). Types are keywords,
-- in which capitals do not count
abbrev pub input_at : Texts → Option Span → FormPart
input_at pool None = TextInput
input_at pool (Some spelled) = input_of_type (small_text (text_at pool spelled))

-- what an element of this name is (HTML 4.01 17.4 to 17.7, 17.3 and 12.2)
abbrev pub part_named : Texts → Tree → ℕ → List ℕ → FormPart
part_named pool t n name =
    if bytes_eq name (codes "input") then input_at pool (attribute_of pool t n (codes "type"))
    else if bytes_eq name (codes "button") then Button
    else if bytes_eq name (codes "select") then Select
    else if bytes_eq name (codes "textarea") then TextArea
    else if bytes_eq name (codes "option") then Choice
    else if bytes_eq name (codes "form") then Form
    else if bytes_eq name (codes "a") then Link
    else Other

-- what an element of the name at this span is; what has no name is no element
abbrev pub part_at : Texts → Tree → ℕ → Option Span → FormPart
part_at pool t n None = Other
part_at pool t n (Some name) = part_named pool t n (text_at pool name)

-- what the node is to a form
abbrev pub part_of : Texts → Tree → ℕ → FormPart
part_of pool t n = part_at pool t n (node_at t n).name

-- the controls are button, input, select and textarea (HTML 4.01 17.2.1)
abbrev pub is_control : FormPart → Bool
is_control Choice = false
is_control Form = false
is_control Link = false
is_control Other = false
is_control _ = true

-- the text controls are textarea and the inputs that hold a text or a number
abbrev pub is_text_control : FormPart → Bool
is_text_control TextInput = true
is_text_control NumberInput = true
is_text_control TextArea = true
is_text_control _ = false

-- an input of type checkbox
abbrev pub is_checkbox : FormPart → Bool
is_checkbox Checkbox = true
is_checkbox _ = false

-- an input of type number
abbrev pub is_number : FormPart → Bool
is_number NumberInput = true
is_number _ = false

-- a select
abbrev pub is_select : FormPart → Bool
is_select Select = true
is_select _ = false

-- an option
abbrev pub is_choice : FormPart → Bool
is_choice Choice = true
is_choice _ = false

-- a form
abbrev pub is_form : FormPart → Bool
is_form Form = true
is_form _ = false

-- a link
abbrev pub is_link : FormPart → Bool
is_link Link = true
is_link _ = false
