-- The members of controls: `value`, `checked`, `selectedIndex` and `disabled` (DOM Level 2 HTML 1.6.5).
use Rattle.std.specs.Prelude.{ℕ, ℤ, Bool, true, false, codes, is_some, nat_le, unsigned_abs, if◌then◌else◌, Option, None, Some, Result, Ok, Err}
use Rattle.rip_values.specs.declared.fixed.FixedText.{FixedText}
use Rattle.rip_values.specs.declared.fixed.FixedText.TheVariants.{Empty, Value as ValueText, Checked as CheckedText, SelectedIndex as SelectedIndexText, Disabled as DisabledText}
use Rattle.rip_base.specs.declared.value.Fault.{Fault}
use Rattle.rip_base.specs.declared.value.Numeral.{Numeral}
use Rattle.rip_base.specs.declared.value.Span.{Span}
use Rattle.rip_base.specs.declared.value.Value.{Value as ScriptValue}
use Rattle.rip_base.specs.declared.value.Value.TheVariants.{Undefined, Null, Bool as Boolean, Num, NaN, Text, Object}
use Rattle.rip_values.specs.Pool.{text_at}
use Rattle.rip_heap.specs.declared.host.HostDone.{HostDone}
use Rattle.rip_heap.specs.declared.host.HostDone.TheVariants as host
use Rattle.rip_heap.specs.Conversions.{boolean_of, integer_of, number_of, span_of}
use Rattle.rip_heap.specs.World.{World}
use Rattle.rip_dom.specs.Names.{attribute_of, without_attribute}
use Rattle.rip_dom.specs.Reading.{text_below}
use Rattle.rip_dom.specs.Tree.{Tree}
use Rattle.rip_forms.specs.declared.control.FormPart.{FormPart}
use Rattle.rip_forms.specs.declared.control.FormPart.TheVariants.{Button, TextInput, NumberInput, TextArea, Checkbox, OtherInput, Select, Choice, Form, Link, Other}
use Rattle.rip_forms.specs.declared.state.FormState.{FormState}
use Rattle.rip_forms.specs.declared.state.FormState.TheVariants.{Value as SetValue, Checked as SetChecked, Selected as SetSelected}
use Rattle.rip_forms.specs.declared.value.Value.{Value as ControlValue}
use Rattle.rip_forms.specs.declared.value.Value.TheVariants.{Stands, Below}
use Rattle.rip_forms.specs.Choices.{place_of_value}
use Rattle.rip_forms.specs.Controls.{is_checkbox, is_control, is_select, part_of}
use Rattle.rip_forms.specs.Options.{selected_of}
use Rattle.rip_forms.specs.States.{states_with}
use Rattle.rip_forms.specs.Values.{checked_of, value_of}
use Rattle.rip_nodes.specs.Answers.{gives, new_text, text_value}
use Rattle.rip_nodes.specs.Attributes.{attribute_given}
use Rattle.rip_nodes.specs.Texts.{text_taken}
use Rattle.rip_host.specs.declared.browser.Browser.{Browser}
use Rattle.rip_host.specs.declared.form_members.FormMember.{FormMember}
use Rattle.rip_host.specs.declared.form_members.FormMember.TheVariants as member
use Rattle.rip_host.specs.Visit.{of_nodes, of_reading, outside}

-- the member of controls that has this name
abbrev pub form_member_of : FixedText → Option FormMember
form_member_of ValueText = Some member.Value
form_member_of CheckedText = Some member.Checked
form_member_of SelectedIndexText = Some member.SelectedIndex
form_member_of DisabledText = Some member.Disabled
form_member_of _ = None

-- READING

-- a whole number of the range as a value
abbrev pub whole_value : ℤ → ScriptValue
whole_value z = if nat_le (unsigned_abs z) 9007199254740991 then Num z else NaN

-- what has a `value`: a control or an option
abbrev pub has_value : FormPart → Bool
has_value Form = false
has_value Link = false
has_value Other = false
has_value _ = true

-- a value that stands, or texts that are joined to a new one
abbrev pub value_read : World → Tree → ControlValue → HostDone × World
value_read w t (Stands text) = gives (text_value w text) w
value_read w t (Below n) = new_text w (text_below w.pool t n)

-- what is read of an element that has the member
abbrev pub if_part : Bool → World → Browser → HostDone × World → HostDone × World × Browser
if_part true w s answer = of_reading answer s
if_part false w s answer = outside w s

-- what a node has as this member
abbrev pub form_read : World → Browser → ℕ → FormMember → HostDone × World × Browser
form_read w s n member.Value = if_part (has_value (part_of w.pool s.dom n)) w s (value_read w s.dom (value_of w.pool s.dom s.forms n))
form_read w s n member.Checked = if_part (is_checkbox (part_of w.pool s.dom n)) w s (gives (Boolean (checked_of w.pool s.dom s.forms n)) w)
form_read w s n member.SelectedIndex = if_part (is_select (part_of w.pool s.dom n)) w s (gives (whole_value (selected_of w.pool s.dom s.forms n)) w)
form_read w s n member.Disabled = if_part (is_control (part_of w.pool s.dom n)) w s (gives (Boolean (is_some (attribute_of w.pool s.dom n (codes "disabled")))) w)

-- WRITING

-- the browser with this set of the node
abbrev pub with_state : Browser → ℕ → FormState → Browser
with_state s n set = record s { forms = states_with s.forms n set }

-- this is set of the node
abbrev pub state_written : World → Browser → ℕ → FormState → HostDone × World × Browser
state_written w s n set = (host.Value Undefined, w, with_state s n set)

-- null is written to an input or a textarea as the empty text
abbrev pub null_or_empty : ScriptValue → ScriptValue
null_or_empty Null = Text (span_of Empty)
null_or_empty Undefined = Undefined
null_or_empty (Boolean b) = Boolean b
null_or_empty (Num z) = Num z
null_or_empty NaN = NaN
null_or_empty (Text span) = Text span
null_or_empty (Object n) = Object n

abbrev pub goes_on_in : Result Span HostDone → World → Browser → (Span → World → HostDone × World × Browser) → HostDone × World × Browser
goes_on_in (Ok span) w s go = go span w
goes_on_in (Err done) w s go = (done, w, s)

-- goes on with the text of a value
abbrev pub with_text_in : World → Browser → ScriptValue → (Span → World → HostDone × World × Browser) → HostDone × World × Browser
with_text_in w s v go = goes_on_in (text_taken w false v).0 (text_taken w false v).1 s go

-- a text control holds the text of the value
abbrev pub text_held : World → Browser → ℕ → ScriptValue → HostDone × World × Browser
text_held w s n v = with_text_in w s v (λ text x. (host.Value Undefined, x, with_state s n (SetValue text)))

-- of a select the first option of that value is chosen, or none
abbrev pub option_chosen : World → Browser → ℕ → ScriptValue → HostDone × World × Browser
option_chosen w s n v =
    with_text_in w s v (λ text x. (host.Value Undefined, x, with_state s n (SetSelected (place_of_value x.pool s.dom n (text_at x.pool text)))))

-- `value`, by what the element is: a text control holds it, a select chooses an option, and other inputs and buttons get
-- it as their attribute
abbrev pub value_written : World → Browser → ℕ → FormPart → ScriptValue → HostDone × World × Browser
value_written w s n TextInput v = text_held w s n (null_or_empty v)
value_written w s n NumberInput v = text_held w s n (null_or_empty v)
value_written w s n TextArea v = text_held w s n (null_or_empty v)
value_written w s n Checkbox v = of_nodes (attribute_given w s.dom n (span_of ValueText) (null_or_empty v)) s
value_written w s n OtherInput v = of_nodes (attribute_given w s.dom n (span_of ValueText) (null_or_empty v)) s
value_written w s n Button v = of_nodes (attribute_given w s.dom n (span_of ValueText) v) s
value_written w s n Select v = option_chosen w s n v
value_written w s n Choice v = outside w s
value_written w s n Form v = outside w s
value_written w s n Link v = outside w s
value_written w s n Other v = outside w s

-- `checked`, by ToBoolean
abbrev pub checked_written : World → Browser → ℕ → Bool → ScriptValue → HostDone × World × Browser
checked_written w s n true v = state_written w s n (SetChecked (boolean_of w.pool v))
checked_written w s n false v = outside w s

abbrev pub place_written : World → Browser → ℕ → Result Numeral Fault → HostDone × World × Browser
place_written w s n (Ok number) = state_written w s n (SetSelected (integer_of number))
place_written w s n (Err fault) = (host.Fault fault, w, s)

-- `selectedIndex`, by ToInteger
abbrev pub selected_written : World → Browser → ℕ → Bool → ScriptValue → HostDone × World × Browser
selected_written w s n true v = place_written w s n (number_of w.pool v)
selected_written w s n false v = outside w s

abbrev pub attribute_kept : Bool → World → Browser → ℕ → HostDone × World × Browser
attribute_kept true w s n = of_nodes (attribute_given w s.dom n (span_of DisabledText) (Text (span_of Empty))) s
attribute_kept false w s n = (host.Value Undefined, w, record s { dom = without_attribute w.pool s.dom n (codes "disabled") })

-- `disabled`, by ToBoolean: the attribute is there, of the empty text, or is not
abbrev pub disabled_written : World → Browser → ℕ → Bool → ScriptValue → HostDone × World × Browser
disabled_written w s n true v = attribute_kept (boolean_of w.pool v) w s n
disabled_written w s n false v = outside w s

-- what it means to write this member of a node
abbrev pub form_written : World → Browser → ℕ → FormMember → ScriptValue → HostDone × World × Browser
form_written w s n member.Value v = value_written w s n (part_of w.pool s.dom n) v
form_written w s n member.Checked v = checked_written w s n (is_checkbox (part_of w.pool s.dom n)) v
form_written w s n member.SelectedIndex v = selected_written w s n (is_select (part_of w.pool s.dom n)) v
form_written w s n member.Disabled v = disabled_written w s n (is_control (part_of w.pool s.dom n)) v
