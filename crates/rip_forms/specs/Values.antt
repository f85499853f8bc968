-- How `value` and `checked` of controls read (DOM Level 2 HTML, HTMLInputElement, HTMLSelectElement, HTMLOptionElement
-- and HTMLTextAreaElement).
use Rattle.std.specs.Prelude.{◌≡◌, ℕ, Bool, Option, None, Some, Result, Ok, codes, unwrap_or}
use Rattle.rip_base.specs.declared.value.Span.{Span}
use Rattle.rip_values.specs.FixedTexts.{fixed_span}
use Rattle.rip_values.specs.Pool.{Texts}
use Rattle.rip_dom.specs.declared.reading.TextRefused.{TextRefused}
use Rattle.rip_dom.specs.Document.{no_span}
use Rattle.rip_dom.specs.Names.{attribute_of}
use Rattle.rip_dom.specs.Reading.{Reads, text_below}
use Rattle.rip_dom.specs.Tree.{Tree}
use Rattle.rip_forms.specs.declared.control.FormPart.{FormPart}
use Rattle.rip_forms.specs.declared.control.FormPart.TheVariants.{Button, TextInput, NumberInput, TextArea, Checkbox, OtherInput, Select, Choice, Form, Link, Other}
use Rattle.rip_forms.specs.declared.value.Value.{Value}
use Rattle.rip_forms.specs.declared.value.Value.TheVariants.{Stands, Below}
use Rattle.rip_forms.specs.Controls.{has_attribute, part_of}
use Rattle.rip_forms.specs.Options.{chosen_of}
use Rattle.rip_forms.specs.States.{States, state_at}

-- `checked` of a checkbox: what was set last, or whether it has the attribute
abbrev pub checked_of : Texts → Tree → States → ℕ → Bool
checked_of pool t f n = unwrap_or (state_at f n).checked (has_attribute pool t n (codes "checked"))

-- the text of the attribute `value`, or else this one
abbrev pub value_or : Texts → Tree → ℕ → Span → Value
value_or pool t n other = Stands (unwrap_or (attribute_of pool t n (codes "value")) other)

-- what was set last stands; else the value is this one
abbrev pub set_or : Option Span → Value → Value
set_or None begins = begins
set_or (Some text) begins = Stands text

-- an option has its attribute `value`, or else its text (HTML 4.01 17.6.1)
abbrev pub option_value : Option Span → ℕ → Value
option_value None n = Below n
option_value (Some text) n = Stands text

-- the value of the option that is chosen, or no text
abbrev pub choice_value : Texts → Tree → Option ℕ → Value
choice_value pool t None = Stands no_span
choice_value pool t (Some option) = option_value (attribute_of pool t option (codes "value")) option

-- the value of a node, by what it is: of a text control what was set last, or else the attribute, or the text of a
-- textarea; of a checkbox the attribute, or `on`; of other inputs and of buttons the attribute, or no text; of a select
-- that of its chosen option. Other nodes have none
abbrev pub value_by : FormPart → Texts → Tree → States → ℕ → Value
value_by TextInput pool t f n = set_or (state_at f n).value (value_or pool t n no_span)
value_by NumberInput pool t f n = set_or (state_at f n).value (value_or pool t n no_span)
value_by TextArea pool t f n = set_or (state_at f n).value (Below n)
value_by Checkbox pool t f n = value_or pool t n (unwrap_or (fixed_span (codes "on")) no_span)
value_by OtherInput pool t f n = value_or pool t n no_span
value_by Button pool t f n = value_or pool t n no_span
value_by Select pool t f n = choice_value pool t (chosen_of pool t f n)
value_by Choice pool t f n = option_value (attribute_of pool t n (codes "value")) n
value_by Form pool t f n = Stands no_span
value_by Link pool t f n = Stands no_span
value_by Other pool t f n = Stands no_span

-- the value of the node
abbrev pub value_of : Texts → Tree → States → ℕ → Value
value_of pool t f n = value_by (part_of pool t n) pool t f n

-- the call answers the value: a text that stands costs nothing, and joined texts are a new one
abbrev pub ReadsValue : Tree → Value → Texts → Result Span TextRefused → Texts → Type 0
ReadsValue t (Stands text) old result new = (result ≡ Ok text) × (new ≡ old)
ReadsValue t (Below n) old result new = Reads (text_below old t n) old result new
