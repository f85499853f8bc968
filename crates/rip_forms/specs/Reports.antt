-- Reports of events: which is legal, and what it does to the states of controls.
use Rattle.std.specs.Prelude.{◌≡◌, ℕ, pos, ◌+◌, ◌-◌, ◌*◌, Bool, true, false, not, ◌&&◌, ◌||◌, nat_le, nat_lt, if◌then◌else◌, Option, None, Some, List, [], ◌∷◌, length, codes, unwrap_or, Result, Ok, Err}
use Rattle.std.specs.List.{list_all}
use Rattle.rip_base.specs.declared.report.BadReport.{BadReport}
use Rattle.rip_base.specs.declared.report.BadReport.TheVariants.{Node, Control, Disabled, Long, Option as NoOption}
use Rattle.rip_base.specs.declared.report.EventKind.{EventKind}
use Rattle.rip_base.specs.declared.report.EventKind.TheVariants.{Click, Focus, Blur, Submit, Change, Input}
use Rattle.rip_base.specs.declared.report.Report.{Report}
use Rattle.rip_base.specs.declared.value.Limit.TheVariants.{Units}
use Rattle.rip_base.specs.declared.value.Refused.{Refused}
use Rattle.rip_base.specs.declared.value.Refused.TheVariants.{Limit as At, Memory}
use Rattle.rip_values.specs.Pool.{Texts, span_behind, with_text}
use Rattle.rip_dom.specs.Tree.{Tree, is_above, is_element, node_at}
use Rattle.rip_forms.specs.declared.control.FormPart.{FormPart}
use Rattle.rip_forms.specs.declared.state.FormState.TheVariants.{Value, Checked, Selected}
use Rattle.rip_forms.specs.Controls.{attribute_text, has_attribute, is_checkbox, is_control, is_form, is_link, is_number, is_select, is_text_control, part_of}
use Rattle.rip_forms.specs.Options.{options_of}
use Rattle.rip_forms.specs.States.{States, states_with}
use Rattle.rip_forms.specs.Values.{checked_of}

-- WHICH IS LEGAL

-- the node is an element below the document, whose number is 0
abbrev pub is_of_document : Tree → ℕ → Bool
is_of_document t n = is_element (node_at t n).kind && is_above t 0 n

-- an event of this kind, with the place of an option or without one, can happen at it: submit at a form; input at a text
-- control; change at a select with a place, and without one at a text control or a checkbox; focus and blur at a control
-- or a link; click at each element (HTML 4.01 18.2.3)
abbrev pub fits : EventKind → Option ℕ → FormPart → Bool
fits Click place part = true
fits Submit place part = is_form part
fits Input place part = is_text_control part
fits Change (Some k) part = is_select part
fits Change None part = is_text_control part || is_checkbox part
fits Focus place part = is_control part || is_link part
fits Blur place part = is_control part || is_link part

-- it is a control that has the attribute `disabled` (HTML 4.01 17.12.1)
abbrev pub is_disabled : Texts → Tree → ℕ → FormPart → Bool
is_disabled pool t n part = is_control part && has_attribute pool t n (codes "disabled")

-- a digit from 0 to 9
abbrev pub is_digit : ℕ → Bool
is_digit u = nat_le 48 u && nat_le u 57

-- the number that the digits spell behind those of this one
abbrev pub number_behind : ℕ → List ℕ → ℕ
number_behind n [] = n
number_behind n (d ∷ ds) = number_behind (10 * n + (d - 48)) ds

-- a `maxlength` that counts is 1 to 9 digits
abbrev pub is_length : List ℕ → Bool
is_length text = nat_le 1 (length text) && (nat_le (length text) 9 && list_all is_digit text)

-- a text of so many units passes this `maxlength` (HTML 4.01 17.4.1)
abbrev pub passes : Option (List ℕ) → ℕ → Bool
passes None count = false
passes (Some text) count = is_length text && nat_lt (number_behind 0 text) count

-- the text is too long: past 8,192 units, or past the `maxlength` of a control other than an input of type number
abbrev pub is_long : Texts → Tree → ℕ → FormPart → Option (List ℕ) → Bool
is_long pool t n part None = false
is_long pool t n part (Some text) =
    nat_lt 8192 (length text)
    || (not (is_number part) && passes (attribute_text pool t n (codes "maxlength")) (length text))

-- the place is that of no option
abbrev pub is_past_options : Texts → Tree → ℕ → Option ℕ → Bool
is_past_options pool t n None = false
is_past_options pool t n (Some k) = not (nat_lt k (length (options_of pool t n)))

-- why the report is not legal, or nothing: the first of these
abbrev pub refusal_of : Texts → Tree → Report → Option BadReport
refusal_of pool t r =
    if not (is_of_document t r.node) then Some Node
    else if not (fits r.kind r.place (part_of pool t r.node)) then Some Control
    else if is_disabled pool t r.node (part_of pool t r.node) then Some Disabled
    else if is_long pool t r.node (part_of pool t r.node) r.text then Some Long
    else if is_past_options pool t r.node r.place then Some NoOption
    else None

-- WHAT IT DOES

-- the text that a report brings
abbrev pub text_of : Report → List ℕ
text_of r = unwrap_or r.text []

-- a click turns a checkbox over, and keeps what it was
abbrev pub clicked : Texts → Tree → States → ℕ → States
clicked pool t f n =
    if is_checkbox (part_of pool t n)
    then record (states_with f n (Checked (not (checked_of pool t f n)))) { before_click = checked_of pool t f n }
    else f

-- a change with a place chooses that option
abbrev pub changed : States → ℕ → Option ℕ → States
changed f n None = f
changed f n (Some k) = states_with f n (Selected (pos k))

-- texts and states
pub record World : Type 0 where
  pub pool : Texts
  pub states : States

-- the text of an input is a new text, and the value of its control
abbrev pub put : World → ℕ → List ℕ → World
put w n text = record {
  pool = with_text w.pool text (length text);
  states = states_with w.states n (Value (span_behind w.pool text));
}

-- texts and states after the event
abbrev pub effect_by : EventKind → Tree → World → Report → World
effect_by Click t w r = record w { states = clicked w.pool t w.states r.node }
effect_by Change t w r = record w { states = changed w.states r.node r.place }
effect_by Input t w r = put w r.node (text_of r)
effect_by Focus t w r = w
effect_by Blur t w r = w
effect_by Submit t w r = w

-- what the report does
abbrev pub effect_of : Tree → World → Report → World
effect_of t w r = effect_by r.kind t w r

-- the event brings a text
abbrev pub is_input : EventKind → Bool
is_input Input = true
is_input _ = false

-- the text of the report would pass the limit of units
abbrev pub is_past : Texts → Report → Bool
is_past pool r = is_input r.kind && nat_lt pool.limit (pool.used + length (text_of r))

-- the call does what the report says, or answers the limit of units and changes nothing
abbrev pub Applies : Bool → World → World → Result (Unit {0}) Refused → World → Type 0
Applies past made old (Ok done) new = (past ≡ false) × (new ≡ made)
Applies past made old (Err (At l)) new = (past ≡ true) × (l ≡ Units) × (new ≡ old)
Applies past made old (Err Memory) new = ⊥

-- the call answers no refusal, or this one
abbrev pub Judges : Option BadReport → Result (Unit {0}) BadReport → Type 0
Judges refusal (Ok done) = refusal ≡ None
Judges refusal (Err why) = refusal ≡ Some why
