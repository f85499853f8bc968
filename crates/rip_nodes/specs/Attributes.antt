-- Attributes that are read, given and taken by calls and members (DOM Level 2 Core 1.2).
use Rattle.std.specs.Prelude.{ℕ, ◌+◌, ◌&&◌, not, Bool, true, false, codes, is_some, if◌then◌else◌, Option, None, Some, List, unwrap_or}
use Rattle.rip_values.specs.declared.fixed.FixedText.TheVariants.{Empty}
use Rattle.rip_base.specs.declared.value.Fault.TheVariants.{NotInProfile}
use Rattle.rip_base.specs.declared.value.Span.{Span}
use Rattle.rip_base.specs.declared.value.Value.{Value}
use Rattle.rip_base.specs.declared.value.Value.TheVariants.{Undefined, Bool as Boolean}
use Rattle.rip_values.specs.Pool.{Texts, text_at}
use Rattle.rip_heap.specs.declared.host.HostDone.{HostDone}
use Rattle.rip_heap.specs.declared.host.HostDone.TheVariants as host
use Rattle.rip_heap.specs.Conversions.{span_of, text_fault}
use Rattle.rip_heap.specs.World.{World}
use Rattle.rip_dom.specs.Attributes.{attribute_set, has_attribute, is_attribute_name}
use Rattle.rip_dom.specs.Creation.{cost_of_name}
use Rattle.rip_dom.specs.Names.{attribute_of, without_attribute}
use Rattle.rip_dom.specs.Opening.{Opening}
use Rattle.rip_dom.specs.Tree.{Tree}
use Rattle.rip_nodes.specs.Answers.{attribute_value}
use Rattle.rip_nodes.specs.Names.{begins_with_on}
use Rattle.rip_nodes.specs.Texts.{are_past, cost_of_text, is_full, once_text, standing_text, text_span, unless_fault, with_text, with_text_of, within_limits, world_with}

-- texts and tree together
abbrev pub opening : Texts → Tree → Opening
opening pool t = record { pool = pool; tree = t }

-- READING

-- getAttribute: the value, or the empty text
abbrev pub attribute_got : World → Tree → ℕ → Value → HostDone × World × Tree
attribute_got w t n v =
    with_text w t false v (λ name x. (host.Value (attribute_value x (attribute_of x.pool t n (text_at x.pool name))), x, t))

-- hasAttribute
abbrev pub attribute_there : World → Tree → ℕ → Value → HostDone × World × Tree
attribute_there w t n v =
    with_text w t false v (λ name x. (host.Value (Boolean (is_some (attribute_of x.pool t n (text_at x.pool name)))), x, t))

-- GIVING

-- the text of the value is made, and counts for nothing: the name was not legal (INVALID_CHARACTER_ERR)
abbrev pub illegal_name : World → Tree → Value → HostDone × World × Tree
illegal_name w t v = with_text w t false v (λ text x. (host.Dom 5, x, t))

-- the text of the value could be made, but the name is one that the profile leaves out
abbrev pub name_left_out : World → Tree → Value → HostDone × World × Tree
name_left_out w t v = with_text w t false v (λ text x. (host.Fault NotInProfile, w, t))

-- what a node's attribute of this name costs, in units, where it is to be made
abbrev pub cost_of_new : World → Tree → ℕ → Span → ℕ
cost_of_new w t n name = if has_attribute (opening w.pool t) n name then 0 else cost_of_name w.pool name

-- the texts in which the name is kept, where the attribute is to be made
abbrev pub texts_kept : World → Tree → ℕ → Span → Texts
texts_kept w t n name = (attribute_set (opening w.pool t) n name (span_of Empty)).pool

-- the node's attribute of this name, which is legal, gets the text of the value, once that can be made. An attribute that is
-- made costs a node and the name's small letters, where it has capitals; the text of the value comes behind the name
abbrev pub attribute_given : World → Tree → ℕ → Span → Value → HostDone × World × Tree
attribute_given w t n name v =
    once_text w t v
    (within_limits (not (has_attribute (opening w.pool t) n name) && is_full t) (are_past w.pool (cost_of_new w t n name + cost_of_text v)) w t (
      host.Value Undefined,
      record w { pool = with_text_of (texts_kept w t n name) v },
      (attribute_set (opening w.pool t) n name (text_span (texts_kept w t n name) v)).tree,
    ))

-- setAttribute with a name that stands
abbrev pub attribute_set_named : World → Tree → ℕ → Span → Value → HostDone × World × Tree
attribute_set_named w t n name v =
    if not (is_attribute_name (text_at w.pool name)) then illegal_name w t v
    else if begins_with_on (text_at w.pool name) then name_left_out w t v
    else attribute_given w t n name v

-- setAttribute with a number as its name: the numeral begins with a digit or a sign, so it is not legal. Both texts are
-- made first
abbrev pub attribute_set_numbered : World → Tree → Value → Value → HostDone × World × Tree
attribute_set_numbered w t a v =
    within_limits false (are_past w.pool (cost_of_text a + cost_of_text v)) w t
    (host.Dom 5, world_with (world_with w a) v, t)

abbrev pub attribute_set_by : World → Tree → ℕ → Option Span → Value → Value → HostDone × World × Tree
attribute_set_by w t n (Some name) a v = attribute_set_named w t n name v
attribute_set_by w t n None a v = attribute_set_numbered w t a v

-- setAttribute: name and value become texts first, in this order
abbrev pub attribute_set_call : World → Tree → ℕ → Value → Value → HostDone × World × Tree
attribute_set_call w t n a v =
    once_text w t a (unless_fault (text_fault w.pool v) w t (attribute_set_by w t n (standing_text a) a v))

-- TAKING

-- removeAttribute with a name that stands
abbrev pub attribute_taken_named : World → Tree → ℕ → List ℕ → HostDone × World × Tree
attribute_taken_named w t n name =
    if not (is_attribute_name name) then (host.Dom 5, w, t)
    else if begins_with_on name then (host.Fault NotInProfile, w, t)
    else (host.Value Undefined, w, without_attribute w.pool t n name)

abbrev pub attribute_taken_by : World → Tree → ℕ → Option Span → Value → HostDone × World × Tree
attribute_taken_by w t n (Some name) a = attribute_taken_named w t n (text_at w.pool name)
attribute_taken_by w t n None a = illegal_name w t a

-- removeAttribute: a number is no legal name
abbrev pub attribute_taken : World → Tree → ℕ → Value → HostDone × World × Tree
attribute_taken w t n a = unless_fault (text_fault w.pool a) w t (attribute_taken_by w t n (standing_text a) a)
