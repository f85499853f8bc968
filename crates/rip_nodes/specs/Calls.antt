-- Calls of the document and of nodes (DOM Level 2 Core 1.2).
use Rattle.std.specs.Prelude.{ℕ, ◌-◌, ◌&&◌, not, Bool, true, false, nat_le, nat_lt, is_some, unwrap_or, slice_get, if◌then◌else◌, Option, None, Some, List, option_map, length}
use Rattle.rip_base.specs.declared.page.NodeKind.TheVariants.{Element, Text}
use Rattle.rip_base.specs.declared.value.Fault.TheVariants.{NotInProfile}
use Rattle.rip_base.specs.declared.value.Limit.{Limit}
use Rattle.rip_base.specs.declared.value.Refused.{Refused}
use Rattle.rip_base.specs.declared.value.Refused.TheVariants.{Limit as At, Memory}
use Rattle.rip_base.specs.declared.value.Span.{Span}
use Rattle.rip_base.specs.declared.value.Value.{Value}
use Rattle.rip_base.specs.declared.value.Value.TheVariants.{Undefined, Null, Bool as Boolean, Num, NaN, Text as TextValue, Object}
use Rattle.rip_values.specs.Pool.{text_at}
use Rattle.rip_heap.specs.declared.host.HostDone.{HostDone}
use Rattle.rip_heap.specs.declared.host.HostDone.TheVariants as host
use Rattle.rip_heap.specs.Conversions.{text_fault}
use Rattle.rip_heap.specs.World.{World, first_node}
use Rattle.rip_dom.specs.Creation.{cost_of_name, element_made, is_element_name}
use Rattle.rip_dom.specs.Lists.{first_of}
use Rattle.rip_dom.specs.Order.{element_of_id}
use Rattle.rip_dom.specs.Tree.{Tree, children_of, insert_code, inserted, node_at, is_element, remove_code, replace_code, replaced, taken_out, with_node}
use Rattle.rip_nodes.specs.declared.member.NodeCall.{NodeCall}
use Rattle.rip_nodes.specs.declared.member.NodeCall.TheVariants as call
use Rattle.rip_nodes.specs.Answers.{is_document, node_or_null, node_value}
use Rattle.rip_nodes.specs.Attributes.{attribute_got, attribute_set_call, attribute_taken, attribute_there, illegal_name, opening}
use Rattle.rip_nodes.specs.Names.{is_script}
use Rattle.rip_nodes.specs.Texts.{are_past, is_full, standing_text, unless_fault, with_text, within_limits}

-- ARGUMENTS

-- the argument at this place; one that is absent is undefined
abbrev pub argument : List Value → ℕ → Value
argument args i = unwrap_or (slice_get args i) Undefined

-- the node of this number as an object, where there is one
abbrev pub node_of_object : Tree → ℕ → Option ℕ
node_of_object t n = if nat_le first_node n && nat_lt (n - first_node) (length t.nodes) then Some (n - first_node) else None

-- the node that a value is, if it is one
abbrev pub node_in : Tree → Value → Option ℕ
node_in t (Object n) = node_of_object t n
node_in t Undefined = None
node_in t Null = None
node_in t (Boolean b) = None
node_in t (Num z) = None
node_in t NaN = None
node_in t (TextValue span) = None

-- the place that a value means: null means behind all others
abbrev pub place_in : Tree → Value → Option (Option ℕ)
place_in t Null = Some None
place_in t (Object n) = option_map (λ k. Some k) (node_of_object t n)
place_in t Undefined = None
place_in t (Boolean b) = None
place_in t (Num z) = None
place_in t NaN = None
place_in t (TextValue span) = None

-- goes on with what the argument means; what should be a node and is none is a TypeError
abbrev pub with_argument : {A : Type 0} → Option A → World → Tree → (A → HostDone × World × Tree) → HostDone × World × Tree
with_argument None w t go = (host.TypeFault, w, t)
with_argument (Some a) w t go = go a

-- MOVING

-- a move is refused with its code; else the call gives this node, and the tree is the one after the move
abbrev pub moved : Option ℕ → ℕ → World → Tree → Tree → HostDone × World × Tree
moved (Some code) n w t after = (host.Dom code, w, t)
moved None n w t after = (host.Value (node_value n), w, after)

-- appendChild
abbrev pub child_appended : World → Tree → ℕ → Value → HostDone × World × Tree
child_appended w t p c = with_argument (node_in t c) w t (λ n. moved (insert_code t p n None) n w t (inserted t p n None))

-- insertBefore
abbrev pub child_inserted : World → Tree → ℕ → Value → Value → HostDone × World × Tree
child_inserted w t p c r =
    with_argument (node_in t c) w t (λ n. with_argument (place_in t r) w t (λ at. moved (insert_code t p n at) n w t (inserted t p n at)))

-- replaceChild, which gives the old child
abbrev pub child_replaced : World → Tree → ℕ → Value → Value → HostDone × World × Tree
child_replaced w t p c o =
    with_argument (node_in t c) w t (λ n. with_argument (node_in t o) w t (λ old. moved (replace_code t p n old) old w t (replaced t p n old)))

-- removeChild
abbrev pub child_removed : World → Tree → ℕ → Value → HostDone × World × Tree
child_removed w t p c = with_argument (node_in t c) w t (λ n. moved (remove_code t p n) n w t (taken_out t n))

-- MAKING AND FINDING

-- getElementById
abbrev pub element_found : World → Tree → Value → HostDone × World × Tree
element_found w t v = with_text w t false v (λ id x. (host.Value (node_or_null (element_of_id x.pool t (text_at x.pool id))), x, t))

-- createTextNode
abbrev pub text_created : World → Tree → Value → HostDone × World × Tree
text_created w t v = with_text w t (is_full t) v (λ text x. (host.Value (node_value (length t.nodes)), x, with_node t Text None (Some text)))

-- a new element of this name, which is legal
abbrev pub element_made_of : World → Tree → Span → HostDone × World × Tree
element_made_of w t name =
    within_limits (is_full t) (are_past w.pool (cost_of_name w.pool name)) w t (
      host.Value (node_value (length t.nodes)),
      record w { pool = (element_made (opening w.pool t) name).pool },
      (element_made (opening w.pool t) name).tree,
    )

-- createElement with a name that stands
abbrev pub element_created_named : World → Tree → Span → HostDone × World × Tree
element_created_named w t name =
    if not (is_element_name (text_at w.pool name)) then (host.Dom 5, w, t)
    else if is_script (text_at w.pool name) then (host.Fault NotInProfile, w, t)
    else element_made_of w t name

abbrev pub element_created_by : World → Tree → Option Span → Value → HostDone × World × Tree
element_created_by w t (Some name) v = element_created_named w t name
element_created_by w t None v = illegal_name w t v

-- createElement: a number is no legal name
abbrev pub element_created : World → Tree → Value → HostDone × World × Tree
element_created w t v = unless_fault (text_fault w.pool v) w t (element_created_by w t (standing_text v) v)

-- hasChildNodes
abbrev pub has_child : Tree → ℕ → Bool
has_child t n = is_some (first_of (children_of t n))

-- CALLS

-- the call of a receiver that has it; on another it is outside the profile
abbrev pub on_receiver : Bool → World → Tree → HostDone × World × Tree → HostDone × World × Tree
on_receiver true w t answer = answer
on_receiver false w t answer = (host.Fault NotInProfile, w, t)

-- what a call on this node answers
abbrev pub node_call : World → Tree → NodeCall → ℕ → List Value → HostDone × World × Tree
node_call w t call.GetElementById n args = on_receiver (is_document (node_at t n).kind) w t (element_found w t (argument args 0))
node_call w t call.CreateElement n args = on_receiver (is_document (node_at t n).kind) w t (element_created w t (argument args 0))
node_call w t call.CreateTextNode n args = on_receiver (is_document (node_at t n).kind) w t (text_created w t (argument args 0))
node_call w t call.HasChildNodes n args = (host.Value (Boolean (has_child t n)), w, t)
node_call w t call.AppendChild n args = child_appended w t n (argument args 0)
node_call w t call.InsertBefore n args = child_inserted w t n (argument args 0) (argument args 1)
node_call w t call.ReplaceChild n args = child_replaced w t n (argument args 0) (argument args 1)
node_call w t call.RemoveChild n args = child_removed w t n (argument args 0)
node_call w t call.GetAttribute n args = on_receiver (is_element (node_at t n).kind) w t (attribute_got w t n (argument args 0))
node_call w t call.HasAttribute n args = on_receiver (is_element (node_at t n).kind) w t (attribute_there w t n (argument args 0))
node_call w t call.SetAttribute n args = on_receiver (is_element (node_at t n).kind) w t (attribute_set_call w t n (argument args 0) (argument args 1))
node_call w t call.RemoveAttribute n args = on_receiver (is_element (node_at t n).kind) w t (attribute_taken w t n (argument args 0))
