-- No answer of the nodes changes the limit of the document.
use Rattle.std.proofs.Common.{◌≡◌, ℕ, Bool, true, false, Option, None, Some, Result, Ok, Err, List, refl}
use Rattle.std.specs.Prelude.{◌+◌, ◌&&◌, not, if◌then◌else◌}
use Rattle.rip_base.specs.declared.page.NodeKind.{NodeKind}
use Rattle.rip_base.specs.declared.page.NodeKind.TheVariants.{Document, Element, Text, Comment}
use Rattle.rip_base.specs.declared.value.Fault.{Fault}
use Rattle.rip_base.specs.declared.value.Fault.TheVariants.{NotInProfile}
use Rattle.rip_base.specs.declared.value.Span.{Span}
use Rattle.rip_base.specs.declared.value.Value.{Value}
use Rattle.rip_base.specs.declared.value.Value.TheVariants.{Undefined}
use Rattle.rip_values.specs.Pool.{text_at}
use Rattle.rip_heap.specs.Conversions.{text_fault}
use Rattle.rip_heap.specs.World.{World}
use Rattle.rip_heap.specs.declared.host.HostDone.{HostDone}
use Rattle.rip_heap.specs.declared.host.HostDone.TheVariants as host
use Rattle.rip_dom.specs.Attributes.{has_attribute, is_attribute_name}
use Rattle.rip_dom.specs.Creation.{cost_of_name, is_element_name}
use Rattle.rip_dom.specs.Names.{without_attribute}
use Rattle.rip_dom.specs.Tree.{Tree, insert_code, inserted, is_element, node_at, remove_code, replace_code, replaced, taken_out}
use Rattle.rip_dom.specs.Writing.{is_past, written}
use Rattle.rip_nodes.specs.Answers.{is_document}
use Rattle.rip_nodes.specs.Attributes.{attribute_given, attribute_set_by, attribute_set_call, attribute_set_named, attribute_taken, attribute_taken_by, attribute_taken_named, cost_of_new, illegal_name, name_left_out, opening, texts_kept}
use Rattle.rip_nodes.specs.Calls.{argument, element_created, element_created_by, element_created_named, element_made_of, moved, node_call, node_in, on_receiver, place_in, with_argument}
use Rattle.rip_nodes.specs.Names.{begins_with_on, is_script}
use Rattle.rip_nodes.specs.Texts.{are_past, cost_of_text, goes_on, is_full, once_text, standing_text, text_span, text_taken, unless_fault, with_text, within_limits}
use Rattle.rip_nodes.specs.Writing.{attribute_written, node_value_written, node_written, or_empty, text_content_written, text_written}
use Rattle.rip_nodes.specs.declared.member.NodeCall.{NodeCall}
use Rattle.rip_nodes.specs.declared.member.NodeCall.TheVariants as call
use Rattle.rip_nodes.specs.declared.member.NodeMember.{NodeMember}
use Rattle.rip_nodes.specs.declared.member.NodeMember.TheVariants as member
use Rattle.rip_nodes.proofs.LimitLemmas.{limit_of_attribute_set, limit_of_inserted, limit_of_replaced, limit_of_written}

-- an answer with the world and the document after it
abbrev Answer : Type 0
Answer = HostDone × World × Tree

abbrev limit_in : Answer → ℕ
limit_in a = (let t = a.2 in t.limit)

if_limit : (b : Bool) (x y : Answer) (k : ℕ) → limit_in x ≡ k → limit_in y ≡ k → limit_in (if b then x else y) ≡ k
if_limit true x y k h g = h
if_limit false x y k h g = g

argument_limit : {A : Type 0} (o : Option A) (w : World) (t : Tree) (go : A → Answer) → ((a : A) → limit_in (go a) ≡ t.limit) → limit_in (with_argument o w t go) ≡ t.limit
argument_limit None w t go h = refl
argument_limit (Some a) w t go h = h a

moved_limit : (code : Option ℕ) (n : ℕ) (w : World) (t after : Tree) → after.limit ≡ t.limit → limit_in (moved code n w t after) ≡ t.limit
moved_limit None n w t after h = h
moved_limit (Some code) n w t after h = refl

goes_limit : (r : Result Span HostDone) (x w : World) (t : Tree) (go : Span → World → Answer) → ((span : Span) (y : World) → limit_in (go span y) ≡ t.limit) → limit_in (goes_on r x t go) ≡ t.limit
goes_limit (Ok span) x w t go h = h span x
goes_limit (Err done) x w t go h = refl

text_limit : (w : World) (t : Tree) (nodes : Bool) (v : Value) (go : Span → World → Answer) → ((span : Span) (y : World) → limit_in (go span y) ≡ t.limit) → limit_in (with_text w t nodes v go) ≡ t.limit
text_limit w t nodes v go h = goes_limit (let r = text_taken w nodes v in r.0) (let r = text_taken w nodes v in r.1) w t go h

fault_limit : (o : Option Fault) (w : World) (t : Tree) (answer : Answer) → limit_in answer ≡ t.limit → limit_in (unless_fault o w t answer) ≡ t.limit
fault_limit None w t answer h = h
fault_limit (Some fault) w t answer h = refl

within_limit : (nodes units : Bool) (w : World) (t : Tree) (answer : Answer) → limit_in answer ≡ t.limit → limit_in (within_limits nodes units w t answer) ≡ t.limit
within_limit true units w t answer h = refl
within_limit false true w t answer h = refl
within_limit false false w t answer h = h

receiver_limit : (b : Bool) (w : World) (t : Tree) (answer : Answer) → limit_in answer ≡ t.limit → limit_in (on_receiver b w t answer) ≡ t.limit
receiver_limit true w t answer h = h
receiver_limit false w t answer h = refl

-- ---- attributes

illegal_limit : (w : World) (t : Tree) (v : Value) → limit_in (illegal_name w t v) ≡ t.limit
illegal_limit w t v = text_limit w t false v (λ text x. (host.Dom 5, x, t)) (λ text x. refl)

left_out_limit : (w : World) (t : Tree) (v : Value) → limit_in (name_left_out w t v) ≡ t.limit
left_out_limit w t v = text_limit w t false v (λ text x. (host.Fault NotInProfile, w, t)) (λ text x. refl)

once_limit : (w : World) (t : Tree) (v : Value) (answer : Answer) → limit_in answer ≡ t.limit → limit_in (once_text w t v answer) ≡ t.limit
once_limit w t v answer h = fault_limit (text_fault w.pool v) w t _ (within_limit false (are_past w.pool (cost_of_text v)) w t answer h)

pub given_limit : (w : World) (t : Tree) (n : ℕ) (name : Span) (v : Value) → limit_in (attribute_given w t n name v) ≡ t.limit
given_limit w t n name v =
    once_limit w t v _
    (within_limit (not (has_attribute (opening w.pool t) n name) && is_full t) (are_past w.pool (cost_of_new w t n name + cost_of_text v)) w t _
    (limit_of_attribute_set (opening w.pool t) n name (text_span (texts_kept w t n name) v)))

set_named_limit : (w : World) (t : Tree) (n : ℕ) (name : Span) (v : Value) → limit_in (attribute_set_named w t n name v) ≡ t.limit
set_named_limit w t n name v =
    if_limit (not (is_attribute_name (text_at w.pool name))) (illegal_name w t v) (if begins_with_on (text_at w.pool name) then name_left_out w t v else attribute_given w t n name v) t.limit (illegal_limit w t v)
    (if_limit (begins_with_on (text_at w.pool name)) (name_left_out w t v) (attribute_given w t n name v) t.limit (left_out_limit w t v) (given_limit w t n name v))

set_by_limit : (w : World) (t : Tree) (n : ℕ) (o : Option Span) (a v : Value) → limit_in (attribute_set_by w t n o a v) ≡ t.limit
set_by_limit w t n (Some name) a v = set_named_limit w t n name v
set_by_limit w t n None a v = within_limit false (are_past w.pool (cost_of_text a + cost_of_text v)) w t _ refl

set_limit : (w : World) (t : Tree) (n : ℕ) (a v : Value) → limit_in (attribute_set_call w t n a v) ≡ t.limit
set_limit w t n a v = once_limit w t a _ (fault_limit (text_fault w.pool v) w t _ (set_by_limit w t n (standing_text a) a v))

taken_named_limit : (w : World) (t : Tree) (n : ℕ) (name : List ℕ) → limit_in (attribute_taken_named w t n name) ≡ t.limit
taken_named_limit w t n name =
    if_limit (not (is_attribute_name name)) (host.Dom 5, w, t)
    (if begins_with_on name then (host.Fault NotInProfile, w, t) else (host.Value Undefined, w, without_attribute w.pool t n name)) t.limit refl
    (if_limit (begins_with_on name) (host.Fault NotInProfile, w, t) (host.Value Undefined, w, without_attribute w.pool t n name) t.limit refl refl)

taken_by_limit : (w : World) (t : Tree) (n : ℕ) (o : Option Span) (a : Value) → limit_in (attribute_taken_by w t n o a) ≡ t.limit
taken_by_limit w t n (Some name) a = taken_named_limit w t n (text_at w.pool name)
taken_by_limit w t n None a = illegal_limit w t a

taken_limit : (w : World) (t : Tree) (n : ℕ) (a : Value) → limit_in (attribute_taken w t n a) ≡ t.limit
taken_limit w t n a = fault_limit (text_fault w.pool a) w t _ (taken_by_limit w t n (standing_text a) a)

-- ---- elements

made_limit : (w : World) (t : Tree) (name : Span) → limit_in (element_made_of w t name) ≡ t.limit
made_limit w t name = within_limit (is_full t) (are_past w.pool (cost_of_name w.pool name)) w t _ refl

created_named_limit : (w : World) (t : Tree) (name : Span) → limit_in (element_created_named w t name) ≡ t.limit
created_named_limit w t name =
    if_limit (not (is_element_name (text_at w.pool name))) (host.Dom 5, w, t)
    (if is_script (text_at w.pool name) then (host.Fault NotInProfile, w, t) else element_made_of w t name) t.limit refl
    (if_limit (is_script (text_at w.pool name)) (host.Fault NotInProfile, w, t) (element_made_of w t name) t.limit refl (made_limit w t name))

created_by_limit : (w : World) (t : Tree) (o : Option Span) (v : Value) → limit_in (element_created_by w t o v) ≡ t.limit
created_by_limit w t (Some name) v = created_named_limit w t name
created_by_limit w t None v = illegal_limit w t v

created_limit : (w : World) (t : Tree) (v : Value) → limit_in (element_created w t v) ≡ t.limit
created_limit w t v = fault_limit (text_fault w.pool v) w t _ (created_by_limit w t (standing_text v) v)

-- ---- calls

pub call_limit : (w : World) (t : Tree) (c : NodeCall) (n : ℕ) (args : List Value) → limit_in (node_call w t c n args) ≡ t.limit
call_limit w t call.GetElementById n args = receiver_limit (is_document (let x = node_at t n in x.kind)) w t _ (text_limit w t false (argument args 0) _ (λ id x. refl))
call_limit w t call.CreateElement n args = receiver_limit (is_document (let x = node_at t n in x.kind)) w t _ (created_limit w t (argument args 0))
call_limit w t call.CreateTextNode n args = receiver_limit (is_document (let x = node_at t n in x.kind)) w t _ (text_limit w t (is_full t) (argument args 0) _ (λ text x. refl))
call_limit w t call.HasChildNodes n args = refl
call_limit w t call.AppendChild n args =
    argument_limit (node_in t (argument args 0)) w t _ (λ c. moved_limit (insert_code t n c None) c w t (inserted t n c None) (limit_of_inserted t n c None))
call_limit w t call.InsertBefore n args =
    argument_limit (node_in t (argument args 0)) w t _ (λ c. argument_limit (place_in t (argument args 1)) w t _ (λ at. moved_limit (insert_code t n c at) c w t (inserted t n c at) (limit_of_inserted t n c at)))
call_limit w t call.ReplaceChild n args =
    argument_limit (node_in t (argument args 0)) w t _ (λ c. argument_limit (node_in t (argument args 1)) w t _ (λ old. moved_limit (replace_code t n c old) old w t (replaced t n c old) (limit_of_replaced t n c old)))
call_limit w t call.RemoveChild n args = argument_limit (node_in t (argument args 0)) w t _ (λ c. moved_limit (remove_code t n c) c w t (taken_out t c) refl)
call_limit w t call.GetAttribute n args = receiver_limit (is_element (let x = node_at t n in x.kind)) w t _ (text_limit w t false (argument args 0) _ (λ name x. refl))
call_limit w t call.HasAttribute n args = receiver_limit (is_element (let x = node_at t n in x.kind)) w t _ (text_limit w t false (argument args 0) _ (λ name x. refl))
call_limit w t call.SetAttribute n args = receiver_limit (is_element (let x = node_at t n in x.kind)) w t _ (set_limit w t n (argument args 0) (argument args 1))
call_limit w t call.RemoveAttribute n args = receiver_limit (is_element (let x = node_at t n in x.kind)) w t _ (taken_limit w t n (argument args 0))

-- ---- members that are written

text_written_limit : (w : World) (t : Tree) (n : ℕ) (v : Value) → limit_in (text_written w t n v) ≡ t.limit
text_written_limit w t n v = text_limit w t (is_past t n (text_span w.pool v)) v (λ text x. (host.Value Undefined, x, written t n text)) (λ text x. limit_of_written t n text)

value_limit : (w : World) (t : Tree) (n : ℕ) (kind : NodeKind) (v : Value) → limit_in (node_value_written w t n kind v) ≡ t.limit
value_limit w t n Document v = refl
value_limit w t n Element v = refl
value_limit w t n Text v = text_written_limit w t n (or_empty v)
value_limit w t n Comment v = text_written_limit w t n (or_empty v)

content_limit : (w : World) (t : Tree) (n : ℕ) (kind : NodeKind) (v : Value) → limit_in (text_content_written w t n kind v) ≡ t.limit
content_limit w t n Document v = refl
content_limit w t n Element v = text_written_limit w t n (or_empty v)
content_limit w t n Text v = text_written_limit w t n (or_empty v)
content_limit w t n Comment v = text_written_limit w t n (or_empty v)

attribute_limit : (w : World) (t : Tree) (n : ℕ) (kind : NodeKind) (name : Span) (v : Value) → limit_in (attribute_written w t n kind name v) ≡ t.limit
attribute_limit w t n Element name v = given_limit w t n name v
attribute_limit w t n Document name v = refl
attribute_limit w t n Text name v = refl
attribute_limit w t n Comment name v = refl

pub written_limit : (w : World) (t : Tree) (class : Span) (n : ℕ) (m : NodeMember) (v : Value) → limit_in (node_written w t class n m v) ≡ t.limit
written_limit w t class n member.GetElementById v = refl
written_limit w t class n member.CreateElement v = refl
written_limit w t class n member.CreateTextNode v = refl
written_limit w t class n member.Body v = refl
written_limit w t class n member.DocumentElement v = refl
written_limit w t class n member.NodeType v = refl
written_limit w t class n member.NodeName v = refl
written_limit w t class n member.TagName v = refl
written_limit w t class n member.NodeValue v = value_limit w t n (let x = node_at t n in x.kind) v
written_limit w t class n member.ParentNode v = refl
written_limit w t class n member.FirstChild v = refl
written_limit w t class n member.LastChild v = refl
written_limit w t class n member.NextSibling v = refl
written_limit w t class n member.PreviousSibling v = refl
written_limit w t class n member.HasChildNodes v = refl
written_limit w t class n member.AppendChild v = refl
written_limit w t class n member.InsertBefore v = refl
written_limit w t class n member.ReplaceChild v = refl
written_limit w t class n member.RemoveChild v = refl
written_limit w t class n member.TextContent v = content_limit w t n (let x = node_at t n in x.kind) v
written_limit w t class n member.GetAttribute v = refl
written_limit w t class n member.HasAttribute v = refl
written_limit w t class n member.SetAttribute v = refl
written_limit w t class n member.RemoveAttribute v = refl
written_limit w t class n member.Id v = attribute_limit w t n (let x = node_at t n in x.kind) _ v
written_limit w t class n member.ClassName v = attribute_limit w t n (let x = node_at t n in x.kind) class v
written_limit w t class n member.AddEventListener v = refl
written_limit w t class n member.RemoveEventListener v = refl
