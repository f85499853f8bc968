-- No answer of a browser but that of `ripley.call` changes its calls; and none changes how many served calls it counts, which
-- replies wait, nor the limits of its document and of its calls.
use Rattle.std.proofs.Common.{◌≡◌, ◌⊎◌, inl, inr, ◌∙◌, ℕ, Bool, true, false, List, Option, None, Some, Result, Ok, Err, ℤ, pos, negsuc, if◌then◌else◌, refl, ap}
use Rattle.std.specs.Prelude.{◌+◌, ◌&&◌, ◌^◌, length, nat_le, option_and_then}
use Rattle.rip_values.specs.declared.builtin.Builtin.{Builtin}
use Rattle.rip_values.specs.declared.fixed.FixedText.{FixedText}
use Rattle.rip_values.specs.declared.fixed.FixedText.TheVariants.{Disabled as DisabledText, Empty, Value as ValueText}
use Rattle.rip_base.specs.declared.value.Fault.{Fault}
use Rattle.rip_base.specs.declared.value.Fault.TheVariants.{BadArgument, NotInProfile}
use Rattle.rip_base.specs.declared.value.Limit.TheVariants.{Cells, Queue, Units}
use Rattle.rip_base.specs.declared.value.Numeral.{Numeral}
use Rattle.rip_base.specs.declared.value.Span.{Span}
use Rattle.rip_base.specs.declared.value.Value.{Value}
use Rattle.rip_base.specs.declared.value.Value.TheVariants.{Undefined, Null, Bool as Boolean, Num, NaN, Text, Object}
use Rattle.rip_values.specs.FixedSearch.{fixed_text}
use Rattle.rip_values.specs.Pool.{text_at}
use Rattle.rip_heap.specs.Conversions.{boolean_of, number_of, span_of, text_fault}
use Rattle.rip_heap.specs.declared.host.HostDone.{HostDone}
use Rattle.rip_heap.specs.declared.host.HostDone.TheVariants as host
use Rattle.rip_heap.specs.Host.{Request, Reads, Writes, Calls}
use Rattle.rip_heap.specs.World.{World, paid}
use Rattle.rip_ops.specs.Calls.{builtin_of}
use Rattle.rip_calls.specs.Calls.{Calls as Queued, used, with_call}
use Rattle.rip_convert.specs.Arguments.{call_text}
use Rattle.rip_events.specs.Listed.{Listed, found, registered, same_as, without_listener}
use Rattle.rip_forms.specs.Choices.{place_of_value}
use Rattle.rip_forms.specs.Controls.{is_checkbox, is_control, is_select, part_of}
use Rattle.rip_forms.specs.declared.control.FormPart.{FormPart}
use Rattle.rip_forms.specs.declared.control.FormPart.TheVariants as part
use Rattle.rip_forms.specs.declared.state.FormState.TheVariants.{Value as SetValue, Selected as SetSelected}
use Rattle.rip_dom.specs.Tree.{Tree}
use Rattle.rip_nodes.specs.Attributes.{attribute_given}
use Rattle.rip_nodes.specs.Calls.{argument, node_call}
use Rattle.rip_nodes.specs.declared.member.NodeMember.{NodeMember}
use Rattle.rip_nodes.specs.Members.{member_of}
use Rattle.rip_nodes.specs.Writing.{node_written}
use Rattle.rip_nodes.specs.Texts.{are_past, cost_of_text, text_span, text_taken, world_with}
use Rattle.rip_host.specs.Answers.{answers, called, event_put, event_read, event_receiver, node_read, node_read_by, node_receiver, node_write, node_write_by, on_receiver, owned_read, owned_write, ripley_read}
use Rattle.rip_host.specs.declared.browser.Browser.{Browser}
use Rattle.rip_host.specs.declared.call.HostCall.{HostCall}
use Rattle.rip_host.specs.declared.call.HostCall.TheVariants as call
use Rattle.rip_host.specs.declared.events.Event.{Event}
use Rattle.rip_host.specs.declared.event_members.EventMember.{EventMember}
use Rattle.rip_host.specs.declared.form_members.FormMember.{FormMember}
use Rattle.rip_host.specs.declared.form_members.FormMember.TheVariants as member
use Rattle.rip_host.specs.declared.listening.Handler.{Handler}
use Rattle.rip_host.specs.declared.listening.Handler.TheVariants.{Ignored, Function, Other}
use Rattle.rip_host.specs.Waiting.{Waiting}
use Rattle.rip_host.specs.declared.owner.Owner.{Owner}
use Rattle.rip_host.specs.declared.owner.Owner.TheVariants.{Node, Dispatched, Ripley, Nobody}
use Rattle.rip_host.specs.EventMembers.{event_member_of, prevented, stopped}
use Rattle.rip_host.specs.FormMembers.{attribute_kept, checked_written, disabled_written, form_member_of, form_read, form_written, goes_on_in, has_value, if_part, null_or_empty, option_chosen, place_written, selected_written, text_held, value_written, with_state}
use Rattle.rip_host.specs.HostCalls.{host_call_of}
use Rattle.rip_host.specs.Listening.{added_by, after_registering, handler_of, ignored, is_number, is_second, is_spent, left_out, listener, listener_added, listener_removed, register, removed_by, unless_fault, unregister}
use Rattle.rip_host.specs.Owners.{owner_of}
use Rattle.rip_host.specs.Visit.{of_nodes}
use Rattle.rip_law_browser.proofs.TreeLimits.{call_limit, given_limit, written_limit}
use Rattle.rip_host.specs.Ripley.{call_callback, call_judged, call_name, call_with, is_array, random_call, random_given, random_of, ripley_call, ripley_member}

-- its calls, the replies that wait with the most that may, and the limit of its document
abbrev Held : Type 0
Held = Queued × Waiting × ℕ

abbrev held : Browser → Held
held s = (s.calls, s.undelivered, (let t = s.dom in t.limit))

abbrev kept : HostDone × World × Browser → Held
kept a = held a.2

-- how many it counts, which wait with the most that may, and both other limits
abbrev Counts : Type 0
Counts = ℕ × Waiting × ℕ × ℕ

abbrev count : Held → Counts
count h = ((let c = h.0 in c.taken), h.1, h.2, (let c = h.0 in c.limit))

if_keeps : (b : Bool) (x y : HostDone × World × Browser) (k : Held) → kept x ≡ k → kept y ≡ k → kept (if b then x else y) ≡ k
if_keeps true x y k h g = h
if_keeps false x y k h g = g

-- an answer of the nodes, where the document keeps its limit
nodes_keep : (s : Browser) (answer : HostDone × World × Tree) → (let t = answer.2 in t.limit) ≡ (let t = s.dom in t.limit) → kept (of_nodes answer s) ≡ held s
nodes_keep s answer h = ap (λ (k : ℕ). (s.calls, s.undelivered, k)) h

-- ---- reading

part_keeps : (b : Bool) (w : World) (s : Browser) (answer : HostDone × World) → kept (if_part b w s answer) ≡ held s
part_keeps true w s answer = refl
part_keeps false w s answer = refl

form_read_keeps : (w : World) (s : Browser) (n : ℕ) (m : FormMember) → kept (form_read w s n m) ≡ held s
form_read_keeps w s n member.Value = part_keeps (has_value (part_of w.pool s.dom n)) w s _
form_read_keeps w s n member.Checked = part_keeps (is_checkbox (part_of w.pool s.dom n)) w s _
form_read_keeps w s n member.SelectedIndex = part_keeps (is_select (part_of w.pool s.dom n)) w s _
form_read_keeps w s n member.Disabled = part_keeps (is_control (part_of w.pool s.dom n)) w s _

node_read_by_keeps : (w : World) (s : Browser) (n : ℕ) (o : Option NodeMember) → kept (node_read_by w s n o) ≡ held s
node_read_by_keeps w s n None = refl
node_read_by_keeps w s n (Some m) = refl

node_read_keeps : (w : World) (s : Browser) (n : ℕ) (spelled : FixedText) (o : Option FormMember) → kept (node_read w s n spelled o) ≡ held s
node_read_keeps w s n spelled (Some m) = form_read_keeps w s n m
node_read_keeps w s n spelled None = node_read_by_keeps w s n (member_of spelled)

event_read_keeps : (w : World) (s : Browser) (e : Event) (o : Option EventMember) → kept (event_read w s e o) ≡ held s
event_read_keeps w s e None = refl
event_read_keeps w s e (Some m) = refl

ripley_read_keeps : (w : World) (s : Browser) (o : Option Builtin) → kept (ripley_read w s o) ≡ held s
ripley_read_keeps w s None = refl
ripley_read_keeps w s (Some b) = refl

owned_read_keeps : (w : World) (s : Browser) (owner : Owner) (o : Option FixedText) → kept (owned_read w s owner o) ≡ held s
owned_read_keeps w s (Node n) None = refl
owned_read_keeps w s (Dispatched e) None = refl
owned_read_keeps w s Ripley None = refl
owned_read_keeps w s Nobody None = refl
owned_read_keeps w s (Node n) (Some spelled) = node_read_keeps w s n spelled (form_member_of spelled)
owned_read_keeps w s (Dispatched e) (Some spelled) = event_read_keeps w s e (event_member_of spelled)
owned_read_keeps w s Ripley (Some spelled) = ripley_read_keeps w s (ripley_member spelled)
owned_read_keeps w s Nobody (Some spelled) = refl

-- ---- writing

goes_on_keeps : (r : Result Span HostDone) (w : World) (s : Browser) (go : Span → World → HostDone × World × Browser) → ((span : Span) (x : World) → kept (go span x) ≡ held s) → kept (goes_on_in r w s go) ≡ held s
goes_on_keeps (Ok span) w s go h = h span w
goes_on_keeps (Err done) w s go h = refl

text_held_keeps : (w : World) (s : Browser) (n : ℕ) (v : Value) → kept (text_held w s n v) ≡ held s
text_held_keeps w s n v =
    goes_on_keeps (let t = text_taken w false v in t.0) (let t = text_taken w false v in t.1) s (λ text x. (host.Value Undefined, x, with_state s n (SetValue text))) (λ span x. refl)

option_chosen_keeps : (w : World) (s : Browser) (n : ℕ) (v : Value) → kept (option_chosen w s n v) ≡ held s
option_chosen_keeps w s n v =
    goes_on_keeps (let t = text_taken w false v in t.0) (let t = text_taken w false v in t.1) s
    (λ text x. (host.Value Undefined, x, with_state s n (SetSelected (place_of_value x.pool s.dom n (text_at x.pool text))))) (λ span x. refl)

value_written_keeps : (w : World) (s : Browser) (n : ℕ) (p : FormPart) (v : Value) → kept (value_written w s n p v) ≡ held s
value_written_keeps w s n part.TextInput v = text_held_keeps w s n (null_or_empty v)
value_written_keeps w s n part.NumberInput v = text_held_keeps w s n (null_or_empty v)
value_written_keeps w s n part.TextArea v = text_held_keeps w s n (null_or_empty v)
value_written_keeps w s n part.Checkbox v = nodes_keep s (attribute_given w s.dom n (span_of ValueText) (null_or_empty v)) (given_limit w s.dom n (span_of ValueText) (null_or_empty v))
value_written_keeps w s n part.OtherInput v = nodes_keep s (attribute_given w s.dom n (span_of ValueText) (null_or_empty v)) (given_limit w s.dom n (span_of ValueText) (null_or_empty v))
value_written_keeps w s n part.Button v = nodes_keep s (attribute_given w s.dom n (span_of ValueText) v) (given_limit w s.dom n (span_of ValueText) v)
value_written_keeps w s n part.Select v = option_chosen_keeps w s n v
value_written_keeps w s n part.Choice v = refl
value_written_keeps w s n part.Form v = refl
value_written_keeps w s n part.Link v = refl
value_written_keeps w s n part.Other v = refl

checked_keeps : (w : World) (s : Browser) (n : ℕ) (b : Bool) (v : Value) → kept (checked_written w s n b v) ≡ held s
checked_keeps w s n true v = refl
checked_keeps w s n false v = refl

place_keeps : (w : World) (s : Browser) (n : ℕ) (r : Result Numeral Fault) → kept (place_written w s n r) ≡ held s
place_keeps w s n (Ok number) = refl
place_keeps w s n (Err fault) = refl

selected_keeps : (w : World) (s : Browser) (n : ℕ) (b : Bool) (v : Value) → kept (selected_written w s n b v) ≡ held s
selected_keeps w s n true v = place_keeps w s n (number_of w.pool v)
selected_keeps w s n false v = refl

attribute_keeps : (b : Bool) (w : World) (s : Browser) (n : ℕ) → kept (attribute_kept b w s n) ≡ held s
attribute_keeps true w s n = nodes_keep s (attribute_given w s.dom n (span_of DisabledText) (Text (span_of Empty))) (given_limit w s.dom n (span_of DisabledText) (Text (span_of Empty)))
attribute_keeps false w s n = refl

disabled_keeps : (w : World) (s : Browser) (n : ℕ) (b : Bool) (v : Value) → kept (disabled_written w s n b v) ≡ held s
disabled_keeps w s n true v = attribute_keeps (boolean_of w.pool v) w s n
disabled_keeps w s n false v = refl

form_written_keeps : (w : World) (s : Browser) (n : ℕ) (m : FormMember) (v : Value) → kept (form_written w s n m v) ≡ held s
form_written_keeps w s n member.Value v = value_written_keeps w s n (part_of w.pool s.dom n) v
form_written_keeps w s n member.Checked v = checked_keeps w s n (is_checkbox (part_of w.pool s.dom n)) v
form_written_keeps w s n member.SelectedIndex v = selected_keeps w s n (is_select (part_of w.pool s.dom n)) v
form_written_keeps w s n member.Disabled v = disabled_keeps w s n (is_control (part_of w.pool s.dom n)) v

node_write_by_keeps : (w : World) (s : Browser) (n : ℕ) (o : Option NodeMember) (v : Value) → kept (node_write_by w s n o v) ≡ held s
node_write_by_keeps w s n None v = refl
node_write_by_keeps w s n (Some m) v = nodes_keep s (node_written w s.dom s.class n m v) (written_limit w s.dom s.class n m v)

node_write_keeps : (w : World) (s : Browser) (n : ℕ) (spelled : FixedText) (o : Option FormMember) (v : Value) → kept (node_write w s n spelled o v) ≡ held s
node_write_keeps w s n spelled (Some m) v = form_written_keeps w s n m v
node_write_keeps w s n spelled None v = node_write_by_keeps w s n (member_of spelled) v

owned_write_keeps : (w : World) (s : Browser) (owner : Owner) (o : Option FixedText) (v : Value) → kept (owned_write w s owner o v) ≡ held s
owned_write_keeps w s (Node n) None v = refl
owned_write_keeps w s (Dispatched e) None v = refl
owned_write_keeps w s Ripley None v = refl
owned_write_keeps w s Nobody None v = refl
owned_write_keeps w s (Node n) (Some spelled) v = node_write_keeps w s n spelled (form_member_of spelled) v
owned_write_keeps w s (Dispatched e) (Some spelled) v = refl
owned_write_keeps w s Ripley (Some spelled) v = refl
owned_write_keeps w s Nobody (Some spelled) v = refl

-- ---- calls

receiver_keeps : {A : Type 0} (r : Result A HostDone) (w : World) (s : Browser) (go : A → HostDone × World × Browser) → ((a : A) → kept (go a) ≡ held s) → kept (on_receiver r w s go) ≡ held s
receiver_keeps (Ok a) w s go h = h a
receiver_keeps (Err done) w s go h = refl

fault_keeps : (o : Option Fault) (w : World) (s : Browser) (answer : HostDone × World × Browser) → kept answer ≡ held s → kept (unless_fault o w s answer) ≡ held s
fault_keeps None w s answer h = h
fault_keeps (Some fault) w s answer h = refl

registering_keeps : (w : World) (s : Browser) (o : Option (Listed × World)) → kept (after_registering w s o) ≡ held s
registering_keeps w s None = refl
registering_keeps w s (Some step) = refl

ignored_keeps : (w : World) (s : Browser) (t : Value) → kept (ignored w s t) ≡ held s
ignored_keeps w s t = if_keeps (are_past w.pool (cost_of_text t)) (host.Limit Units, w, s) (host.Value Undefined, world_with w t, s) (held s) refl refl

left_out_keeps : (w : World) (s : Browser) (t : Value) → kept (left_out w s t) ≡ held s
left_out_keeps w s t = if_keeps (are_past w.pool (cost_of_text t)) (host.Limit Units, w, s) (host.Fault NotInProfile, w, s) (held s) refl refl

register_keeps : (w : World) (s : Browser) (k : ℕ) (t : Value) (f : ℕ) (capture : Bool) → kept (register w s k t f capture) ≡ held s
register_keeps w s k t f capture =
    let kind = text_span w.pool t in
    let x = world_with w t in
    let last : HostDone × World × Browser = after_registering w s (registered (found x.pool (same_as (listener k kind f capture)) s.listeners) (listener k kind f capture) s.listeners x) in
    let made : HostDone × World × Browser = if is_number t && is_spent w then (host.Limit Cells, w, s) else last in
    let first : HostDone × World × Browser = if are_past w.pool (cost_of_text t) then (host.Limit Units, w, s) else made in
    if_keeps (is_second w s k t f capture) (ignored w s t) first (held s) (ignored_keeps w s t)
    (if_keeps (are_past w.pool (cost_of_text t)) (host.Limit Units, w, s) made (held s) refl
    (if_keeps (is_number t && is_spent w) (host.Limit Cells, w, s) last (held s) refl
    (registering_keeps w s (registered (found x.pool (same_as (listener k kind f capture)) s.listeners) (listener k kind f capture) s.listeners x))))

unregister_keeps : (w : World) (s : Browser) (k : ℕ) (t : Value) (f : ℕ) (capture : Bool) → kept (unregister w s k t f capture) ≡ held s
unregister_keeps w s k t f capture =
    let kind = text_span w.pool t in
    let x = world_with w t in
    if_keeps (are_past w.pool (cost_of_text t)) (host.Limit Units, w, s)
    (host.Value Undefined, x, record s { listeners = without_listener (found x.pool (same_as (listener k kind f capture)) s.listeners) s.listeners }) (held s) refl refl

added_keeps : (w : World) (s : Browser) (k : ℕ) (t : Value) (h : Handler) (capture : Bool) → kept (added_by w s k t h capture) ≡ held s
added_keeps w s k t Ignored capture = ignored_keeps w s t
added_keeps w s k t (Function f) capture = register_keeps w s k t f capture
added_keeps w s k t Other capture = left_out_keeps w s t

removed_keeps : (w : World) (s : Browser) (k : ℕ) (t : Value) (h : Handler) (capture : Bool) → kept (removed_by w s k t h capture) ≡ held s
removed_keeps w s k t Ignored capture = ignored_keeps w s t
removed_keeps w s k t (Function f) capture = unregister_keeps w s k t f capture
removed_keeps w s k t Other capture = left_out_keeps w s t

listener_added_keeps : (w : World) (s : Browser) (k : ℕ) (t f c : Value) → kept (listener_added w s k t f c) ≡ held s
listener_added_keeps w s k t f c = fault_keeps (text_fault w.pool t) w s (added_by w s k t (handler_of w f) (boolean_of w.pool c)) (added_keeps w s k t (handler_of w f) (boolean_of w.pool c))

listener_removed_keeps : (w : World) (s : Browser) (k : ℕ) (t f c : Value) → kept (listener_removed w s k t f c) ≡ held s
listener_removed_keeps w s k t f c = fault_keeps (text_fault w.pool t) w s (removed_by w s k t (handler_of w f) (boolean_of w.pool c)) (removed_keeps w s k t (handler_of w f) (boolean_of w.pool c))

abbrev queued : HostDone × World × Queued → ℕ × ℕ
queued put = ((let c = put.2 in c.taken), (let c = put.2 in c.limit))

if_queued : (b : Bool) (x y : HostDone × World × Queued) (k : ℕ × ℕ) → queued x ≡ k → queued y ≡ k → queued (if b then x else y) ≡ k
if_queued true x y k h g = h
if_queued false x y k h g = g

judged_keeps : (w : World) (s : Browser) (callback : Option ℕ) (r : Result (List ℕ) Fault) → count (kept (call_judged w s callback r)) ≡ count (held s)
judged_keeps w s callback (Ok text) =
    let k : ℕ × ℕ = ((let c = s.calls in c.taken), (let c = s.calls in c.limit)) in
    let room : Bool = nat_le (used s.calls + (length text + 1)) (let c = s.calls in c.limit) in
    let made : HostDone × World × Queued = (host.Value Undefined, paid 1 w, with_call s.calls text callback) in
    let full : HostDone × World × Queued = (host.Limit Queue, w, s.calls) in
    ap (λ (q : ℕ × ℕ). (q.0, s.undelivered, (let t = s.dom in t.limit), q.1))
    (if_queued (is_spent w) (host.Limit Cells, w, s.calls) (if room then made else full) k refl (if_queued room made full k refl refl))
judged_keeps w s callback (Err fault) = refl

call_with_keeps : (w : World) (s : Browser) (name : Option Span) (array : Bool) (callback : Option (Option ℕ)) (args : Value) → count (kept (call_with w s name array callback args)) ≡ count (held s)
call_with_keeps w s None array callback args = refl
call_with_keeps w s (Some name) false callback args = refl
call_with_keeps w s (Some name) true None args = refl
call_with_keeps w s (Some name) true (Some callback) args = judged_keeps w s callback (call_text w name args)

random_of_keeps : (w : World) (s : Browser) (z : ℤ) → kept (random_of w s z) ≡ held s
random_of_keeps w s (pos n) = if_keeps (nat_le 1 n && nat_le n (2 ^ 31)) (random_given w s n) (host.Fault BadArgument, w, s) (held s) refl refl
random_of_keeps w s (negsuc n) = refl

random_keeps : (w : World) (s : Browser) (v : Value) → kept (random_call w s v) ≡ held s
random_keeps w s (Num z) = random_of_keeps w s z
random_keeps w s Undefined = refl
random_keeps w s Null = refl
random_keeps w s (Boolean b) = refl
random_keeps w s NaN = refl
random_keeps w s (Text span) = refl
random_keeps w s (Object n) = refl

-- the answer is that of `ripley.call`
abbrev pub IsCall : World → Browser → HostDone × World × Browser → Type 0
IsCall w s a = (name : Value) × (args : Value) × (callback : Value) × (a ≡ ripley_call w s name args callback)

called_keeps : (w : World) (s : Browser) (o : Option HostCall) (this : Value) (args : List Value) → (kept (called w s o this args) ≡ held s) ⊎ IsCall w s (called w s o this args)
called_keeps w s None this args = inl refl
called_keeps w s (Some (call.OnNode c)) this args = inl (receiver_keeps (node_receiver s this) w s _ (λ n. nodes_keep s (node_call w s.dom c n args) (call_limit w s.dom c n args)))
called_keeps w s (Some call.AddEventListener) this args =
    inl (receiver_keeps (node_receiver s this) w s (λ n. listener_added w s n (argument args 0) (argument args 1) (argument args 2)) (λ n. listener_added_keeps w s n (argument args 0) (argument args 1) (argument args 2)))
called_keeps w s (Some call.RemoveEventListener) this args =
    inl (receiver_keeps (node_receiver s this) w s (λ n. listener_removed w s n (argument args 0) (argument args 1) (argument args 2)) (λ n. listener_removed_keeps w s n (argument args 0) (argument args 1) (argument args 2)))
called_keeps w s (Some call.StopPropagation) this args = inl (receiver_keeps (event_receiver s this) w s (λ e. event_put w s (stopped e)) (λ e. refl))
called_keeps w s (Some call.PreventDefault) this args = inl (receiver_keeps (event_receiver s this) w s (λ e. event_put w s (prevented w.pool e)) (λ e. refl))
called_keeps w s (Some call.Call) this args = inr (argument args 0, argument args 1, argument args 2, refl)
called_keeps w s (Some call.Now) this args = inl refl
called_keeps w s (Some call.Random) this args = inl (random_keeps w s (argument args 0))

answers_are : (s : Browser) (w : World) (r : Request) → (kept (answers s w r) ≡ held s) ⊎ IsCall w s (answers s w r)
answers_are s w (Reads object name) = inl (owned_read_keeps w s (owner_of s object) (fixed_text (text_at w.pool name)))
answers_are s w (Writes object name v) = inl (owned_write_keeps w s (owner_of s object) (fixed_text (text_at w.pool name)) v)
answers_are s w (Calls which this args) = called_keeps w s (option_and_then host_call_of (builtin_of which)) this args

-- the calls are those before it, but behind the answer of `ripley.call`
pub calls_stay : (s : Browser) (w : World) (r : Request) → (let a = answers s w r in let t = a.2 in t.calls ≡ s.calls) ⊎ IsCall w s (answers s w r)
calls_stay s w r = elim (answers_are s w r) [ inl same ↦ inl (ap (λ (h : Held). h.0) same) | inr is ↦ inr is ]

answers_same : (s : Browser) (w : World) (r : Request) → count (kept (answers s w r)) ≡ count (held s)
answers_same s w r = elim (answers_are s w r) [
  | inl same ↦ ap count same
  | inr is ↦
      ap (λ (a : HostDone × World × Browser). count (kept a)) is.3
      ∙ call_with_keeps w s (call_name w is.0) (is_array w is.1) (call_callback w is.2) is.1
]

pub answers_keep : (s : Browser) (w : World) (r : Request) → (let a = answers s w r in let t = a.2 in let c = t.calls in c.taken) ≡ (let c = s.calls in c.taken)
answers_keep s w r = ap (λ (k : Counts). k.0) (answers_same s w r)

pub replies_stay : (s : Browser) (w : World) (r : Request) → (let a = answers s w r in let t = a.2 in t.undelivered) ≡ s.undelivered
replies_stay s w r = ap (λ (k : Counts). k.1) (answers_same s w r)

pub limits_stay : (s : Browser) (w : World) (r : Request)
    → ((let a = answers s w r in let t = a.2 in let d = t.dom in d.limit) ≡ (let d = s.dom in d.limit))
    × ((let a = answers s w r in let t = a.2 in let c = t.calls in c.limit) ≡ (let c = s.calls in c.limit))
    × ((let a = answers s w r in let t = a.2 in let u = t.undelivered in u.most) ≡ (let u = s.undelivered in u.most))
limits_stay s w r = (
  ap (λ (k : Counts). k.2) (answers_same s w r),
  ap (λ (k : Counts). k.3) (answers_same s w r),
  ap (λ (u : Waiting). u.most) (replies_stay s w r),
)
