-- A browser answers alike whichever replies wait, and so does each run over it.
use Rattle.std.proofs.Common.{◌≡◌, ◌∙◌, ℕ, Bool, true, false, List, Option, None, Some, Result, Ok, Err, ℤ, pos, negsuc, if◌then◌else◌, refl}
use Rattle.std.specs.Prelude.{◌&&◌, ◌^◌, nat_le, option_and_then}
use Rattle.rip_values.specs.declared.builtin.Builtin.{Builtin}
use Rattle.rip_values.specs.declared.fixed.FixedText.{FixedText}
use Rattle.rip_base.specs.declared.value.Fault.{Fault}
use Rattle.rip_base.specs.declared.value.Fault.TheVariants.{BadArgument, NotInProfile}
use Rattle.rip_base.specs.declared.value.Limit.TheVariants.{Cells, Units}
use Rattle.rip_base.specs.declared.value.Numeral.{Numeral}
use Rattle.rip_base.specs.declared.value.Span.{Span}
use Rattle.rip_base.specs.declared.value.Value.{Value}
use Rattle.rip_base.specs.declared.value.Value.TheVariants.{Undefined, Null, Bool as Boolean, Num, NaN, Text, Object}
use Rattle.rip_values.specs.FixedSearch.{fixed_text}
use Rattle.rip_values.specs.Pool.{text_at}
use Rattle.rip_heap.specs.Conversions.{boolean_of, number_of, text_fault}
use Rattle.rip_heap.specs.declared.host.HostDone.{HostDone}
use Rattle.rip_heap.specs.declared.host.HostDone.TheVariants as host
use Rattle.rip_heap.specs.Host.{Reads, Writes, Calls}
use Rattle.rip_heap.specs.World.{World}
use Rattle.rip_ops.specs.Calls.{builtin_of}
use Rattle.rip_convert.specs.Arguments.{call_text}
use Rattle.rip_events.specs.Listed.{Listed, found, registered, same_as, without_listener}
use Rattle.rip_forms.specs.Choices.{place_of_value}
use Rattle.rip_forms.specs.Controls.{is_checkbox, is_control, is_select, part_of}
use Rattle.rip_forms.specs.declared.control.FormPart.{FormPart}
use Rattle.rip_forms.specs.declared.control.FormPart.TheVariants as part
use Rattle.rip_forms.specs.declared.state.FormState.TheVariants.{Value as SetValue, Selected as SetSelected}
use Rattle.rip_nodes.specs.Calls.{argument, node_call}
use Rattle.rip_nodes.specs.declared.member.NodeMember.{NodeMember}
use Rattle.rip_nodes.specs.Members.{member_of}
use Rattle.rip_nodes.specs.Texts.{are_past, cost_of_text, text_span, text_taken, world_with}
use Rattle.rip_host.specs.Answers.{answers, called, event_put, event_read, event_receiver, node_read, node_read_by, node_receiver, node_write, node_write_by, on_receiver, owned_read, owned_write, ripley_read}
use Rattle.rip_host.specs.declared.browser.Browser.{Browser}
use Rattle.rip_host.specs.declared.call.HostCall.{HostCall}
use Rattle.rip_host.specs.declared.call.HostCall.TheVariants as call
use Rattle.rip_host.specs.declared.events.Event.{Event}
use Rattle.rip_host.specs.declared.event_members.EventMember.{EventMember}
use Rattle.rip_host.specs.declared.form_members.FormMember.{FormMember}
use Rattle.rip_host.specs.declared.form_members.FormMember.TheVariants as member
use Rattle.rip_host.specs.declared.listening.Handler.{Handler}
use Rattle.rip_host.specs.declared.listening.Handler.TheVariants.{Ignored, Function, Other}
use Rattle.rip_host.specs.Waiting.{Waiting}
use Rattle.rip_host.specs.declared.owner.Owner.{Owner}
use Rattle.rip_host.specs.declared.owner.Owner.TheVariants.{Node, Dispatched, Ripley, Nobody}
use Rattle.rip_host.specs.EventMembers.{event_member_of, prevented, stopped}
use Rattle.rip_host.specs.FormMembers.{attribute_kept, checked_written, disabled_written, form_member_of, form_read, form_written, goes_on_in, has_value, if_part, null_or_empty, option_chosen, place_written, selected_written, text_held, value_written, with_state}
use Rattle.rip_host.specs.HostCalls.{host_call_of}
use Rattle.rip_host.specs.Listening.{added_by, after_registering, handler_of, ignored, is_number, is_second, is_spent, left_out, listener, listener_added, listener_removed, register, removed_by, unless_fault, unregister}
use Rattle.rip_host.specs.Owners.{owner_of}
use Rattle.rip_host.specs.Visit.{of_nodes}
use Rattle.rip_host.specs.Ripley.{call_callback, call_judged, call_name, call_with, is_array, random_call, random_given, random_of, ripley_member}
use Rattle.rip_law_browser.specs.Unread.{AnswersReadNoReply, RunsReadNoReply, answered_with, run_with, with_waiting}
use Rattle.rip_law_browser.proofs.UnreadRuns.{behind, begun_same}
use Rattle.rip_eval_rows.specs.Run.{Answer, Completes, Stops, Cuts}
use Rattle.rip_eval_language.specs.Table.{table}
use Rattle.rip_forms.specs.declared.state.FormState.{FormState}
use Rattle.rip_machine.specs.Run.{run_from}
use Rattle.rip_machine.specs.Starting.{begun_by}

-- a browser with other replies that wait answers as before, and has them behind
abbrev Same : Waiting → (Browser → HostDone × World × Browser) → Browser → Type 0
Same rs go s = go (with_waiting rs s) ≡ answered_with rs (go s)

if_same : (rs : Waiting) (b : Bool) (x y a c : HostDone × World × Browser) → a ≡ answered_with rs x → c ≡ answered_with rs y → (if b then a else c) ≡ answered_with rs (if b then x else y)
if_same rs true x y a c h g = h
if_same rs false x y a c h g = g

-- ---- reading

part_same : (rs : Waiting) (b : Bool) (w : World) (s : Browser) (answer : HostDone × World) → Same rs (λ t. if_part b w t answer) s
part_same rs true w s answer = refl
part_same rs false w s answer = refl

form_read_same : (rs : Waiting) (w : World) (s : Browser) (n : ℕ) (m : FormMember) → Same rs (λ t. form_read w t n m) s
form_read_same rs w s n member.Value = part_same rs (has_value (part_of w.pool s.dom n)) w s _
form_read_same rs w s n member.Checked = part_same rs (is_checkbox (part_of w.pool s.dom n)) w s _
form_read_same rs w s n member.SelectedIndex = part_same rs (is_select (part_of w.pool s.dom n)) w s _
form_read_same rs w s n member.Disabled = part_same rs (is_control (part_of w.pool s.dom n)) w s _

node_read_by_same : (rs : Waiting) (w : World) (s : Browser) (n : ℕ) (o : Option NodeMember) → Same rs (λ t. node_read_by w t n o) s
node_read_by_same rs w s n None = refl
node_read_by_same rs w s n (Some m) = refl

node_read_same : (rs : Waiting) (w : World) (s : Browser) (n : ℕ) (spelled : FixedText) (o : Option FormMember) → Same rs (λ t. node_read w t n spelled o) s
node_read_same rs w s n spelled (Some m) = form_read_same rs w s n m
node_read_same rs w s n spelled None = node_read_by_same rs w s n (member_of spelled)

event_read_same : (rs : Waiting) (w : World) (s : Browser) (e : Event) (o : Option EventMember) → Same rs (λ t. event_read w t e o) s
event_read_same rs w s e None = refl
event_read_same rs w s e (Some m) = refl

ripley_read_same : (rs : Waiting) (w : World) (s : Browser) (o : Option Builtin) → Same rs (λ t. ripley_read w t o) s
ripley_read_same rs w s None = refl
ripley_read_same rs w s (Some b) = refl

owned_read_same : (rs : Waiting) (w : World) (s : Browser) (owner : Owner) (o : Option FixedText) → Same rs (λ t. owned_read w t owner o) s
owned_read_same rs w s (Node n) None = refl
owned_read_same rs w s (Dispatched e) None = refl
owned_read_same rs w s Ripley None = refl
owned_read_same rs w s Nobody None = refl
owned_read_same rs w s (Node n) (Some spelled) = node_read_same rs w s n spelled (form_member_of spelled)
owned_read_same rs w s (Dispatched e) (Some spelled) = event_read_same rs w s e (event_member_of spelled)
owned_read_same rs w s Ripley (Some spelled) = ripley_read_same rs w s (ripley_member spelled)
owned_read_same rs w s Nobody (Some spelled) = refl

-- ---- writing

text_same : (rs : Waiting) (r : Result Span HostDone) (w : World) (s : Browser) (set : Span → World → FormState) (n : ℕ)
    → Same rs (λ t. goes_on_in r w t (λ span x. (host.Value Undefined, x, with_state t n (set span x)))) s
text_same rs (Ok span) w s set n = refl
text_same rs (Err done) w s set n = refl

text_held_same : (rs : Waiting) (w : World) (s : Browser) (n : ℕ) (v : Value) → Same rs (λ t. text_held w t n v) s
text_held_same rs w s n v = text_same rs (let t = text_taken w false v in t.0) (let t = text_taken w false v in t.1) s (λ text x. SetValue text) n

option_chosen_same : (rs : Waiting) (w : World) (s : Browser) (n : ℕ) (v : Value) → Same rs (λ t. option_chosen w t n v) s
option_chosen_same rs w s n v =
    text_same rs (let t = text_taken w false v in t.0) (let t = text_taken w false v in t.1) s (λ text x. SetSelected (place_of_value x.pool s.dom n (text_at x.pool text))) n

value_written_same : (rs : Waiting) (w : World) (s : Browser) (n : ℕ) (p : FormPart) (v : Value) → Same rs (λ t. value_written w t n p v) s
value_written_same rs w s n part.TextInput v = text_held_same rs w s n (null_or_empty v)
value_written_same rs w s n part.NumberInput v = text_held_same rs w s n (null_or_empty v)
value_written_same rs w s n part.TextArea v = text_held_same rs w s n (null_or_empty v)
value_written_same rs w s n part.Checkbox v = refl
value_written_same rs w s n part.OtherInput v = refl
value_written_same rs w s n part.Button v = refl
value_written_same rs w s n part.Select v = option_chosen_same rs w s n v
value_written_same rs w s n part.Choice v = refl
value_written_same rs w s n part.Form v = refl
value_written_same rs w s n part.Link v = refl
value_written_same rs w s n part.Other v = refl

checked_same : (rs : Waiting) (w : World) (s : Browser) (n : ℕ) (b : Bool) (v : Value) → Same rs (λ t. checked_written w t n b v) s
checked_same rs w s n true v = refl
checked_same rs w s n false v = refl

place_same : (rs : Waiting) (w : World) (s : Browser) (n : ℕ) (r : Result Numeral Fault) → Same rs (λ t. place_written w t n r) s
place_same rs w s n (Ok number) = refl
place_same rs w s n (Err fault) = refl

selected_same : (rs : Waiting) (w : World) (s : Browser) (n : ℕ) (b : Bool) (v : Value) → Same rs (λ t. selected_written w t n b v) s
selected_same rs w s n true v = place_same rs w s n (number_of w.pool v)
selected_same rs w s n false v = refl

attribute_same : (rs : Waiting) (b : Bool) (w : World) (s : Browser) (n : ℕ) → Same rs (λ t. attribute_kept b w t n) s
attribute_same rs true w s n = refl
attribute_same rs false w s n = refl

disabled_same : (rs : Waiting) (w : World) (s : Browser) (n : ℕ) (b : Bool) (v : Value) → Same rs (λ t. disabled_written w t n b v) s
disabled_same rs w s n true v = attribute_same rs (boolean_of w.pool v) w s n
disabled_same rs w s n false v = refl

form_written_same : (rs : Waiting) (w : World) (s : Browser) (n : ℕ) (m : FormMember) (v : Value) → Same rs (λ t. form_written w t n m v) s
form_written_same rs w s n member.Value v = value_written_same rs w s n (part_of w.pool s.dom n) v
form_written_same rs w s n member.Checked v = checked_same rs w s n (is_checkbox (part_of w.pool s.dom n)) v
form_written_same rs w s n member.SelectedIndex v = selected_same rs w s n (is_select (part_of w.pool s.dom n)) v
form_written_same rs w s n member.Disabled v = disabled_same rs w s n (is_control (part_of w.pool s.dom n)) v

node_write_by_same : (rs : Waiting) (w : World) (s : Browser) (n : ℕ) (o : Option NodeMember) (v : Value) → Same rs (λ t. node_write_by w t n o v) s
node_write_by_same rs w s n None v = refl
node_write_by_same rs w s n (Some m) v = refl

node_write_same : (rs : Waiting) (w : World) (s : Browser) (n : ℕ) (spelled : FixedText) (o : Option FormMember) (v : Value) → Same rs (λ t. node_write w t n spelled o v) s
node_write_same rs w s n spelled (Some m) v = form_written_same rs w s n m v
node_write_same rs w s n spelled None v = node_write_by_same rs w s n (member_of spelled) v

owned_write_same : (rs : Waiting) (w : World) (s : Browser) (owner : Owner) (o : Option FixedText) (v : Value) → Same rs (λ t. owned_write w t owner o v) s
owned_write_same rs w s (Node n) None v = refl
owned_write_same rs w s (Dispatched e) None v = refl
owned_write_same rs w s Ripley None v = refl
owned_write_same rs w s Nobody None v = refl
owned_write_same rs w s (Node n) (Some spelled) v = node_write_same rs w s n spelled (form_member_of spelled) v
owned_write_same rs w s (Dispatched e) (Some spelled) v = refl
owned_write_same rs w s Ripley (Some spelled) v = refl
owned_write_same rs w s Nobody (Some spelled) v = refl

-- ---- calls

receiver_same : (rs : Waiting) {A : Type 0} (r : Result A HostDone) (w : World) (s : Browser) (go : A → Browser → HostDone × World × Browser) → ((a : A) → Same rs (go a) s)
    → Same rs (λ t. on_receiver r w t (λ a. go a t)) s
receiver_same rs (Ok a) w s go h = h a
receiver_same rs (Err done) w s go h = refl

fault_same : (rs : Waiting) (o : Option Fault) (w : World) (s : Browser) (go : Browser → HostDone × World × Browser) → Same rs go s → Same rs (λ t. unless_fault o w t (go t)) s
fault_same rs None w s go h = h
fault_same rs (Some fault) w s go h = refl

registering_same : (rs : Waiting) (w : World) (s : Browser) (o : Option (Listed × World)) → Same rs (λ t. after_registering w t o) s
registering_same rs w s None = refl
registering_same rs w s (Some step) = refl

ignored_same : (rs : Waiting) (w : World) (s : Browser) (t : Value) → Same rs (λ b. ignored w b t) s
ignored_same rs w s t = if_same rs (are_past w.pool (cost_of_text t)) (host.Limit Units, w, s) (host.Value Undefined, world_with w t, s) _ _ refl refl

left_out_same : (rs : Waiting) (w : World) (s : Browser) (t : Value) → Same rs (λ b. left_out w b t) s
left_out_same rs w s t = if_same rs (are_past w.pool (cost_of_text t)) (host.Limit Units, w, s) (host.Fault NotInProfile, w, s) _ _ refl refl

register_same : (rs : Waiting) (w : World) (s : Browser) (k : ℕ) (t : Value) (f : ℕ) (capture : Bool) → Same rs (λ b. register w b k t f capture) s
register_same rs w s k t f capture =
    let kind = text_span w.pool t in
    let x = world_with w t in
    let last : Browser → HostDone × World × Browser = λ b. after_registering w b (registered (found x.pool (same_as (listener k kind f capture)) s.listeners) (listener k kind f capture) s.listeners x) in
    let made : Browser → HostDone × World × Browser = λ b. if is_number t && is_spent w then (host.Limit Cells, w, b) else last b in
    let first : Browser → HostDone × World × Browser = λ b. if are_past w.pool (cost_of_text t) then (host.Limit Units, w, b) else made b in
    let with = with_waiting rs s in
    if_same rs (is_second w s k t f capture) (ignored w s t) (first s) (ignored w with t) (first with) (ignored_same rs w s t)
    (if_same rs (are_past w.pool (cost_of_text t)) (host.Limit Units, w, s) (made s) (host.Limit Units, w, with) (made with) refl
    (if_same rs (is_number t && is_spent w) (host.Limit Cells, w, s) (last s) (host.Limit Cells, w, with) (last with) refl
    (registering_same rs w s (registered (found x.pool (same_as (listener k kind f capture)) s.listeners) (listener k kind f capture) s.listeners x))))

unregister_same : (rs : Waiting) (w : World) (s : Browser) (k : ℕ) (t : Value) (f : ℕ) (capture : Bool) → Same rs (λ b. unregister w b k t f capture) s
unregister_same rs w s k t f capture =
    let kind = text_span w.pool t in
    let x = world_with w t in
    let left = without_listener (found x.pool (same_as (listener k kind f capture)) s.listeners) s.listeners in
    let with = with_waiting rs s in
    if_same rs (are_past w.pool (cost_of_text t)) (host.Limit Units, w, s) (host.Value Undefined, x, record s { listeners = left })
    (host.Limit Units, w, with) (host.Value Undefined, x, record with { listeners = left }) refl refl

added_same : (rs : Waiting) (w : World) (s : Browser) (k : ℕ) (t : Value) (h : Handler) (capture : Bool) → Same rs (λ b. added_by w b k t h capture) s
added_same rs w s k t Ignored capture = ignored_same rs w s t
added_same rs w s k t (Function f) capture = register_same rs w s k t f capture
added_same rs w s k t Other capture = left_out_same rs w s t

removed_same : (rs : Waiting) (w : World) (s : Browser) (k : ℕ) (t : Value) (h : Handler) (capture : Bool) → Same rs (λ b. removed_by w b k t h capture) s
removed_same rs w s k t Ignored capture = ignored_same rs w s t
removed_same rs w s k t (Function f) capture = unregister_same rs w s k t f capture
removed_same rs w s k t Other capture = left_out_same rs w s t

listener_added_same : (rs : Waiting) (w : World) (s : Browser) (k : ℕ) (t f c : Value) → Same rs (λ b. listener_added w b k t f c) s
listener_added_same rs w s k t f c =
    fault_same rs (text_fault w.pool t) w s (λ b. added_by w b k t (handler_of w f) (boolean_of w.pool c)) (added_same rs w s k t (handler_of w f) (boolean_of w.pool c))

listener_removed_same : (rs : Waiting) (w : World) (s : Browser) (k : ℕ) (t f c : Value) → Same rs (λ b. listener_removed w b k t f c) s
listener_removed_same rs w s k t f c =
    fault_same rs (text_fault w.pool t) w s (λ b. removed_by w b k t (handler_of w f) (boolean_of w.pool c)) (removed_same rs w s k t (handler_of w f) (boolean_of w.pool c))

judged_same : (rs : Waiting) (w : World) (s : Browser) (callback : Option ℕ) (r : Result (List ℕ) Fault) → Same rs (λ t. call_judged w t callback r) s
judged_same rs w s callback (Ok text) = refl
judged_same rs w s callback (Err fault) = refl

call_with_same : (rs : Waiting) (w : World) (s : Browser) (name : Option Span) (array : Bool) (callback : Option (Option ℕ)) (args : Value) → Same rs (λ t. call_with w t name array callback args) s
call_with_same rs w s None array callback args = refl
call_with_same rs w s (Some name) false callback args = refl
call_with_same rs w s (Some name) true None args = refl
call_with_same rs w s (Some name) true (Some callback) args = judged_same rs w s callback (call_text w name args)

random_of_same : (rs : Waiting) (w : World) (s : Browser) (z : ℤ) → Same rs (λ t. random_of w t z) s
random_of_same rs w s (pos n) =
    if_same rs (nat_le 1 n && nat_le n (2 ^ 31)) (random_given w s n) (host.Fault BadArgument, w, s) (random_given w (with_waiting rs s) n) (host.Fault BadArgument, w, with_waiting rs s) refl refl
random_of_same rs w s (negsuc n) = refl

random_same : (rs : Waiting) (w : World) (s : Browser) (v : Value) → Same rs (λ t. random_call w t v) s
random_same rs w s (Num z) = random_of_same rs w s z
random_same rs w s Undefined = refl
random_same rs w s Null = refl
random_same rs w s (Boolean b) = refl
random_same rs w s NaN = refl
random_same rs w s (Text span) = refl
random_same rs w s (Object n) = refl

called_same : (rs : Waiting) (w : World) (s : Browser) (o : Option HostCall) (this : Value) (args : List Value) → Same rs (λ t. called w t o this args) s
called_same rs w s None this args = refl
called_same rs w s (Some (call.OnNode c)) this args = receiver_same rs (node_receiver s this) w s (λ n t. of_nodes (node_call w t.dom c n args) t) (λ n. refl)
called_same rs w s (Some call.AddEventListener) this args =
    receiver_same rs (node_receiver s this) w s (λ n t. listener_added w t n (argument args 0) (argument args 1) (argument args 2))
    (λ n. listener_added_same rs w s n (argument args 0) (argument args 1) (argument args 2))
called_same rs w s (Some call.RemoveEventListener) this args =
    receiver_same rs (node_receiver s this) w s (λ n t. listener_removed w t n (argument args 0) (argument args 1) (argument args 2))
    (λ n. listener_removed_same rs w s n (argument args 0) (argument args 1) (argument args 2))
called_same rs w s (Some call.StopPropagation) this args = receiver_same rs (event_receiver s this) w s (λ e t. event_put w t (stopped e)) (λ e. refl)
called_same rs w s (Some call.PreventDefault) this args = receiver_same rs (event_receiver s this) w s (λ e t. event_put w t (prevented w.pool e)) (λ e. refl)
called_same rs w s (Some call.Call) this args = call_with_same rs w s (call_name w (argument args 0)) (is_array w (argument args 1)) (call_callback w (argument args 2)) (argument args 1)
called_same rs w s (Some call.Now) this args = refl
called_same rs w s (Some call.Random) this args = random_same rs w s (argument args 0)

pub answers_read_none : AnswersReadNoReply
answers_read_none rs s w (Reads object name) = owned_read_same rs w s (owner_of s object) (fixed_text (text_at w.pool name))
answers_read_none rs s w (Writes object name v) = owned_write_same rs w s (owner_of s object) (fixed_text (text_at w.pool name)) v
answers_read_none rs s w (Calls which this args) = called_same rs w s (option_and_then host_call_of (builtin_of which)) this args

-- ---- runs

run_is : (rs : Waiting) (a : Answer Browser) → behind (with_waiting rs) a ≡ run_with rs a
run_is rs (Completes c u w s) = refl
run_is rs (Stops stop room u w s) = refl
run_is rs (Cuts room w s) = refl

pub runs_read_none : RunsReadNoReply
runs_read_none rs p depth start w s fuel k =
    begun_same (with_waiting rs) answers (λ t x r. answers_read_none rs t x r) (table p) depth (begun_by p depth start w) w s fuel k
    ∙ run_is rs (run_from answers p depth start w s fuel k)
