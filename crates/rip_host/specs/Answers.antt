-- What a browser answers to each request of the evaluator.
use Rattle.std.specs.Prelude.{ℕ, Option, None, Some, Result, Ok, Err, List, option_and_then}
use Rattle.rip_values.specs.declared.builtin.Builtin.{Builtin}
use Rattle.rip_values.specs.declared.fixed.FixedText.{FixedText}
use Rattle.rip_base.specs.declared.value.Fault.TheVariants.{NotInProfile}
use Rattle.rip_base.specs.declared.value.Span.{Span}
use Rattle.rip_base.specs.declared.value.Value.{Value}
use Rattle.rip_base.specs.declared.value.Value.TheVariants.{Undefined, Null, Bool as Boolean, Num, NaN, Text, Object}
use Rattle.rip_values.specs.Builtins.{number_of}
use Rattle.rip_values.specs.FixedSearch.{fixed_text}
use Rattle.rip_values.specs.Pool.{text_at}
use Rattle.rip_heap.specs.declared.host.HostDone.{HostDone}
use Rattle.rip_heap.specs.declared.host.HostDone.TheVariants as host
use Rattle.rip_heap.specs.Host.{Request, Reads, Writes, Calls}
use Rattle.rip_heap.specs.World.{World}
use Rattle.rip_ops.specs.Calls.{builtin_of}
use Rattle.rip_nodes.specs.declared.member.NodeMember.{NodeMember}
use Rattle.rip_nodes.specs.Calls.{argument, node_call, node_of_object}
use Rattle.rip_nodes.specs.Members.{member_of}
use Rattle.rip_nodes.specs.Reading.{node_member}
use Rattle.rip_nodes.specs.Writing.{node_written}
use Rattle.rip_host.specs.declared.browser.Browser.{Browser}
use Rattle.rip_host.specs.declared.call.HostCall.{HostCall}
use Rattle.rip_host.specs.declared.call.HostCall.TheVariants as call
use Rattle.rip_host.specs.declared.events.Event.{Event}
use Rattle.rip_host.specs.declared.event_members.EventMember.{EventMember}
use Rattle.rip_host.specs.declared.form_members.FormMember.{FormMember}
use Rattle.rip_host.specs.declared.owner.Owner.{Owner}
use Rattle.rip_host.specs.declared.owner.Owner.TheVariants.{Node, Dispatched, Ripley, Nobody}
use Rattle.rip_host.specs.EventMembers.{event_member, event_member_of, prevented, stopped}
use Rattle.rip_host.specs.Events.{event_of}
use Rattle.rip_host.specs.Flow.{with_events}
use Rattle.rip_host.specs.FormMembers.{form_member_of, form_read, form_written}
use Rattle.rip_host.specs.HostCalls.{host_call_of}
use Rattle.rip_host.specs.Listening.{listener_added, listener_removed}
use Rattle.rip_host.specs.Owners.{owner_of}
use Rattle.rip_host.specs.Ripley.{random_call, ripley_call, ripley_member}
use Rattle.rip_host.specs.Visit.{of_nodes, of_reading, outside}

-- READING

abbrev pub node_read_by : World → Browser → ℕ → Option NodeMember → HostDone × World × Browser
node_read_by w s n None = outside w s
node_read_by w s n (Some member) = of_reading (node_member w s.dom s.body n member) s

-- the member of a node: those of controls, and those that all nodes of its kind have
abbrev pub node_read : World → Browser → ℕ → FixedText → Option FormMember → HostDone × World × Browser
node_read w s n spelled (Some member) = form_read w s n member
node_read w s n spelled None = node_read_by w s n (member_of spelled)

-- the member of an event
abbrev pub event_read : World → Browser → Event → Option EventMember → HostDone × World × Browser
event_read w s e None = outside w s
event_read w s e (Some member) = (host.Value (event_member w e member), w, s)

-- the member of `ripley`
abbrev pub ripley_read : World → Browser → Option Builtin → HostDone × World × Browser
ripley_read w s None = outside w s
ripley_read w s (Some b) = (host.Value (Object (number_of b)), w, s)

-- the member of this name, by whose it is; a name that the profile has nowhere is outside it
abbrev pub owned_read : World → Browser → Owner → Option FixedText → HostDone × World × Browser
owned_read w s owner None = outside w s
owned_read w s (Node n) (Some spelled) = node_read w s n spelled (form_member_of spelled)
owned_read w s (Dispatched e) (Some spelled) = event_read w s e (event_member_of spelled)
owned_read w s Ripley (Some spelled) = ripley_read w s (ripley_member spelled)
owned_read w s Nobody (Some spelled) = outside w s

-- the member of an object
abbrev pub member_read : World → Browser → ℕ → Span → HostDone × World × Browser
member_read w s object name = owned_read w s (owner_of s object) (fixed_text (text_at w.pool name))

-- WRITING

abbrev pub node_write_by : World → Browser → ℕ → Option NodeMember → Value → HostDone × World × Browser
node_write_by w s n None v = outside w s
node_write_by w s n (Some member) v = of_nodes (node_written w s.dom s.class n member v) s

abbrev pub node_write : World → Browser → ℕ → FixedText → Option FormMember → Value → HostDone × World × Browser
node_write w s n spelled (Some member) v = form_written w s n member v
node_write w s n spelled None v = node_write_by w s n (member_of spelled) v

-- the member of this name of a node; the members of events and of `ripley` are not written
abbrev pub owned_write : World → Browser → Owner → Option FixedText → Value → HostDone × World × Browser
owned_write w s owner None v = outside w s
owned_write w s (Node n) (Some spelled) v = node_write w s n spelled (form_member_of spelled) v
owned_write w s (Dispatched e) (Some spelled) v = outside w s
owned_write w s Ripley (Some spelled) v = outside w s
owned_write w s Nobody (Some spelled) v = outside w s

-- what it means to write the member of an object
abbrev pub member_written : World → Browser → ℕ → Span → Value → HostDone × World × Browser
member_written w s object name v = owned_write w s (owner_of s object) (fixed_text (text_at w.pool name)) v

-- CALLS

-- the receiver is this, or there is none: then the call is outside the profile
abbrev pub some_or_outside : {A : Type 0} → Option A → Result A HostDone
some_or_outside None = Err (host.Fault NotInProfile)
some_or_outside (Some a) = Ok a

-- what a value is as a receiver, where `find` tells what an object is: undefined and null have no members, and values that
-- are no objects not these
abbrev pub receiver : {A : Type 0} → (ℕ → Option A) → Value → Result A HostDone
receiver find Undefined = Err host.TypeFault
receiver find Null = Err host.TypeFault
receiver find (Boolean b) = Err (host.Fault NotInProfile)
receiver find (Num z) = Err (host.Fault NotInProfile)
receiver find NaN = Err (host.Fault NotInProfile)
receiver find (Text span) = Err (host.Fault NotInProfile)
receiver find (Object n) = some_or_outside (find n)

-- the node that is the receiver, or what the call answers instead
abbrev pub node_receiver : Browser → Value → Result ℕ HostDone
node_receiver s this = receiver (node_of_object s.dom) this

-- the event that is the receiver
abbrev pub event_receiver : Browser → Value → Result Event HostDone
event_receiver s this = receiver (event_of s.events.events) this

abbrev pub on_receiver : {A : Type 0} → Result A HostDone → World → Browser → (A → HostDone × World × Browser) → HostDone × World × Browser
on_receiver (Ok a) w s go = go a
on_receiver (Err done) w s go = (done, w, s)

-- the event is changed to this
abbrev pub event_put : World → Browser → Event → HostDone × World × Browser
event_put w s e = (host.Value Undefined, w, with_events s (Some e))

-- what a call of a built-in function answers
abbrev pub called : World → Browser → Option HostCall → Value → List Value → HostDone × World × Browser
called w s None this args = outside w s
called w s (Some (call.OnNode c)) this args = on_receiver (node_receiver s this) w s (λ n. of_nodes (node_call w s.dom c n args) s)
called w s (Some call.AddEventListener) this args =
    on_receiver (node_receiver s this) w s (λ n. listener_added w s n (argument args 0) (argument args 1) (argument args 2))
called w s (Some call.RemoveEventListener) this args =
    on_receiver (node_receiver s this) w s (λ n. listener_removed w s n (argument args 0) (argument args 1) (argument args 2))
called w s (Some call.StopPropagation) this args =
    on_receiver (event_receiver s this) w s (λ e. event_put w s (stopped e))
called w s (Some call.PreventDefault) this args =
    on_receiver (event_receiver s this) w s (λ e. event_put w s (prevented w.pool e))
called w s (Some call.Call) this args = ripley_call w s (argument args 0) (argument args 1) (argument args 2)
called w s (Some call.Now) this args = (host.Value (Num s.moment), w, s)
called w s (Some call.Random) this args = random_call w s (argument args 0)

-- REQUESTS

abbrev pub answers : Browser → World → Request → HostDone × World × Browser
answers s w (Reads object name) = member_read w s object name
answers s w (Writes object name v) = member_written w s object name v
answers s w (Calls which this args) = called w s (option_and_then host_call_of (builtin_of which)) this args
