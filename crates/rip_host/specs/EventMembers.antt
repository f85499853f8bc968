-- The members of events (DOM Level 2 Events 1.4).
use Rattle.std.specs.Prelude.{ℕ, pos, Bool, true, false, ◌||◌, Option, None, Some, option_map}
use Rattle.rip_values.specs.declared.builtin.Builtin.TheVariants.{StopPropagation as StopPropagationFunction, PreventDefault as PreventDefaultFunction}
use Rattle.rip_values.specs.declared.fixed.FixedText.{FixedText}
use Rattle.rip_values.specs.declared.fixed.FixedText.TheVariants.{EventType, Target, CurrentTarget, EventPhase, Bubbles, Cancelable, StopPropagation, PreventDefault, Click, Submit, Input, Change}
use Rattle.rip_base.specs.declared.value.Span.{Span}
use Rattle.rip_base.specs.declared.value.Value.{Value}
use Rattle.rip_base.specs.declared.value.Value.TheVariants.{Num, Bool as Boolean, Object}
use Rattle.rip_values.specs.Builtins.{number_of}
use Rattle.rip_values.specs.FixedSearch.{fixed_text}
use Rattle.rip_values.specs.Pool.{Texts, text_at}
use Rattle.rip_heap.specs.World.{World}
use Rattle.rip_events.specs.declared.station.Station.{Station}
use Rattle.rip_events.specs.Flow.{number_of as number_of_phase}
use Rattle.rip_nodes.specs.Answers.{node_or_null, node_value, text_value}
use Rattle.rip_host.specs.declared.events.Event.{Event}
use Rattle.rip_host.specs.declared.event_members.EventMember.{EventMember}
use Rattle.rip_host.specs.declared.event_members.EventMember.TheVariants as member

-- the member of events that has this name
abbrev pub event_member_of : FixedText → Option EventMember
event_member_of EventType = Some member.Type
event_member_of Target = Some member.Target
event_member_of CurrentTarget = Some member.CurrentTarget
event_member_of EventPhase = Some member.EventPhase
event_member_of Bubbles = Some member.Bubbles
event_member_of Cancelable = Some member.Cancelable
event_member_of StopPropagation = Some member.StopPropagation
event_member_of PreventDefault = Some member.PreventDefault
event_member_of _ = None

-- events of these types bubble
abbrev pub is_bubbling : Option FixedText → Bool
is_bubbling None = false
is_bubbling (Some Click) = true
is_bubbling (Some Submit) = true
is_bubbling (Some Input) = true
is_bubbling (Some Change) = true
is_bubbling (Some _) = false

-- events of these types can be cancelled
abbrev pub is_cancelable : Option FixedText → Bool
is_cancelable None = false
is_cancelable (Some Click) = true
is_cancelable (Some Submit) = true
is_cancelable (Some _) = false

-- events of the type that has this text bubble
abbrev pub bubbles : Texts → Span → Bool
bubbles pool kind = is_bubbling (fixed_text (text_at pool kind))

-- events of the type that has this text can be cancelled
abbrev pub can_be_cancelled : Texts → Span → Bool
can_be_cancelled pool kind = is_cancelable (fixed_text (text_at pool kind))

abbrev pub node_of : Option Station → Option ℕ
node_of at = option_map (λ s. s.node) at

-- the number of the phase; after the flow it is 0
abbrev pub phase_of : Option Station → ℕ
phase_of None = 0
phase_of (Some s) = number_of_phase s.phase

-- the same as a value
abbrev pub phase_value : Option Station → Value
phase_value at = Num (pos (phase_of at))

-- what an event has as this member
abbrev pub event_member : World → Event → EventMember → Value
event_member w e member.Type = text_value w e.kind
event_member w e member.Target = node_value e.target
event_member w e member.CurrentTarget = node_or_null (node_of e.at)
event_member w e member.EventPhase = phase_value e.at
event_member w e member.Bubbles = Boolean (bubbles w.pool e.kind)
event_member w e member.Cancelable = Boolean (can_be_cancelled w.pool e.kind)
event_member w e member.StopPropagation = Object (number_of StopPropagationFunction)
event_member w e member.PreventDefault = Object (number_of PreventDefaultFunction)

-- stopPropagation
abbrev pub stopped : Event → Event
stopped e = record e { stopped = true }

-- preventDefault, which has no effect where the event cannot be cancelled
abbrev pub prevented : Texts → Event → Event
prevented pool e = record e { prevented = e.prevented || can_be_cancelled pool e.kind }
