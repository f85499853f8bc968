-- addEventListener and removeEventListener (DOM Level 2 Events 1.3.1).
use Rattle.std.specs.Prelude.{ℕ, Bool, true, false, ◌&&◌, nat_le, if◌then◌else◌, is_some, Option, None, Some}
use Rattle.std.specs.Fmt.{signed_decimal}
use Rattle.rip_values.specs.declared.builtin.Builtin.{Builtin}
use Rattle.rip_base.specs.declared.value.Fault.{Fault}
use Rattle.rip_base.specs.declared.value.Fault.TheVariants.{NotInProfile}
use Rattle.rip_base.specs.declared.value.Limit.TheVariants.{Cells, Units}
use Rattle.rip_base.specs.declared.value.Span.{Span}
use Rattle.rip_base.specs.declared.value.Value.{Value}
use Rattle.rip_base.specs.declared.value.Value.TheVariants.{Undefined, Null, Bool as Boolean, Num, NaN, Text, Object}
use Rattle.rip_values.specs.Builtins.{is_function}
use Rattle.rip_heap.specs.declared.host.HostDone.{HostDone}
use Rattle.rip_heap.specs.declared.host.HostDone.TheVariants as host
use Rattle.rip_heap.specs.Conversions.{boolean_of, text_fault}
use Rattle.rip_heap.specs.World.{World, code_of, object_at}
use Rattle.rip_ops.specs.Calls.{builtin_of}
use Rattle.rip_events.specs.declared.listener.Listener.{Listener}
use Rattle.rip_events.specs.Listed.{Listed, found, registered, same_as, typed, without_listener}
use Rattle.rip_nodes.specs.Texts.{are_past, cost_of_text, text_span, world_with}
use Rattle.rip_host.specs.declared.browser.Browser.{Browser}
use Rattle.rip_host.specs.declared.listening.Handler.{Handler}
use Rattle.rip_host.specs.declared.listening.Handler.TheVariants.{Ignored, Function, Other}

-- FUNCTIONS

abbrev pub is_built_in_function : Option Builtin → Bool
is_built_in_function None = false
is_built_in_function (Some b) = is_function b

-- the object is a function, of the script or built in
abbrev pub is_function_object : World → ℕ → Option Builtin → Bool
is_function_object w n b = if is_some (code_of (object_at w n)) then true else is_built_in_function b

-- HANDLERS

abbrev pub function_or_other : Bool → ℕ → Handler
function_or_other true n = Function n
function_or_other false n = Other

-- what a value is as a handler: null is ignored, a function is called, and all else is outside the profile
abbrev pub handler_of : World → Value → Handler
handler_of w Null = Ignored
handler_of w (Object n) = function_or_other (is_function_object w n (builtin_of n)) n
handler_of w Undefined = Other
handler_of w (Boolean b) = Other
handler_of w (Num z) = Other
handler_of w NaN = Other
handler_of w (Text span) = Other

-- REGISTERING

-- the value is a number
abbrev pub is_number : Value → Bool
is_number (Num z) = true
is_number Undefined = false
is_number Null = false
is_number (Boolean b) = false
is_number NaN = false
is_number (Text span) = false
is_number (Object n) = false

-- no cell is left
abbrev pub is_spent : World → Bool
is_spent w = nat_le w.limit w.cells

-- the answer where there is no fault, in a browser
abbrev pub unless_fault : Option Fault → World → Browser → HostDone × World × Browser → HostDone × World × Browser
unless_fault None w s answer = answer
unless_fault (Some fault) w s answer = (host.Fault fault, w, s)

-- the listeners and the world after a registration, or the limit of cells
abbrev pub after_registering : World → Browser → Option (Listed × World) → HostDone × World × Browser
after_registering w s None = (host.Limit Cells, w, s)
after_registering w s (Some step) = (host.Value Undefined, step.1, record s { listeners = step.0 })

-- a listener on a node, of the type that a value is as a text
abbrev pub listener : ℕ → Span → ℕ → Bool → Listener
listener k kind f capture = record { node = k; kind = kind; function = f; capture = capture }

-- the text of the type is made, and nothing more is done
abbrev pub ignored : World → Browser → Value → HostDone × World × Browser
ignored w s t =
    if are_past w.pool (cost_of_text t) then (host.Limit Units, w, s) else (host.Value Undefined, world_with w t, s)

-- the type is a number, and a listener of the same node, function and phase stands whose type has the text of the number
abbrev pub is_second : World → Browser → ℕ → Value → ℕ → Bool → Bool
is_second w s k (Num z) f capture = is_some (typed w.pool k (signed_decimal z) f capture s.listeners)
is_second w s k Undefined f capture = false
is_second w s k Null f capture = false
is_second w s k (Boolean b) f capture = false
is_second w s k NaN f capture = false
is_second w s k (Text span) f capture = false
is_second w s k (Object n) f capture = false

-- the text of the type could be made, but the handler is outside the profile
abbrev pub left_out : World → Browser → Value → HostDone × World × Browser
left_out w s t = if are_past w.pool (cost_of_text t) then (host.Limit Units, w, s) else (host.Fault NotInProfile, w, s)

-- the listener is registered, once the text of its type is made. A second registration is dropped, and costs no cell;
-- that of a number is known before the text is made
abbrev pub register : World → Browser → ℕ → Value → ℕ → Bool → HostDone × World × Browser
register w s k t f capture =
    let kind = text_span w.pool t in
    let x = world_with w t in
    if is_second w s k t f capture then ignored w s t
    else if are_past w.pool (cost_of_text t) then (host.Limit Units, w, s)
    else if is_number t && is_spent w then (host.Limit Cells, w, s)
    else after_registering w s (registered (found x.pool (same_as (listener k kind f capture)) s.listeners) (listener k kind f capture) s.listeners x)

abbrev pub added_by : World → Browser → ℕ → Value → Handler → Bool → HostDone × World × Browser
added_by w s k t Ignored capture = ignored w s t
added_by w s k t (Function f) capture = register w s k t f capture
added_by w s k t Other capture = left_out w s t

-- addEventListener on this node
abbrev pub listener_added : World → Browser → ℕ → Value → Value → Value → HostDone × World × Browser
listener_added w s k t f c = unless_fault (text_fault w.pool t) w s (added_by w s k t (handler_of w f) (boolean_of w.pool c))

-- REMOVING

-- the listener that stands leaves, once the text of the type is made
abbrev pub unregister : World → Browser → ℕ → Value → ℕ → Bool → HostDone × World × Browser
unregister w s k t f capture =
    let kind = text_span w.pool t in
    let x = world_with w t in
    if are_past w.pool (cost_of_text t) then (host.Limit Units, w, s)
    else (host.Value Undefined, x, record s { listeners = without_listener (found x.pool (same_as (listener k kind f capture)) s.listeners) s.listeners })

abbrev pub removed_by : World → Browser → ℕ → Value → Handler → Bool → HostDone × World × Browser
removed_by w s k t Ignored capture = ignored w s t
removed_by w s k t (Function f) capture = unregister w s k t f capture
removed_by w s k t Other capture = left_out w s t

-- removeEventListener on this node
abbrev pub listener_removed : World → Browser → ℕ → Value → Value → Value → HostDone × World × Browser
listener_removed w s k t f c = unless_fault (text_fault w.pool t) w s (removed_by w s k t (handler_of w f) (boolean_of w.pool c))
