-- The calls that a browser answers, among the built-in functions.
use Rattle.std.specs.Prelude.{Option, Some, option_map}
use Rattle.rip_values.specs.declared.builtin.Builtin.{Builtin}
use Rattle.rip_values.specs.declared.builtin.Builtin.TheVariants.{AddEventListener, RemoveEventListener, StopPropagation, PreventDefault, RipleyCall, RipleyNow, RipleyRandom}
use Rattle.rip_nodes.specs.Members.{call_of}
use Rattle.rip_host.specs.declared.call.HostCall.{HostCall}
use Rattle.rip_host.specs.declared.call.HostCall.TheVariants as call

-- the call that a built-in function is
abbrev pub host_call_of : Builtin → Option HostCall
host_call_of AddEventListener = Some call.AddEventListener
host_call_of RemoveEventListener = Some call.RemoveEventListener
host_call_of StopPropagation = Some call.StopPropagation
host_call_of PreventDefault = Some call.PreventDefault
host_call_of RipleyCall = Some call.Call
host_call_of RipleyNow = Some call.Now
host_call_of RipleyRandom = Some call.Random
host_call_of b = option_map (λ c. call.OnNode c) (call_of b)
