-- Whose members an object has, by its number.
use Rattle.std.specs.Prelude.{ℕ, ◌==◌, if◌then◌else◌, Option, None, Some}
use Rattle.rip_values.specs.declared.builtin.Builtin.TheVariants.{Ripley as RipleyObject}
use Rattle.rip_values.specs.Builtins.{number_of}
use Rattle.rip_nodes.specs.Calls.{node_of_object}
use Rattle.rip_host.specs.declared.browser.Browser.{Browser}
use Rattle.rip_host.specs.declared.events.Event.{Event}
use Rattle.rip_host.specs.declared.owner.Owner.{Owner}
use Rattle.rip_host.specs.declared.owner.Owner.TheVariants.{Node, Dispatched, Ripley, Nobody}
use Rattle.rip_host.specs.Events.{event_of}

abbrev pub event_owner : Option Event → Owner
event_owner None = Nobody
event_owner (Some e) = Dispatched e

abbrev pub node_owner : Option ℕ → Owner → Owner
node_owner None other = other
node_owner (Some n) other = Node n

-- a node, an event, `ripley`, or none that the browser answers for
abbrev pub owner_of : Browser → ℕ → Owner
owner_of s n =
    if n == number_of RipleyObject then Ripley
    else node_owner (node_of_object s.dom n) (event_owner (event_of s.events.events n))
