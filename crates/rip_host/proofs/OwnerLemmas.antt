-- An event whose members an object has is the one that the object is.
use Rattle.std.proofs.Common.{◌≡◌, ℕ, Bool, true, false, Option, None, Some, ap}
use Rattle.std.specs.Prelude.{◌==◌, if◌then◌else◌}
use Rattle.std.proofs.lemmas.Option.{none-some}
use Rattle.rip_values.specs.declared.builtin.Builtin.TheVariants.{Ripley as RipleyObject}
use Rattle.rip_values.specs.Builtins.{number_of}
use Rattle.rip_nodes.specs.Calls.{node_of_object}
use Rattle.rip_host.specs.declared.browser.Browser.{Browser}
use Rattle.rip_host.specs.declared.events.Event.{Event}
use Rattle.rip_host.specs.declared.owner.Owner.{Owner}
use Rattle.rip_host.specs.declared.owner.Owner.TheVariants.{Node, Dispatched, Ripley, Nobody}
use Rattle.rip_host.specs.Events.{event_of}
use Rattle.rip_host.specs.Owners.{event_owner, node_owner, owner_of}

abbrev pub dispatched_of : Owner → Option Event
dispatched_of (Node n) = None
dispatched_of (Dispatched e) = Some e
dispatched_of Ripley = None
dispatched_of Nobody = None

owner-by : (b : Bool) (o : Option ℕ) (x : Option Event) (e : Event) → dispatched_of (if b then Ripley else node_owner o (event_owner x)) ≡ Some e → x ≡ Some e
owner-by true o x e h = absurd (none-some e h)
owner-by false (Some n) x e h = absurd (none-some e h)
owner-by false None None e h = h
owner-by false None (Some y) e h = h

pub owner-event : (s : Browser) (n : ℕ) (e : Event) → owner_of s n ≡ Dispatched e → event_of s.events.events n ≡ Some e
owner-event s n e h = owner-by (n == number_of RipleyObject) (node_of_object s.dom n) (event_of s.events.events n) e (ap dispatched_of h)
