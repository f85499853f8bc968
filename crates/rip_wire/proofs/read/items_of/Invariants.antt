use Rattle.std.proofs.Common.{◌≡◌, take, map}
use Rattle.std.specs.List.{AllByRecursion}
use Rattle.serde_json.specs.View.{view}
use Rattle.rip_wire.specs.Items.{reported_of, item_value, IsItem}
use Rattle.rip_wire.proofs.read.items_of.Given as goal

-- the items so far are those that were read
abbrev pub invariant-loop-value : goal.invariant-loop-value
invariant-loop-value l =
    (map item_value (map reported_of l.items.items) ≡ map view (take l.value-index l.values))
    × AllByRecursion IsItem (map reported_of l.items.items)
