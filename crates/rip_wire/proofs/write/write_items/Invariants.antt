use Rattle.std.proofs.Common.{◌≡◌, ◌++◌, drop, map}
use Rattle.rip_wire.specs.Items.{reported_of, item_value}
use Rattle.rip_wire.specs.Tokens.{closed}
use Rattle.rip_wire.proofs.write.write_items.Given as goal

-- what is written and what is left make up the whole
abbrev pub invariant-loop-item : goal.invariant-loop-item
invariant-loop-item l =
    (l.out.before ≡ l.initial.out.before)
    × (l.out.tokens ++ closed (map item_value (map reported_of (drop l.item-index l.items))) ≡ l.initial.out.tokens ++ closed (map item_value (map reported_of l.items)))
