use Rattle.std.proofs.Common.{◌≡◌, filter_map, take}
use Rattle.rip_early.specs.Around.{in_text}
use Rattle.rip_early.specs.Names.{place_in, var_name_in}
use Rattle.rip_early.specs.Indexed.{names_of}
use Rattle.rip_early.proofs.declared.declared_places.Given as goal

-- the places of the names at the nodes so far
abbrev pub invariant-loop-id : goal.invariant-loop-id
invariant-loop-id l = l.places.items ≡ filter_map (place_in (names_of l.names)) (filter_map (var_name_in l.tree 0) (take l.id-index (in_text l.tree)))
