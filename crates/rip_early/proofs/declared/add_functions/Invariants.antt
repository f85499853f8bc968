use Rattle.std.proofs.Common.{◌≡◌, take, fold, filter_map}
use Rattle.rip_early.specs.Around.{present}
use Rattle.rip_early.specs.Names.{with_name, name_by, declared_piece}
use Rattle.rip_early.specs.Indexed.{names_of, IsIndexed}
use Rattle.rip_early.proofs.declared.add_functions.Given as goal

abbrev pub invariant-loop-child : goal.invariant-loop-child
invariant-loop-child l = record {
  kept : IsIndexed l.names;
  added : names_of l.names ≡ fold with_name (names_of l.initial.names) (filter_map (name_by declared_piece l.tree) (present (take l.child-index l.links)));
}
