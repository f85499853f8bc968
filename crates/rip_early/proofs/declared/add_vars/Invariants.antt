use Rattle.std.proofs.Common.{◌≡◌, fold, filter_map, take}
use Rattle.rip_early.specs.Around.{in_text}
use Rattle.rip_early.specs.Names.{with_name, var_name_in}
use Rattle.rip_early.specs.Indexed.{names_of, IsIndexed}
use Rattle.rip_early.proofs.declared.add_vars.Given as goal

abbrev pub invariant-loop-id : goal.invariant-loop-id
invariant-loop-id l = record {
  kept : IsIndexed l.names;
  added : names_of l.names ≡ fold with_name (names_of l.initial.names) (filter_map (var_name_in l.tree l.home) (take l.id-index (in_text l.tree)));
}
