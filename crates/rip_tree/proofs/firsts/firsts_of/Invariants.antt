use Rattle.std.proofs.Common.{◌≡◌, ℕ, List, map, take, position}
use Rattle.std.specs.List.{range_with_len}
use Rattle.std.specs.BTreeMap.{get_by}
use Rattle.std.specs.Cmp.Lexicographic.{slice_cmp}
use Rattle.std.specs.Ordering.{nat_cmp}
use Rattle.rip_tree.specs.Firsts.{first_named, has_name}
use Rattle.rip_tree.specs.Joining.{grove_of}
use Rattle.rip_tree.proofs.firsts.firsts_of.Given as goal

-- the nodes so far have their firsts, and each name of them is noted where it stands first
abbrev pub invariant-loop-id : goal.invariant-loop-id
invariant-loop-id l = record {
  firsts : l.firsts.items ≡ map (first_named (grove_of l.trees)) (range_with_len 0 l.id);
  noted : (q : List ℕ) → get_by (λ k. slice_cmp nat_cmp q k.now) l.noted ≡ position (has_name (grove_of l.trees).units q) (take l.id (grove_of l.trees).branches);
}
