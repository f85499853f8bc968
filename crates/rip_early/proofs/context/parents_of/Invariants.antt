use Rattle.std.proofs.Common.{◌≡◌, ℕ, ◌<◌, length, take, None}
use Rattle.std.specs.List.{position}
use Rattle.std.specs.Prelude.{slice_index_or}
use Rattle.rip_early.specs.Around.{holds}
use Rattle.rip_early.proofs.context.parents_of.Given as goal

abbrev pub invariant-loop-id : goal.invariant-loop-id
invariant-loop-id l = record {
  many : length l.parents.items ≡ length l.tree.branches;
  each : (node : ℕ) → node < length l.tree.branches → slice_index_or l.parents.items node None ≡ position (λ b. holds node b.children) (take l.id l.tree.branches);
}
