use Rattle.std.proofs.Common.{◌≡◌, ℕ, ◌<◌, length, take, None, Some, cond}
use Rattle.std.specs.Option.{option_or}
use Rattle.std.specs.Prelude.{slice_index_or}
use Rattle.rip_early.specs.Around.{holds}
use Rattle.rip_early.proofs.context.note_children.Given as goal

abbrev pub invariant-loop-child : goal.invariant-loop-child
invariant-loop-child l = record {
  many : length l.parents.items ≡ length l.initial.parents.items;
  each : (node : ℕ) → node < length l.initial.parents.items → slice_index_or l.parents.items node None ≡ option_or (slice_index_or l.initial.parents.items node None) (cond (holds node (take l.child-index l.children)) (Some l.id) None);
}
