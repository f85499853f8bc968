use Rattle.std.proofs.Common.{◌≡◌, length}
use Rattle.rip_app.specs.App.{HaveTreesFrom}
use Rattle.rip_app.proofs.scripts.trees_of.Given as goal

-- the scripts so far have these trees
abbrev pub invariant-loop-place : goal.invariant-loop-place
invariant-loop-place l = record { each : HaveTreesFrom l.page 1 l.trees.items; count : length l.trees.items ≡ l.place }
