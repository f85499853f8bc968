use Rattle.std.proofs.Common.{◌≡◌, ℕ, ◌+◌, refl, add-one}
use Rattle.rip_heap.specs.World.{World}
use Rattle.rip_eval_language.specs.Rows.Names.{outer, scope_up}

pub scope_up_none : (w : World) (scope : ℕ) → scope_up w scope 0 ≡ scope
unfolding scope_up
scope_up_none w scope = refl

pub scope_up_more : (w : World) (scope up : ℕ) → scope_up w scope (up + 1) ≡ outer w (scope_up w scope up)
unfolding scope_up
scope_up_more w scope up = rw (add-one up) refl
