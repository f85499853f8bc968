use Rattle.std.proofs.Common.{◌≡◌, take}
use Rattle.rip_store.proofs.store.copy_functions.Given as goal

-- the copies are those of the functions so far
abbrev pub invariant-loop-function : goal.invariant-loop-function
invariant-loop-function l = l.made.items ≡ take l.function-index l.function-items
