use Rattle.std.proofs.Common.{◌≡◌, drop}
use Rattle.rip_store.specs.Apply.{function_named}
use Rattle.rip_store.proofs.store.function_named.Given as goal

-- the function that is sought is among those that are left
abbrev pub invariant-loop-function : goal.invariant-loop-function
invariant-loop-function l = function_named (drop l.function-index l.function-items) l.name ≡ function_named l.function-items l.name
