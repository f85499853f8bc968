use Rattle.std.proofs.Common.{◌≡◌, ◌++◌, ◌∷◌, [], bytes_eq, drop}
use Rattle.rip_parser.proofs.literal.is_closed.Given as goal

abbrev pub invariant-loop-unit : goal.invariant-loop-unit
invariant-loop-unit l = bytes_eq l.rest (drop l.unit-index l.units ++ l.quote ∷ []) ≡ bytes_eq l.left (l.units ++ l.quote ∷ [])
