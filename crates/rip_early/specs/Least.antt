-- The early error of a list that counts before all others.
use Rattle.std.specs.Prelude.{◌≡◌, List, [], Option, None, Some, All, Contains}
use Rattle.rip_early.specs.declared.mistake.Mistake.{Mistake}
use Rattle.rip_early.specs.Mistakes.{IsNoLater}

-- The early error of a list that counts before all others, if the list has one.
abbrev pub IsLeast : List Mistake → Option Mistake → Type 0
IsLeast ms None = ms ≡ []
IsLeast ms (Some m) = Contains ms m × All (IsNoLater m) ms
