-- What stands at an ordinal.
use Rattle.std.specs.Prelude.{ℕ, zero, suc, List, slice_get, Option, None}

-- ordinals count from 1
abbrev pub get_at : {X : Type 0} → ℕ → List X → Option X
get_at zero xs = None
get_at (suc n) xs = slice_get xs n
