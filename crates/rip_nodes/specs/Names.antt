-- Names that the profile leaves out.
use Rattle.std.specs.Prelude.{ℕ, ◌==◌, ◌&&◌, Bool, false, codes, List, [], ◌∷◌}
use Rattle.rip_base.specs.Units.{small_unit}
use Rattle.rip_dom.specs.Names.{is_small}

-- the name in small letters is `script`: no script can make an element of that name
abbrev pub is_script : List ℕ → Bool
is_script name = is_small (codes "script") name

-- the name in small letters begins with `on`: such an attribute would hold a script
abbrev pub begins_with_on : List ℕ → Bool
begins_with_on [] = false
begins_with_on (a ∷ []) = false
begins_with_on (a ∷ b ∷ rest) = (small_unit a == 111) && (small_unit b == 110)
