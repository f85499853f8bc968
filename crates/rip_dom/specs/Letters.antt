-- Texts in small letters and in capitals, those of ASCII.
use Rattle.std.specs.Prelude.{ℕ, ◌-◌, if◌then◌else◌, List, map}
use Rattle.rip_base.specs.Units.{is_between, small_unit}
use Rattle.rip_dom.specs.declared.letters.Letters.{Letters}
use Rattle.rip_dom.specs.declared.letters.Letters.TheVariants.{Small, Capital}

-- a unit in capitals: of a small letter from a to z its capital
abbrev pub capital_unit : ℕ → ℕ
capital_unit c = if is_between 97 122 c then c - 32 else c

-- a unit in these letters
abbrev pub unit_in : Letters → ℕ → ℕ
unit_in Small = small_unit
unit_in Capital = capital_unit

-- a text in these letters
abbrev pub text_in : Letters → List ℕ → List ℕ
text_in letters text = map (unit_in letters) text
