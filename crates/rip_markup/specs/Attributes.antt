-- The attributes of a start tag as the page spells them (HTML 13.1.2.3, with no space around `=`). Units by number: 61 is `=`.
use Rattle.std.specs.Prelude.{◌≡◌, ℕ, true, false, not, ◌==◌, List, [], ◌∷◌, ◌++◌}
use Rattle.std.specs.List.{list_all}
use Rattle.rip_base.specs.Units.{begins}
use Rattle.rip_markup.specs.Units.{is_space, is_letter, is_attribute_unit, is_quote, is_unquoted}

-- a value: none, one without quotes, or one between two of the same quote
pub data Value : Type 0 where
  Absent : Value
  Unquoted : List ℕ → Value
  Quoted : ℕ → List ℕ → Value

-- the units of a value with its `=`, and then the rest
abbrev pub value_text : Value → List ℕ → List ℕ
value_text Absent rest = rest
value_text (Unquoted units) rest = 61 ∷ (units ++ rest)
value_text (Quoted quote units) rest = 61 ∷ quote ∷ (units ++ (quote ∷ rest))

-- The value may stand before this rest. One without quotes has a unit or more, and is as long as it can be.
abbrev pub IsValue : Value → List ℕ → Type 0
IsValue Absent rest = begins (λ c. c == 61) rest ≡ false
IsValue (Unquoted units) rest = (begins is_unquoted units ≡ true) × (list_all is_unquoted units ≡ true) × (begins is_unquoted rest ≡ false)
IsValue (Quoted quote units) rest = (is_quote quote ≡ true) × (list_all (λ c. not (c == quote)) units ≡ true)

-- an attribute with the space before it
pub record Written : Type 0 where
  pub space : List ℕ
  pub name : List ℕ
  pub value : Value

-- the units of an attribute, and then the rest
abbrev pub attribute_text : Written → List ℕ → List ℕ
attribute_text a rest = a.space ++ (a.name ++ value_text a.value rest)

-- The attribute may stand before this rest: space, a name that begins with a letter and is as long as it can be, and a value.
pub record IsAttribute (a : Written) (rest : List ℕ) : Type 0 where
  pub spaced : begins is_space a.space ≡ true
  pub space : list_all is_space a.space ≡ true
  pub letter : begins is_letter a.name ≡ true
  pub name : list_all is_attribute_unit a.name ≡ true
  pub longest : begins is_attribute_unit (value_text a.value rest) ≡ false
  pub value : IsValue a.value rest

-- the units of a value alone
abbrev pub value_units : Value → List ℕ
value_units Absent = []
value_units (Unquoted units) = units
value_units (Quoted quote units) = units

-- how many units stand between a name and its value
abbrev pub value_offset : Value → ℕ
value_offset Absent = 0
value_offset (Unquoted units) = 1
value_offset (Quoted quote units) = 2

-- the text begins with this attribute, and the rest follows
abbrev pub LeadsAttribute : List ℕ → Written → List ℕ → Type 0
LeadsAttribute text a rest = (text ≡ attribute_text a rest) × IsAttribute a rest

-- The text begins with these attributes, and with no more: at the rest no attribute can be read.
abbrev pub LeadsAttributes : List ℕ → List Written → List ℕ → Type 0
LeadsAttributes text [] rest = (text ≡ rest) × ((a : Written) (more : List ℕ) → LeadsAttribute rest a more → ⊥)
LeadsAttributes text (a ∷ others) rest = (more : List ℕ) × LeadsAttribute text a more × LeadsAttributes more others rest
