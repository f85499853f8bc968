-- Laws of texts with references: each is read in some way, and what it stands for is what its items stand for.
use Rattle.std.specs.Prelude.{◌≡◌, ℕ, List, Option}
use Rattle.std.specs.List.{flat_map}
use Rattle.rip_markup.specs.References.{Item, item_units, IsRead}
use Rattle.rip_markup.specs.Steps.{decoded, bad_reference}

-- a text that is read so stands for what its items stand for, and the reference that is none stands where it is read
abbrev pub StandsForItems : Type 0
StandsForItems = (text : List ℕ) (items : List Item) (bad : Option ℕ) → IsRead text items bad → (decoded 0 text ≡ flat_map item_units items) × (bad_reference 0 0 text ≡ bad)

-- each text is items, or items and then a reference that is none
abbrev pub HasItems : Type 0
HasItems = (text : List ℕ) → (items : List Item) × (bad : Option ℕ) × IsRead text items bad
