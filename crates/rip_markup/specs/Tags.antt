-- Start tags: their ends, their attributes as pairs, and where they are refused for themselves (HTML 13.1.2.1,
-- 13.1.2.3). Units by number: 62 is `>`, 47 `/`.
use Rattle.std.specs.Prelude.{◌≡◌, ℕ, ◌+◌, Bool, true, false, not, ◌||◌, ◌&&◌, ◌==◌, if◌then◌else◌, List, [], ◌∷◌, ◌++◌, length, Option, Some, None, is_none, option_map, map, codes}
use Rattle.std.specs.Str.{bytes_eq}
use Rattle.std.specs.List.{list_all, prefix_len}
use Rattle.rip_base.specs.Units.{small_text, begins}
use Rattle.rip_markup.specs.Units.{is_space, is_letter, is_name_unit}
use Rattle.rip_markup.specs.Words.{is_among, void_names, script_types, begins_with}
use Rattle.rip_markup.specs.Steps.{decoded, bad_reference}
use Rattle.rip_markup.specs.Attributes.{Written, attribute_text, value_units, value_offset, LeadsAttributes}
use Rattle.rip_markup.specs.Scans.{behind}
use Rattle.rip_markup.specs.Ends.{has_solidus, end_count}
use Rattle.rip_markup.specs.Fault.{fault, shifted, option_or}
use Rattle.rip_markup.specs.declared.fault.Fault.{Fault}
use Rattle.rip_markup.specs.declared.attribute.ReadAttribute.{ReadAttribute}
use Rattle.rip_markup.specs.declared.tag.StartTag.{StartTag}
use Rattle.rip_markup.specs.declared.tag.TagEnd.{TagEnd}
use Rattle.rip_markup.specs.declared.tag.TagEnd.TheVariants.{Closed, Malformed, NoAttribute}
use Rattle.rip_base.specs.declared.page.Attribute.{Attribute}
use Rattle.rip_base.specs.declared.page.PageKind.TheVariants.{BadTag, BadAttribute, DoubleAttribute, BadReference, ExternalScript, NotInSubset}

-- how a tag ends behind its attributes and so many units of space
abbrev pub end_behind : ℕ → List ℕ → TagEnd
end_behind space [] = Malformed
end_behind space (c ∷ rest) =
    if c == 62 then Closed false (space + 1)
    else (if (c == 47) && begins (λ d. d == 62) rest then Closed true (space + 2)
    else (if space == 0 then Malformed else NoAttribute space))

-- How a tag ends behind its attributes: by `>` or `/>` after space or none. Else, where space stands, an attribute
-- should stand behind it; without space, or at the end of the page, the tag is none.
abbrev pub tag_end : List ℕ → TagEnd
tag_end rest = end_behind (prefix_len is_space rest) (behind is_space rest)

-- an attribute as it is read: its name in small letters, what its value stands for, and the place of a reference that
-- is none, counted from the attribute's first unit
abbrev pub read_of : Written → ReadAttribute
read_of a = record {
  name = small_text a.name;
  value = decoded 0 (value_units a.value);
  bad = option_map (λ place. length a.name + value_offset a.value + place) (bad_reference 0 0 (value_units a.value));
}

-- the attribute that is written so
abbrev pub pair_of : Written → Attribute
pair_of a = record { name = small_text a.name; value = decoded 0 (value_units a.value) }

-- the value, in small letters, is among these words
abbrev pub is_value : List (List ℕ) → ReadAttribute → Bool
is_value words r = is_none r.bad && is_among words (small_text r.value)

-- a `type` that no script may have: a value with a reference that is none is none of those that it may
abbrev pub type_fault : List ℕ → ReadAttribute → Option Fault
type_fault tag r =
    if bytes_eq tag (codes "script") && bytes_eq r.name (codes "type") && not (is_value script_types r) then Some (fault 0 NotInSubset) else None

-- where an attribute of a tag of this name is refused for itself, counted from its first unit, and why
abbrev pub own_fault : List ℕ → ReadAttribute → Option Fault
own_fault tag r =
    if bytes_eq tag (codes "script") && bytes_eq r.name (codes "src") then Some (fault 0 ExternalScript)
    else (if begins_with (codes "on") r.name then Some (fault 0 NotInSubset)
    else option_or (type_fault tag r) (option_map (λ place. fault place BadReference) r.bad))

-- where an attribute is refused, counted from its first unit, where an earlier one has its name or none has
abbrev pub attribute_fault : List ℕ → Bool → ReadAttribute → Option Fault
attribute_fault tag double r = if double then Some (fault 0 DoubleAttribute) else own_fault tag r

-- how many units attributes have
abbrev pub attributes_length : List Written → ℕ
attributes_length [] = 0
attributes_length (a ∷ others) = length (attribute_text a []) + attributes_length others

-- The first place where attributes are refused. They begin at this place, behind attributes of these names.
abbrev pub attributes_fault : List ℕ → ℕ → List (List ℕ) → List Written → Option Fault
attributes_fault tag place seen [] = None
attributes_fault tag place seen (a ∷ others) =
    option_or (option_map (shifted (place + length a.space)) (attribute_fault tag (is_among seen (small_text a.name)) (read_of a)))
    (attributes_fault tag (place + length (attribute_text a [])) (seen ++ small_text a.name ∷ []) others)

-- an `input` that is a radio button, and a `select` that takes more than one option, by this attribute
abbrev pub is_radio : List ℕ → ReadAttribute → Bool
is_radio tag r = bytes_eq tag (codes "input") && bytes_eq r.name (codes "type") && is_value (codes "radio" ∷ []) r

-- the attribute is `multiple` of a `select`
abbrev pub is_multiple : List ℕ → ReadAttribute → Bool
is_multiple tag r = bytes_eq tag (codes "select") && bytes_eq r.name (codes "multiple")

-- an attribute for which the tag itself is refused; a second one of a name says nothing
abbrev pub is_against : List ℕ → Bool → ReadAttribute → Bool
is_against tag double r = not double && (is_radio tag r || is_multiple tag r)

-- one of these attributes, behind attributes of these names, is such
abbrev pub are_against : List ℕ → List (List ℕ) → List Written → Bool
are_against tag seen [] = false
are_against tag seen (a ∷ others) = is_against tag (is_among seen (small_text a.name)) (read_of a) || are_against tag (seen ++ small_text a.name ∷ []) others

-- Where a tag of this name is refused for itself, counted from its `<`, and why, where the first fault of its
-- attributes is this one and they end at this place. What refuses the whole tag counts at its `<`. Where an attribute
-- can't be read the tag isn't known whole, and its attributes don't speak against it.
abbrev pub tag_fault : List ℕ → Bool → Option Fault → ℕ → TagEnd → Option Fault
tag_fault tag against found place Malformed = Some (fault 0 BadTag)
tag_fault tag against found place (NoAttribute space) = option_or found (Some (fault (place + space) BadAttribute))
tag_fault tag against found place (Closed solidus count) =
    if solidus && not (is_among void_names tag) then Some (fault 0 BadTag)
    else (if against then Some (fault 0 NotInSubset)
    else found)

-- The text, which begins at this place behind the `<` of a tag of this name, begins with attributes and no more, and
-- they have these pairs, this first fault, are against the tag or not, and end at this other place.
pub record AreRead (tag : List ℕ) (start : ℕ) (text rest : List ℕ) (pairs : List Attribute) (found : Option Fault) (against : Bool) (place : ℕ) : Type 0 where
  pub attributes : List Written
  pub leads : LeadsAttributes text attributes rest
  pub pairs-is : map pair_of attributes ≡ pairs
  pub found-is : attributes_fault tag start [] attributes ≡ found
  pub against-is : are_against tag [] attributes ≡ against
  pub place-is : start + attributes_length attributes ≡ place

-- Behind a `<` this start tag begins: a name that is as long as it can be, attributes, and an end. It has so many units
-- with its `<`.
pub record IsStartTag (behind : List ℕ) (tag : StartTag) (count : ℕ) : Type 0 where
  pub name : List ℕ
  pub after : List ℕ
  pub splits : behind ≡ name ++ after
  pub letter : begins is_letter name ≡ true
  pub each : list_all is_name_unit name ≡ true
  pub longest : begins is_name_unit after ≡ false
  pub name-is : tag.name ≡ small_text name
  pub rest : List ℕ
  pub found : Option Fault
  pub against : Bool
  pub place : ℕ
  pub read : AreRead (small_text name) (1 + length name) after rest tag.attributes found against place
  pub fault-is : tag.fault ≡ tag_fault (small_text name) against found place (tag_end rest)
  pub solidus-is : tag.solidus ≡ has_solidus (tag_end rest)
  pub count-is : count ≡ place + end_count (tag_end rest)
