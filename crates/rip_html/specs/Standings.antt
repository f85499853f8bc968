-- Where a token of a page stands, and where the next one does.
use Rattle.std.specs.Prelude.{ℕ, if◌then◌else◌, List, [], ◌∷◌}
use Rattle.rip_markup.specs.declared.token.Token.{Token}
use Rattle.rip_markup.specs.declared.token.Token.TheVariants as T
use Rattle.rip_html.specs.declared.part.Part.{Part}
use Rattle.rip_html.specs.declared.part.Part.TheVariants as P
use Rattle.rip_html.specs.Tags.{is_script, is_void}

-- the part of the page, and the names of the elements that are open within head or body, the innermost first
pub record Standing : Type 0 where
  pub part : Part
  pub open_names : List (List ℕ)

-- in this part, with nothing open within it
abbrev pub alone : Part → Standing
alone part = record { part = part; open_names = [] }

-- where the first token stands
abbrev pub first_standing : Standing
first_standing = alone P.Beginning

-- behind the start tag of an element of this name
abbrev pub opened : Part → List (List ℕ) → List ℕ → Standing
opened part open_names name = if is_void name then record { part = part; open_names = open_names } else record { part = part; open_names = name ∷ open_names }

-- the part behind a start tag of this name
abbrev pub part_begun : Part → List ℕ → Part
part_begun P.InBody name = if is_script name then P.InScripts else P.InBody
part_begun part name = part

-- behind a start tag of this name that stands in a part and in no element within it
abbrev pub begun : Part → List ℕ → Standing
begun P.Beginning name = alone P.InHtml
begun P.BehindDoctype name = alone P.InHtml
begun P.InHtml name = alone P.InHead
begun P.BehindHead name = alone P.InBody
begun P.BehindBody name = alone P.BehindBody
begun P.BehindHtml name = alone P.BehindHtml
begun part name = opened (part_begun part name) [] name

-- the part behind the end tag of a part
abbrev pub part_ended : Part → Part
part_ended P.InHead = P.BehindHead
part_ended P.InBody = P.BehindBody
part_ended P.InScripts = P.BehindBody
part_ended P.BehindBody = P.BehindHtml
part_ended part = part

-- behind a start tag of this name
abbrev pub behind_start : Part → List (List ℕ) → List ℕ → Standing
behind_start part [] name = begun part name
behind_start part (innermost ∷ others) name = opened part (innermost ∷ others) name

-- behind an end tag, which ends the innermost element or the part
abbrev pub behind_end : Part → List (List ℕ) → Standing
behind_end part [] = alone (part_ended part)
behind_end part (innermost ∷ others) = record { part = part; open_names = others }

-- where the token behind this one stands
abbrev pub after : Standing → Token → Standing
after s (T.StartTag tag) = behind_start s.part s.open_names tag.name
after s (T.EndTag end) = behind_end s.part s.open_names
after s T.Doctype = record s { part = P.BehindDoctype }
after s _ = s
