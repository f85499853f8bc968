-- Where a token of a page stands, by the grammar of pages alone.
use Rattle.std.specs.Prelude.{◌≡◌, ℕ, false, List, [], ◌∷◌, ◌++◌, map, None, codes}
use Rattle.std.specs.List.{AllByRecursion}
use Rattle.rip_markup.specs.Words.{is_among}
use Rattle.rip_markup.specs.declared.token.Token.{Token}
use Rattle.rip_markup.specs.declared.token.Token.TheVariants as T
use Rattle.rip_html.specs.Forests.{end_of}
use Rattle.rip_html.specs.Standings.{Standing, alone, first_standing, part_begun, after}
use Rattle.rip_html.specs.Tags.{part_names}
use Rattle.rip_law_syntax.specs.Fronts.{BeginsPage}

-- the stages of a page, with no element open within head or body
pub data Stage : Type 0 where
  Beginning : Stage
  BehindDoctype : Stage
  InHtml : Stage
  InHead : Stage
  BehindHead : Stage
  InBody : Stage
  InScripts : Stage
  BehindBody : Stage
  BehindHtml : Stage

-- the start tag of this name, with no attributes
abbrev pub start_of : List ℕ → Token
start_of name = T.StartTag (record { name = name; attributes = []; solidus = false; fault = None })

-- The token behind this front stands in this stage, and in no element within it. What a page goes on with tells: with a
-- doctype at the beginning; behind that with `<html>`, and with a doctype no more; then with `<head>`, with `</head>` and
-- with `<body>`; in the body with `</body>`, and before its first script with a comment too; then with `</html>`, and at
-- last with the end.
abbrev pub StandsIn : Stage → List Token → Type 0
StandsIn Beginning front = BeginsPage (front ++ T.Doctype ∷ [])
StandsIn BehindDoctype front = BeginsPage (front ++ start_of (codes "html") ∷ []) × (BeginsPage (front ++ T.Doctype ∷ []) → ⊥)
StandsIn InHtml front = BeginsPage (front ++ start_of (codes "head") ∷ [])
StandsIn InHead front = BeginsPage (front ++ end_of (codes "head") ∷ [])
StandsIn BehindHead front = BeginsPage (front ++ start_of (codes "body") ∷ [])
StandsIn InBody front = BeginsPage (front ++ end_of (codes "body") ∷ []) × BeginsPage (front ++ T.Comment [] ∷ [])
StandsIn InScripts front = BeginsPage (front ++ end_of (codes "body") ∷ []) × (BeginsPage (front ++ T.Comment [] ∷ []) → ⊥)
StandsIn BehindBody front = BeginsPage (front ++ end_of (codes "html") ∷ [])
StandsIn BehindHtml front = BeginsPage (front ++ T.End ∷ [])

-- the end tags of elements of these names, the innermost first
abbrev pub ends_of : List (List ℕ) → List Token
ends_of names = map end_of names

-- none of these elements holds a part of a page
abbrev pub AreInner : List (List ℕ) → Type 0
AreInner names = AllByRecursion (λ name. is_among part_names name ≡ false) names

-- The token behind this front stands in this stage within elements of these names, the innermost first: a page goes on
-- with their end tags, and what follows these stands in the stage and in no element within it.
abbrev pub StandsAt : List Token → Stage → List (List ℕ) → Type 0
StandsAt front stage names = AreInner names × StandsIn stage (front ++ ends_of names)

-- behind `<html>`, and behind the tags that follow it
abbrev html_standing : Standing
html_standing = after first_standing (start_of (codes "html"))

abbrev head_standing : Standing
head_standing = after html_standing (start_of (codes "head"))

abbrev behind_head_standing : Standing
behind_head_standing = after head_standing (end_of (codes "head"))

abbrev body_standing : Standing
body_standing = after behind_head_standing (start_of (codes "body"))

abbrev behind_body_standing : Standing
behind_body_standing = after body_standing (end_of (codes "body"))

-- where the tables of the reader have a token of a stage that stands in no element within it: behind the tokens that lead
-- there, and in the body behind a script
abbrev pub stage_standing : Stage → Standing
stage_standing Beginning = first_standing
stage_standing BehindDoctype = after first_standing T.Doctype
stage_standing InHtml = html_standing
stage_standing InHead = head_standing
stage_standing BehindHead = behind_head_standing
stage_standing InBody = body_standing
stage_standing InScripts = alone (part_begun body_standing.part (codes "script"))
stage_standing BehindBody = behind_body_standing
stage_standing BehindHtml = after behind_body_standing (end_of (codes "html"))

-- the same within elements of these names
abbrev pub standing_in : Stage → List (List ℕ) → Standing
standing_in stage names = record { part = (stage_standing stage).part; open_names = names }
