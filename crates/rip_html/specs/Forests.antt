-- What stands in an element, in the order of the page, and the tokens that spell it (HTML 13.1.2, 13.1.3).
use Rattle.std.specs.Prelude.{ℕ, true, List, ◌∷◌}
use Rattle.rip_markup.specs.declared.tag.StartTag.{StartTag}
use Rattle.rip_markup.specs.declared.token.TextRun.{TextRun}
use Rattle.rip_markup.specs.declared.token.Token.{Token}
use Rattle.rip_markup.specs.declared.token.Token.TheVariants as T

-- Texts, comments and elements, each before those that follow it. A void element has its tag alone, any other its tag
-- and its content.
pub data Forest : Type 0 where
  Nothing : Forest
  Words : TextRun → Forest → Forest
  Remark : List ℕ → Forest → Forest
  Void : StartTag → Forest → Forest
  Nested : StartTag → Forest → Forest → Forest

-- the whole end tag of this name
abbrev pub end_of : List ℕ → Token
end_of name = T.EndTag (record { name = name; whole = true })

-- the tokens of a forest, and then the rest: an element ends with its own end tag
abbrev pub forest_tokens : Forest → List Token → List Token
forest_tokens Nothing rest = rest
forest_tokens (Words run others) rest = T.Text run ∷ forest_tokens others rest
forest_tokens (Remark units others) rest = T.Comment units ∷ forest_tokens others rest
forest_tokens (Void tag others) rest = T.StartTag tag ∷ forest_tokens others rest
forest_tokens (Nested tag content others) rest = T.StartTag tag ∷ forest_tokens content (end_of tag.name ∷ forest_tokens others rest)

-- a forest and then another
abbrev pub followed : Forest → Forest → Forest
followed Nothing second = second
followed (Words run others) second = Words run (followed others second)
followed (Remark units others) second = Remark units (followed others second)
followed (Void tag others) second = Void tag (followed others second)
followed (Nested tag content others) second = Nested tag content (followed others second)

-- the elements of a forest, without the texts and comments beside them
abbrev pub elements : Forest → Forest
elements Nothing = Nothing
elements (Words run others) = elements others
elements (Remark units others) = elements others
elements (Void tag others) = Void tag (elements others)
elements (Nested tag content others) = Nested tag content (elements others)
