-- What begins a page.
use Rattle.std.specs.Prelude.{◌≡◌, List, ◌++◌}
use Rattle.rip_markup.specs.declared.token.Token.{Token}
use Rattle.rip_html.specs.Grammar.{Parts, page_tokens, AreParts}

-- Some page of the grammar begins with these tokens. The grammar is one of tokens: that a text has those which follow is
-- not said.
pub record BeginsPage (front : List Token) : Type 0 where
  pub parts : Parts
  pub are : AreParts parts
  pub more : List Token
  pub spelled : page_tokens parts ≡ front ++ more
