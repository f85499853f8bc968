-- What bytes are: a page, or refused at a place.
use Rattle.std.specs.Prelude.{◌≡◌, ℕ, ◌+◌, ◌⊎◌, false, List, Some, map}
use Rattle.rip_base.specs.Page.{Contents}
use Rattle.rip_base.specs.declared.page.PageKind.{PageKind}
use Rattle.rip_markup.specs.Input.{IsTextOf, IsTextRefusal, bytes_before}
use Rattle.rip_markup.specs.Tokens.{IsTokens}
use Rattle.rip_markup.specs.Fault.{fault}
use Rattle.rip_markup.specs.declared.input.PageText.{PageText}
use Rattle.rip_markup.specs.declared.token.Token.{Token}
use Rattle.rip_markup.specs.declared.token.Placed.{Placed}
use Rattle.rip_markup.specs.declared.refusal.PageRefusal.{PageRefusal}
use Rattle.rip_markup.specs.declared.refusal.PageRefusal.TheVariants.{At, Memory}
use Rattle.rip_html.specs.Grammar.{Parts, page_tokens, AreParts}
use Rattle.rip_html.specs.Nodes.{page_nodes}
use Rattle.rip_html.specs.Scripts.{script_numbers}
use Rattle.rip_html.specs.Refusals.{first_refusal}

-- these tokens of a page's text without their places
abbrev pub bare : List Placed → List Token
bare tokens = map (λ t. t.token) tokens

-- the bytes have a text, and the text these tokens
pub record HasTokens (bytes : List ℕ) (text : PageText) (tokens : List Placed) : Type 0 where
  pub text-is : IsTextOf bytes text
  pub tokens-are : IsTokens text.units tokens

-- The bytes are this page: their tokens are those of parts that make a page, and the page has the nodes of these parts
-- in document order, and of each script the node that holds its text.
pub record PageOf (bytes : List ℕ) (page : Contents) : Type 0 where
  pub text : PageText
  pub tokens : List Placed
  pub has : HasTokens bytes text tokens
  pub parts : Parts
  pub spelled : bare tokens ≡ page_tokens parts
  pub are : AreParts parts
  pub nodes-are : page.nodes ≡ page_nodes parts
  pub scripts-are : page.scripts ≡ script_numbers 0 page.nodes

-- The first token of the bytes that is refused is so at this byte, as this kind.
pub record IsTokenRefusal (bytes : List ℕ) (place : ℕ) (kind : PageKind) : Type 0 where
  pub text : PageText
  pub tokens : List Placed
  pub has : HasTokens bytes text tokens
  pub unit : ℕ
  pub first : first_refusal tokens ≡ Some (fault unit kind)
  pub place-is : place ≡ text.mark + bytes_before false text.raw unit

-- the bytes are refused at this byte, as this kind: they have no text, or one of their tokens is refused
abbrev pub IsRefusedAt : List ℕ → ℕ → PageKind → Type 0
IsRefusedAt bytes place kind = IsTextRefusal bytes (At place kind) ⊎ IsTokenRefusal bytes place kind

-- the refusal is at this byte, as this kind, or it is want of memory
abbrev pub IsAt : ℕ → PageKind → PageRefusal → Type 0
IsAt place kind (At p k) = (p ≡ place) × (k ≡ kind)
IsAt place kind Memory = Unit {0}

-- why bytes are no page; for want of memory nothing is said
abbrev pub IsRefusal : List ℕ → PageRefusal → Type 0
IsRefusal bytes (At place kind) = IsRefusedAt bytes place kind
IsRefusal bytes Memory = Unit {0}
