-- The token at which a page is refused, by the grammar of pages alone: the first with which no page goes on.
use Rattle.std.specs.Prelude.{◌≡◌, ◌⊎◌, ℕ, ◌+◌, min, true, false, List, [], ◌∷◌, ◌++◌, Option, Some, None, option_map, take}
use Rattle.rip_base.specs.declared.page.PageKind.{PageKind}
use Rattle.rip_markup.specs.Input.{IsTextRefusal, bytes_before}
use Rattle.rip_markup.specs.Fault.{fault, shifted}
use Rattle.rip_markup.specs.Tokens.{IsTokens}
use Rattle.rip_markup.specs.declared.fault.Fault.{Fault}
use Rattle.rip_markup.specs.declared.input.PageText.{PageText}
use Rattle.rip_markup.specs.declared.token.Token.{Token}
use Rattle.rip_markup.specs.declared.token.Token.TheVariants as T
use Rattle.rip_markup.specs.declared.token.Placed.{Placed}
use Rattle.rip_markup.specs.declared.refusal.PageRefusal.TheVariants.{At}
use Rattle.rip_html.specs.Pages.{bare, HasTokens, IsRefusedAt}
use Rattle.rip_html.specs.Refusals.{place_offset, own_fault, refusal_at}
use Rattle.rip_law_syntax.specs.Fronts.{BeginsPage}
use Rattle.rip_law_syntax.specs.Places.{Stage, StandsAt, standing_in}

-- The token without what is wrong with it itself. A `<!--` that no `-->` follows is a comment then, and a `<` that begins
-- nothing is a text. Units by number: 60 is `<`.
abbrev pub mended : Token → Token
mended (T.Text run) = T.Text (record run { fault = None })
mended (T.StartTag tag) = T.StartTag (record tag { fault = None })
mended (T.EndTag end) = T.EndTag (record end { whole = true })
mended T.OpenComment = T.Comment []
mended T.Stray = T.Text (record { units = 60 ∷ []; space = 0; count = 1; fault = None })
mended token = token

-- the space that a text begins with, as a text; of another token nothing
abbrev pub leading_space : Token → List Token
leading_space (T.Text run) = T.Text (record { units = take run.space run.units; space = run.space; count = run.space; fault = None }) ∷ []
leading_space token = []

-- the first of these units: that at which a token is refused for its place, and that where something is wrong with the
-- token itself, if anything is
abbrev pub earliest : ℕ → Option Fault → ℕ
earliest offset None = offset
earliest offset (Some own) = min offset own.offset

-- How a token is refused with which no page goes on behind this front. If one would go on with the token mended, it is
-- refused for what is wrong with it itself, at the place of that and as its kind. If none would even then, the token is
-- refused for its place, at its first unit, or a text at its first unit that isn't space; or before that unit, where
-- something is wrong with the text itself.
abbrev pub IsRefusedBehind : List Token → Placed → Fault → Type 0
IsRefusedBehind front t found =
    (BeginsPage (front ++ mended t.token ∷ []) × (option_map (shifted t.place) (own_fault t.token) ≡ Some found))
    ⊎ ((BeginsPage (front ++ mended t.token ∷ []) → ⊥) × (found.offset ≡ t.place + earliest (place_offset t.token) (own_fault t.token)))

-- The first of these tokens with which no page goes on is refused so: some page begins with those before it, and also with
-- the space behind them that it begins with, if it is a text; none begins with those before it and it. The place and the
-- kind are those that the tables have for it where it stands, and that it stands there is told by the grammar alone.
pub record IsOffending (tokens : List Placed) (found : Fault) : Type 0 where
  pub front : List Placed
  pub token : Placed
  pub behind : List Placed
  pub splits : tokens ≡ front ++ token ∷ behind
  pub begins : BeginsPage (bare front)
  pub spaced : BeginsPage (bare front ++ leading_space token.token)
  pub ends : BeginsPage (bare front ++ token.token ∷ []) → ⊥
  pub refused : IsRefusedBehind (bare front) token found
  pub stage : Stage
  pub names : List (List ℕ)
  pub stands : StandsAt (bare front) stage names
  pub found-is : option_map (shifted token.place) (refusal_at (standing_in stage names) token.token) ≡ Some found

-- the first token of the bytes with which no page goes on is refused at this byte, as this kind
pub record IsOffendingAt (bytes : List ℕ) (place : ℕ) (kind : PageKind) : Type 0 where
  pub text : PageText
  pub tokens : List Placed
  pub has : HasTokens bytes text tokens
  pub unit : ℕ
  pub offending : IsOffending tokens (fault unit kind)
  pub place-is : place ≡ text.mark + bytes_before false text.raw unit

-- bytes that are refused have no text, or are refused at the first token with which no page goes on
abbrev pub RefusedAreOffending : Type 0
RefusedAreOffending = (bytes : List ℕ) (place : ℕ) (kind : PageKind) → IsRefusedAt bytes place kind → IsTextRefusal bytes (At place kind) ⊎ IsOffendingAt bytes place kind

-- bytes with a token with which no page goes on are refused as the first such token is
abbrev pub OffendingAreRefused : Type 0
OffendingAreRefused = (bytes : List ℕ) (place : ℕ) (kind : PageKind) → IsOffendingAt bytes place kind → IsRefusedAt bytes place kind

-- the tokens of a text are so at one place, and as one kind
abbrev pub OffendingAreOne : Type 0
OffendingAreOne = (text : List ℕ) (tokens : List Placed) (found other : Fault) → IsTokens text tokens → IsOffending tokens found → IsOffending tokens other → found ≡ other

-- a token of a text stands in one stage at most, and within elements of the same names
abbrev pub StandingsAreOne : Type 0
StandingsAreOne = (text : List ℕ) (front : List Placed) (token : Placed) (behind : List Placed) (stage other : Stage) (names others : List (List ℕ))
    → IsTokens text (front ++ token ∷ behind) → StandsAt (bare front) stage names → StandsAt (bare front) other others → (stage ≡ other) × (names ≡ others)
