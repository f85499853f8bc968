-- The tokens of a page end with the first that is the last.
use Rattle.std.proofs.Common.{◌≡◌, ℕ, Bool, true, false, List, [], ◌∷◌, MatchBool, None, sym, ap, subst}
use Rattle.rip_markup.specs.Tokens.{is_last, AreTokens, IsTokens}
use Rattle.rip_markup.specs.declared.token.Placed.{Placed}
use Rattle.rip_html.specs.Grammar.{Parts, page_tokens, AreParts}
use Rattle.rip_html.specs.Standings.{first_standing}
use Rattle.rip_html.specs.Refusals.{first_refusal}
use Rattle.rip_html.specs.Pages.{bare}
use Rattle.rip_html.proofs.Accepting.{Accepted, accepted_none, none_accepted, accepts_page}
use Rattle.rip_html.proofs.Forming.{Lasts, formed, Made, page_made}

both_map : (b : Bool) (P Q R S : Type 0) → (P → R) → (Q → S) → MatchBool b P Q → MatchBool b R S
both_map true P Q R S f g h = f h
both_map false P Q R S f g h = g h

tokens_last : (tokens : List Placed) (place : ℕ) (content : _) (text : List ℕ) → AreTokens place content text tokens → Lasts (bare tokens)
tokens_last [] place content text h = absurd h
tokens_last (t ∷ others) place content text h = both_map (is_last t.token) _ _ _ _ (λ e. ap bare e) (λ k. tokens_last others _ _ _ k) h.3

-- tokens that are refused nowhere are those of parts that make a page
pub accepted_made : (text : List ℕ) (tokens : List Placed) → IsTokens text tokens → first_refusal tokens ≡ None → Made (bare tokens)
accepted_made text tokens are none = page_made (bare tokens) (formed first_standing (bare tokens) (tokens_last tokens 0 _ text are) (none_accepted first_standing tokens none))

-- and those of parts that make a page are refused nowhere
pub made_accepted : (tokens : List Placed) (p : Parts) → bare tokens ≡ page_tokens p → AreParts p → first_refusal tokens ≡ None
made_accepted tokens p spelled are = accepted_none first_standing tokens (subst (Accepted first_standing) (sym spelled) (accepts_page p are))
