-- The first refusal among tokens is that of a token, and none is refused before it.
use Rattle.std.proofs.Common.{◌≡◌, ℕ, Bool, true, false, List, [], ◌∷◌, ◌++◌, Option, Some, None, option_map, MatchBool, ⊎_elim, ◌⊎◌, inl, inr, refl, ap}
use Rattle.rip_markup.specs.Fault.{shifted, option_or}
use Rattle.rip_markup.specs.Tokens.{is_last, AreTokens}
use Rattle.rip_markup.specs.declared.fault.Fault.{Fault}
use Rattle.rip_markup.specs.declared.token.Placed.{Placed}
use Rattle.rip_markup.specs.declared.token.Token.{Token}
use Rattle.rip_html.specs.Pages.{bare}
use Rattle.rip_html.specs.Refusals.{refusal_at, refusal_from}
use Rattle.rip_html.specs.Standings.{Standing, after}
use Rattle.rip_html.proofs.Accepting.{Accepted}
use Rattle.rip_html.proofs.Forming.{Lasts}
use Rattle.rip_law_syntax.proofs.RefusalPassing.{standing_behind, GoOn}

both_map : (b : Bool) (A B C D : Type 0) → (A → C) → (B → D) → MatchBool b A B → MatchBool b C D
both_map true A B C D f g h = f h
both_map false A B C D f g h = g h

-- the tokens of a text go up to the last
pub tokens_last : (tokens : List Placed) (place : ℕ) (content : _) (text : List ℕ) → AreTokens place content text tokens → Lasts (bare tokens)
tokens_last [] place content text h = absurd h
tokens_last (t ∷ others) place content text h = both_map (is_last t.token) _ _ _ _ (λ e. ap bare e) (λ k. tokens_last others _ _ _ k) h.3

none_ends : (front : List Placed) (t : Placed) (rest : List Placed) → bare (front ++ t ∷ rest) ≡ [] → ⊥
none_ends [] t rest e = cc
none_ends (x ∷ front) t rest e = cc

either_end : (b : Bool) (A B : Type 0) → MatchBool b A B → ((b ≡ true) × A) ⊎ ((b ≡ false) × B)
either_end true A B h = inl (refl, h)
either_end false A B h = inr (refl, h)

-- none before a token is the last
pub front_goes_on : (front : List Placed) (t : Placed) (rest : List Placed) → Lasts (bare (front ++ t ∷ rest)) → GoOn (bare front)
front_goes_on [] t rest last = tt
front_goes_on (x ∷ front) t rest last =
    ⊎_elim
    (λ (end : (is_last x.token ≡ true) × (bare (front ++ t ∷ rest) ≡ [])). absurd (none_ends front t rest end.1))
    (λ (more : (is_last x.token ≡ false) × Lasts (bare (front ++ t ∷ rest))).
    let goes : GoOn (x.token ∷ bare front) = (more.0, front_goes_on front t rest more.1) in goes)
    (either_end (is_last x.token) (bare (front ++ t ∷ rest) ≡ []) (Lasts (bare (front ++ t ∷ rest))) last)

-- the first refusal, and the token that it refuses
pub record Refused (s : Standing) (tokens : List Placed) (found : Fault) : Type 0 where
  pub front : List Placed
  pub token : Placed
  pub others : List Placed
  pub splits : tokens ≡ front ++ token ∷ others
  pub passed : Accepted s (bare front)
  pub go_on : GoOn (bare front)
  pub refused : option_map (shifted token.place) (refusal_at (standing_behind s (bare front)) token.token) ≡ Some found

this_or_later : (f : Fault → Fault) (first second : Option Fault) (found : Fault) → option_or (option_map f first) second ≡ Some found → (option_map f first ≡ Some found) ⊎ ((first ≡ None) × (second ≡ Some found))
this_or_later f None second found e = inr (refl, e)
this_or_later f (Some x) second found e = inl e

none_there : (s : Standing) (tokens : List Placed) (found : Fault) → bare tokens ≡ [] → refusal_from s tokens ≡ Some found → ⊥
none_there s [] found b e = cc
none_there s (t ∷ others) found b e = cc

-- behind a token that is not refused there are more
goes_further : (s : Standing) (t : Token) (others : List Placed) (found : Fault) → Lasts (t ∷ bare others) → refusal_from s others ≡ Some found → (is_last t ≡ false) × Lasts (bare others)
goes_further s t others found last e =
    ⊎_elim
    (λ (end : (is_last t ≡ true) × (bare others ≡ [])). absurd (none_there s others found end.1 e))
    (λ (more : (is_last t ≡ false) × Lasts (bare others)). more)
    (either_end (is_last t) (bare others ≡ []) (Lasts (bare others)) last)

one_further : (s : Standing) (t : Placed) (others : List Placed) (found : Fault) → refusal_at s t.token ≡ None → is_last t.token ≡ false → Refused (after s t.token) others found → Refused s (t ∷ others) found
one_further s t others found none more r = record {
  front = t ∷ r.front;
  token = r.token;
  others = r.others;
  splits = ap (λ (l : List Placed). t ∷ l) r.splits;
  passed = (none, r.passed);
  go_on = (more, r.go_on);
  refused = r.refused;
}

pub first_refused : (s : Standing) (tokens : List Placed) (found : Fault) → Lasts (bare tokens) → refusal_from s tokens ≡ Some found → Refused s tokens found
first_refused s [] found last e = absurd last
first_refused s (t ∷ others) found last e =
    ⊎_elim
    (λ (now : option_map (shifted t.place) (refusal_at s t.token) ≡ Some found).
    let made : Refused s (t ∷ others) found = record { front = []; token = t; others = others; splits = refl; passed = tt; go_on = tt; refused = now } in made)
    (λ (later : (refusal_at s t.token ≡ None) × (refusal_from (after s t.token) others ≡ Some found)).
    let more = goes_further (after s t.token) t.token others found last later.1 in
    one_further s t others found later.0 more.0 (first_refused (after s t.token) others found more.1 later.1))
    (this_or_later (shifted t.place) (refusal_at s t.token) (refusal_from (after s t.token) others) found e)
