-- What is refused is the first token with which no page goes on.
use Rattle.std.proofs.Common.{◌≡◌, ℕ, ◌+◌, false, List, [], ◌∷◌, ◌++◌, Option, Some, None, option_map, ⊎_elim, ◌⊎◌, inl, inr, refl, sym, ap, ◌∙◌, subst, take, append_assoc, append-nil}
use Rattle.std.proofs.lemmas.Option.{same_Some}
use Rattle.rip_base.specs.declared.page.PageKind.{PageKind}
use Rattle.rip_markup.specs.Fault.{fault, shifted}
use Rattle.rip_markup.specs.Input.{IsTextRefusal}
use Rattle.rip_markup.specs.Tokens.{IsTokens, is_last}
use Rattle.rip_markup.specs.declared.fault.Fault.{Fault}
use Rattle.rip_markup.specs.declared.refusal.PageRefusal.TheVariants.{At}
use Rattle.rip_markup.specs.declared.token.Placed.{Placed}
use Rattle.rip_markup.specs.declared.token.TextRun.{TextRun}
use Rattle.rip_markup.specs.declared.token.Token.{Token}
use Rattle.rip_markup.specs.declared.token.Token.TheVariants as T
use Rattle.rip_html.specs.Pages.{bare, IsRefusedAt}
use Rattle.rip_html.specs.Refusals.{kind_at, own_fault, place_offset, least_fault, refusal_at, first_refusal}
use Rattle.rip_html.specs.Standings.{Standing, first_standing}
use Rattle.rip_html.proofs.Accepting.{Accepted}
use Rattle.rip_html.proofs.Choice.{both_none}
use Rattle.rip_html.proofs.Forming.{Lasts}
use Rattle.rip_html.proofs.Lasting.{accepted_made}
use Rattle.rip_law_syntax.specs.Fronts.{BeginsPage}
use Rattle.rip_law_syntax.specs.Places.{Stage, StandsAt, ends_of, standing_in}
use Rattle.rip_law_syntax.specs.Offending.{mended, leading_space, earliest, IsRefusedBehind, IsOffending, IsOffendingAt}
use Rattle.rip_law_syntax.proofs.RefusalPassing.{standing_behind, GoOn, goes_on, accepted_on, accepted_front, no_kind_at}
use Rattle.rip_law_syntax.proofs.Reaching.{Reached, page_reached}
use Rattle.rip_law_syntax.proofs.Fronts.{begins_page, not_refused, begins_before}
use Rattle.rip_law_syntax.proofs.Placing.{stage_passed, stands_at, stands_there}
use Rattle.rip_law_syntax.proofs.Mending.{mended_stands, mended_whole, mended_goes_on, space_stands, offset_is, place_refused}
use Rattle.rip_law_syntax.proofs.Refusing.{tokens_last, front_goes_on, first_refused}

-- WHAT IS REFUSED OFFENDS

not_none : (f : Fault → Fault) (o : Option Fault) (found : Fault) → o ≡ None → option_map f o ≡ Some found → ⊥
not_none f None found none e = cc
not_none f (Some x) found none e = cc

no_kind : (o : Option PageKind) (kind : PageKind) → o ≡ None → o ≡ Some kind → ⊥
no_kind None kind none some = cc
no_kind (Some k) kind none some = cc

kind_or_none : (o : Option PageKind) → (o ≡ None) ⊎ ((kind : PageKind) × (o ≡ Some kind))
kind_or_none None = inl refl
kind_or_none (Some kind) = inr (kind, refl)

-- what is shifted
shifted_from : (place : ℕ) (o : Option Fault) (found : Fault) → option_map (shifted place) o ≡ Some found → (x : Fault) × (o ≡ Some x) × (found.offset ≡ place + x.offset)
shifted_from place None found e = absurd (cc)
shifted_from place (Some x) found e = (x, refl, sym (offset_is (shifted place x) found e))

-- what is refused behind a front, where that stands
refused_there : (front : List Token) (t : Placed) (found : Fault) (r : Reached (standing_behind first_standing front)) → option_map (shifted t.place) (refusal_at (standing_behind first_standing front) t.token) ≡ Some found
    → option_map (shifted t.place) (refusal_at (standing_in r.stage r.names) t.token) ≡ Some found
refused_there front t found r e = subst (λ (x : Standing). option_map (shifted t.place) (refusal_at x t.token) ≡ Some found) r.is e

-- a page goes on with a token that is not refused there
goes_with : (front : List Token) (t : Token) (r : Reached (standing_behind first_standing front)) → GoOn front → Accepted first_standing front → is_last t ≡ false → refusal_at (standing_in r.stage r.names) t ≡ None → BeginsPage (front ++ t ∷ [])
goes_with front t r go_on passed last e =
    let stands : refusal_at (standing_behind first_standing front) t ≡ None = subst (λ (x : Standing). refusal_at x t ≡ None) (sym r.is) e in
    begins_page (front ++ t ∷ []) (goes_on front t go_on last) (accepted_on first_standing front (t ∷ []) passed (stands, tt))

-- it may stand here mended, and is refused for what is wrong with it itself
for_itself : (front : List Token) (t : Placed) (found : Fault) (r : Reached (standing_behind first_standing front)) → GoOn front → Accepted first_standing front
    → kind_at (standing_in r.stage r.names).part r.names (mended t.token) ≡ None → option_map (shifted t.place) (refusal_at (standing_in r.stage r.names) t.token) ≡ Some found
    → BeginsPage (front ++ mended t.token ∷ []) × (option_map (shifted t.place) (own_fault t.token) ≡ Some found)
for_itself front t found r go_on passed none e =
    let kind = mended_stands r.stage r.names t.token none in
    let own : option_map (shifted t.place) (own_fault t.token) ≡ Some found =
    sym (ap (λ (o : Option PageKind). option_map (shifted t.place) (least_fault (option_map (fault (place_offset t.token)) o) (own_fault t.token))) kind) ∙ e in
    let stands : refusal_at (standing_in r.stage r.names) (mended t.token) ≡ None =
    both_none (fault (place_offset (mended t.token))) (kind_at (standing_in r.stage r.names).part r.names (mended t.token)) (own_fault (mended t.token)) none (mended_whole t.token) in
    (goes_with front (mended t.token) r go_on passed (mended_goes_on t.token (shifted t.place) found own) stands, own)

-- no page goes on with a token that may not stand here
none_goes_on : (front : List Token) (t : Token) (r : Reached (standing_behind first_standing front)) (kind : PageKind) → kind_at (standing_in r.stage r.names).part r.names t ≡ Some kind → BeginsPage (front ++ t ∷ []) → ⊥
none_goes_on front t r kind some b =
    let none : refusal_at (standing_in r.stage r.names) t ≡ None = subst (λ (x : Standing). refusal_at x t ≡ None) r.is (not_refused front t b) in
    no_kind (kind_at (standing_in r.stage r.names).part r.names t) kind (no_kind_at (standing_in r.stage r.names) t none) some

-- it may not stand here mended, and is refused for its place
for_place : (front : List Token) (t : Placed) (found : Fault) (r : Reached (standing_behind first_standing front)) (kind : PageKind)
    → kind_at (standing_in r.stage r.names).part r.names (mended t.token) ≡ Some kind → option_map (shifted t.place) (refusal_at (standing_in r.stage r.names) t.token) ≡ Some found
    → (BeginsPage (front ++ mended t.token ∷ []) → ⊥) × (found.offset ≡ t.place + earliest (place_offset t.token) (own_fault t.token))
for_place front t found r kind some e =
    let from = shifted_from t.place (refusal_at (standing_in r.stage r.names) t.token) found e in
    (none_goes_on front (mended t.token) r kind some, from.2 ∙ ap (λ n. t.place + n) (place_refused r.stage r.names t.token kind from.0 some from.1))

refused_behind : (front : List Token) (t : Placed) (found : Fault) (r : Reached (standing_behind first_standing front)) → GoOn front → Accepted first_standing front → option_map (shifted t.place) (refusal_at (standing_in r.stage r.names) t.token) ≡ Some found → IsRefusedBehind front t found
refused_behind front t found r go_on passed e =
    ⊎_elim
    (λ (none : kind_at (standing_in r.stage r.names).part r.names (mended t.token) ≡ None). inl (for_itself front t found r go_on passed none e))
    (λ (some : (kind : PageKind) × (kind_at (standing_in r.stage r.names).part r.names (mended t.token) ≡ Some kind)). inr (for_place front t found r some.0 some.1 e))
    (kind_or_none (kind_at (standing_in r.stage r.names).part r.names (mended t.token)))

-- a page goes on with the space that the token begins with
with_space : (front : List Token) (t : Token) (r : Reached (standing_behind first_standing front)) → GoOn front → Accepted first_standing front → BeginsPage (front ++ leading_space t)
with_space front (T.Text run) r go_on passed =
    let space : TextRun = record { units = take run.space run.units; space = run.space; count = run.space; fault = None } in
    let stands : refusal_at (standing_in r.stage r.names) (T.Text space) ≡ None =
    both_none (fault run.space) (kind_at (standing_in r.stage r.names).part r.names (T.Text space)) None (space_stands r.stage r.names space refl) refl in
    goes_with front (T.Text space) r go_on passed refl stands
with_space front t r go_on passed = subst BeginsPage (sym (append-nil front)) (begins_page front go_on passed)

is_offending : (tokens : List Placed) (found : Fault) → Lasts (bare tokens) → first_refusal tokens ≡ Some found → IsOffending tokens found
is_offending tokens found last e =
    let x = first_refused first_standing tokens found last e in
    let r = page_reached (bare x.front) x.passed in
    let there = refused_there (bare x.front) x.token found r x.refused in
    record {
      front = x.front;
      token = x.token;
      behind = x.others;
      splits = x.splits;
      begins = begins_page (bare x.front) x.go_on x.passed;
      spaced = with_space (bare x.front) x.token.token r x.go_on x.passed;
      ends = λ (b : BeginsPage (bare x.front ++ x.token.token ∷ [])).
          not_none (shifted x.token.place) (refusal_at (standing_behind first_standing (bare x.front)) x.token.token) found (not_refused (bare x.front) x.token.token b) x.refused;
      refused = refused_behind (bare x.front) x.token found r x.go_on x.passed there;
      stage = r.stage;
      names = r.names;
      stands = stands_at (bare x.front) x.go_on x.passed r;
      found-is = there;
    }

pub offending_at : (bytes : List ℕ) (place : ℕ) (kind : PageKind) → IsRefusedAt bytes place kind → IsTextRefusal bytes (At place kind) ⊎ IsOffendingAt bytes place kind
offending_at bytes place kind (inl x) = inl x
offending_at bytes place kind (inr x) = inr (record {
  text = x.text;
  tokens = x.tokens;
  has = x.has;
  unit = x.unit;
  offending = is_offending x.tokens (fault x.unit kind) (tokens_last x.tokens 0 _ x.text.units x.has.tokens-are) x.first;
  place-is = x.place-is;
})

-- WHAT OFFENDS IS ONE

-- of a list there is one front that is so, and is so no longer with the next
one_front : (Is : List Token → Type 0) → ((front more : List Token) → Is (front ++ more) → Is front) → (a b : List Placed) (x y : Placed) (r q : List Placed) → (a ++ x ∷ r) ≡ (b ++ y ∷ q)
    → Is (bare a) → Is (bare b) → (Is (bare a ++ x.token ∷ []) → ⊥) → (Is (bare b ++ y.token ∷ []) → ⊥) → (a ≡ b) × (x ≡ y)
one_front Is before [] [] x y r q same is other ends stops = let first : x ≡ y = cc in (refl, first)
one_front Is before [] (z ∷ b) x y r q same is other ends stops =
    let first : z ≡ x = cc in
    absurd (ends (before (x.token ∷ []) (bare b) (subst (λ (w : Placed). Is (w.token ∷ bare b)) first other)))
one_front Is before (z ∷ a) [] x y r q same is other ends stops =
    let first : z ≡ y = cc in
    absurd (stops (before (y.token ∷ []) (bare a) (subst (λ (w : Placed). Is (w.token ∷ bare a)) first is)))
one_front Is before (z ∷ a) (w ∷ b) x y r q same is other ends stops =
    let first : w ≡ z = cc in
    let rest : (a ++ x ∷ r) ≡ (b ++ y ∷ q) = cc in
    let other_is : Is (z.token ∷ bare b) = subst (λ (v : Placed). Is (v.token ∷ bare b)) first other in
    let other_stops : Is (z.token ∷ (bare b ++ y.token ∷ [])) → ⊥ = subst (λ (v : Placed). Is (v.token ∷ (bare b ++ y.token ∷ [])) → ⊥) first stops in
    let one = one_front (λ ts. Is (z.token ∷ ts)) (λ front more h. before (z.token ∷ front) more h) a b x y r q rest is other_is ends other_stops in
    (ap (λ (l : List Placed). z ∷ l) one.0 ∙ ap (λ (v : Placed). v ∷ b) (sym first), one.1)

-- a token stands behind a front that is not refused
stands_passed : (front : List Token) (stage : Stage) (names : List (List ℕ)) → StandsAt front stage names → Accepted first_standing front
stands_passed front stage names at = accepted_front first_standing front (ends_of names) (stage_passed stage (front ++ ends_of names) at.1)

pub one_standing : (text : List ℕ) (front : List Placed) (token : Placed) (rest : List Placed) (stage other : Stage) (names others : List (List ℕ))
    → IsTokens text (front ++ token ∷ rest) → StandsAt (bare front) stage names → StandsAt (bare front) other others → (stage ≡ other) × (names ≡ others)
one_standing text front token rest stage other names others are a b =
    let go_on = front_goes_on front token rest (tokens_last (front ++ token ∷ rest) 0 _ text are) in
    let r = page_reached (bare front) (stands_passed (bare front) stage names a) in
    let one = stands_there (bare front) stage names go_on a r in
    let two = stands_there (bare front) other others go_on b r in
    (sym one.0 ∙ two.0, sym one.1 ∙ two.1)

pub one_offence : (text : List ℕ) (tokens : List Placed) (found other : Fault) → IsTokens text tokens → IsOffending tokens found → IsOffending tokens other → found ≡ other
one_offence text tokens found other are a b =
    let same = one_front BeginsPage begins_before a.front b.front a.token b.token a.behind b.behind (sym a.splits ∙ b.splits) a.begins b.begins a.ends b.ends in
    let there : StandsAt (bare a.front) b.stage b.names = subst (λ (l : List Placed). StandsAt (bare l) b.stage b.names) (sym same.0) b.stands in
    let split : IsTokens text (a.front ++ a.token ∷ a.behind) = subst (λ (l : List Placed). IsTokens text l) a.splits are in
    let places = one_standing text a.front a.token a.behind a.stage b.stage a.names b.names split a.stands there in
    let stages : a.stage ≡ b.stage = places.0 in
    let all : a.names ≡ b.names = places.1 in
    let tokens_same : a.token ≡ b.token = same.1 in
    let faults : option_map (shifted a.token.place) (refusal_at (standing_in a.stage a.names) a.token.token) ≡ option_map (shifted b.token.place) (refusal_at (standing_in b.stage b.names) b.token.token) =
    (λ i. option_map (shifted (tokens_same i).place) (refusal_at (standing_in (stages i) (all i)) (tokens_same i).token)) in
    same_Some found other (sym a.found-is ∙ faults ∙ b.found-is)

-- WHAT OFFENDS IS REFUSED

bare_on : (front more : List Placed) → bare (front ++ more) ≡ bare front ++ bare more
bare_on [] more = refl
bare_on (t ∷ front) more = ap (λ (l : List Token). t.token ∷ l) (bare_on front more)

-- tokens of which one offends are none of a page
no_page : (text : List ℕ) (tokens : List Placed) (found : Fault) → IsTokens text tokens → IsOffending tokens found → first_refusal tokens ≡ None → ⊥
no_page text tokens found are o none =
    let made = accepted_made text tokens are none in
    let split : bare tokens ≡ (bare o.front ++ o.token.token ∷ []) ++ bare o.behind =
    ap bare o.splits ∙ bare_on o.front (o.token ∷ o.behind) ∙ sym (append_assoc (bare o.front) (o.token.token ∷ []) (bare o.behind)) in
    o.ends (record { parts = made.parts; are = made.are; more = bare o.behind; spelled = sym made.spelled ∙ split })

refused_so : (text : List ℕ) (tokens : List Placed) (found : Fault) (o : Option Fault) → IsTokens text tokens → IsOffending tokens found → first_refusal tokens ≡ o → first_refusal tokens ≡ Some found
refused_so text tokens found None are o e = absurd (no_page text tokens found are o e)
refused_so text tokens found (Some x) are o e =
    e ∙ ap (λ (f : Fault). Some f) (one_offence text tokens x found are (is_offending tokens x (tokens_last tokens 0 _ text are) e) o)

pub refused_at : (bytes : List ℕ) (place : ℕ) (kind : PageKind) → IsOffendingAt bytes place kind → IsRefusedAt bytes place kind
refused_at bytes place kind o =
    let first = refused_so o.text.units o.tokens (fault o.unit kind) (first_refusal o.tokens) o.has.tokens-are o.offending refl in
    inr (record { text = o.text; tokens = o.tokens; has = o.has; unit = o.unit; first = first; place-is = o.place-is })
