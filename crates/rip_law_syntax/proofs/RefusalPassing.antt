-- What passes behind tokens: where the next stands, and that none is refused.
use Rattle.std.proofs.Common.{◌≡◌, false, List, [], ◌∷◌, ◌++◌, None, MatchBool, refl, sym, subst}
use Rattle.rip_markup.specs.Fault.{fault}
use Rattle.rip_markup.specs.Tokens.{is_last}
use Rattle.rip_markup.specs.declared.token.Token.{Token}
use Rattle.rip_html.specs.Standings.{Standing, after}
use Rattle.rip_html.specs.Refusals.{kind_at, own_fault, place_offset, refusal_at}
use Rattle.rip_html.proofs.Choice.{none_both}
use Rattle.rip_html.proofs.Accepting.{Accepted}
use Rattle.rip_html.proofs.Forming.{Lasts}

-- where a token stands behind these
abbrev pub standing_behind : Standing → List Token → Standing
standing_behind s [] = s
standing_behind s (t ∷ ts) = standing_behind (after s t) ts

-- none of these tokens is the last
abbrev pub GoOn : List Token → Type 0
GoOn [] = Unit {0}
GoOn (t ∷ ts) = (is_last t ≡ false) × GoOn ts

pub goes_on : (front : List Token) (t : Token) → GoOn front → is_last t ≡ false → GoOn (front ++ t ∷ [])
goes_on [] t g last = (last, tt)
goes_on (x ∷ front) t g last = (g.0, goes_on front t g.1 last)

pub lasts_behind : (front rest : List Token) → GoOn front → Lasts rest → Lasts (front ++ rest)
lasts_behind [] rest g last = last
lasts_behind (t ∷ front) rest g last =
    subst (λ b. MatchBool b ((front ++ rest) ≡ []) (Lasts (front ++ rest))) (sym g.0) (lasts_behind front rest g.1 last)

-- tokens are accepted exactly where those before a place are, and behind these those from it on
pub accepted_on : (s : Standing) (front rest : List Token) → Accepted s front → Accepted (standing_behind s front) rest → Accepted s (front ++ rest)
accepted_on s [] rest a b = b
accepted_on s (t ∷ front) rest a b = (a.0, accepted_on (after s t) front rest a.1 b)

pub accepted_front : (s : Standing) (front rest : List Token) → Accepted s (front ++ rest) → Accepted s front
accepted_front s [] rest a = tt
accepted_front s (t ∷ front) rest a = (a.0, accepted_front (after s t) front rest a.1)

pub accepted_behind : (s : Standing) (front rest : List Token) → Accepted s (front ++ rest) → Accepted (standing_behind s front) rest
accepted_behind s [] rest a = a
accepted_behind s (t ∷ front) rest a = accepted_behind (after s t) front rest a.1

pub behind_on : (s : Standing) (front rest : List Token) → standing_behind s (front ++ rest) ≡ standing_behind (standing_behind s front) rest
behind_on s [] rest = refl
behind_on s (t ∷ front) rest = behind_on (after s t) front rest

pub all_go_on : (front rest : List Token) → GoOn front → GoOn rest → GoOn (front ++ rest)
all_go_on [] rest g h = h
all_go_on (t ∷ front) rest g h = (g.0, all_go_on front rest g.1 h)

-- what is not refused is not refused for its place
pub no_kind_at : (s : Standing) (t : Token) → refusal_at s t ≡ None → kind_at s.part s.open_names t ≡ None
no_kind_at s t e = (none_both (fault (place_offset t)) (kind_at s.part s.open_names t) (own_fault t) e).0
