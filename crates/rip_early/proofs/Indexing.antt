-- What one name more leaves of an index of names.
use Rattle.std.proofs.Common.{◌≡◌, ℕ, List, [], ◌∷◌, ◌++◌, length, Option, Some, None, Bool, true, false, cond, refl, sym, ap, ◌∙◌}
use Rattle.std.specs.Option.{option_or}
use Rattle.std.specs.Str.{bytes_eq}
use Rattle.std.proofs.lemmas.Slice.Eq.{bytes_eq-Decides}
use Rattle.rip_early.specs.Names.{Name, place_in}
use Rattle.rip_early.proofs.Positions.{position-push}

pick : (b : Bool) (place : ℕ) (old found : Option ℕ) → old ≡ found → (b ≡ true → found ≡ None) → cond b (Some place) old ≡ option_or found (cond b (Some place) None)
pick true place old found same absent = sym (ap (λ o. option_or o (Some place)) (absent refl))
pick false place old None same absent = same
pick false place old (Some i) same absent = same

-- a name is found among the names with one more, which was none of them, where it is the new one or was found before
pub found-behind : (names : List Name) (name q : Name) (place : ℕ) (old : Option ℕ) → place_in names name ≡ None → place ≡ length names → old ≡ place_in names q
    → cond (bytes_eq name q) (Some place) old ≡ place_in (names ++ name ∷ []) q
found-behind names name q place old absent behind same =
    pick (bytes_eq name q) place old (place_in names q) same (λ is. ap (place_in names) (sym ((bytes_eq-Decides name q).0 is)) ∙ absent)
    ∙ ap (λ n. option_or (place_in names q) (cond (bytes_eq name q) (Some n) None)) behind
    ∙ sym (position-push (λ other. bytes_eq other q) names name)
