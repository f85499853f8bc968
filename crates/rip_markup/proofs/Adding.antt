-- One name more.
use Rattle.std.proofs.Common.{◌≡◌, ℕ, Bool, true, false, not, cond, ◌||◌, List, [], ◌∷◌, ◌++◌, bytes_eq, refl, sym, ap, ◌∙◌}
use Rattle.std.proofs.lemmas.Bool.Decides.{same_from_decides}
use Rattle.std.proofs.lemmas.Slice.Eq.{bytes_eq-Decides}
use Rattle.std.proofs.lemmas.List.Folds.{list_any-append}
use Rattle.rip_markup.specs.Words.{is_among}

pub not-not : (b : Bool) → not (not b) ≡ b
not-not true = refl
not-not false = refl

bytes_eq-comm : (x y : List ℕ) → bytes_eq x y ≡ bytes_eq y x
bytes_eq-comm x y =
    let d = bytes_eq-Decides y x in
    same_from_decides (bytes_eq x y) (bytes_eq y x) (bytes_eq-Decides x y) (λ e. sym (d.0 e), λ e. d.1 (sym e))

by_cases : (b old : Bool) → cond b true old ≡ (old || (b || false))
by_cases true true = refl
by_cases true false = refl
by_cases false true = refl
by_cases false false = refl

pub knows_more : (names : List (List ℕ)) (key q : List ℕ) (now old : Bool) → now ≡ cond (bytes_eq key q) true old → old ≡ is_among names q → now ≡ is_among (names ++ key ∷ []) q
knows_more names key q now old is was =
    is ∙ by_cases (bytes_eq key q) old ∙ ap (λ b. old || (b || false)) (bytes_eq-comm key q) ∙ ap (λ b. b || (bytes_eq q key || false)) was ∙ sym (list_any-append (bytes_eq q) names (key ∷ []))
