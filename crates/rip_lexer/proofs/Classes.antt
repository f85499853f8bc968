-- What the class of a unit tells of it.
use Rattle.std.proofs.Common.{◌≡◌, ℕ, Bool, true, false, ◌==◌, List, [], ◌∷◌, codes, ◌⊎◌, inl, inr, ⊎_elim, refl, ap, ◌∙◌, eqb-true, ne_eqb}
use Rattle.std.specs.List.{list_all}
use Rattle.std.proofs.lemmas.Bool.{and_parts, or_cases, false≢true}
use Rattle.rip_base.specs.Units.{is_one_of, is_hex_digit}
use Rattle.rip_lexer.specs.Units.{class_of, is_digit_class, is_name_start_class, is_line_end_class, is_quote_class, is_mark_class}
use Rattle.rip_lexer.specs.declared.units.UnitClass.{UnitClass}
use Rattle.rip_lexer.specs.declared.units.UnitClass.TheVariants.{NameStart, Digit, LineEnd, White, Quote, Mark, Other}
use Rattle.rip_lexer.proofs.Choice.{not_first, chosen}

pub class_from_digit : (k : UnitClass) → is_digit_class k ≡ true → k ≡ Digit
class_from_digit Digit e = refl
class_from_digit _ e = absurd (false≢true e)

pub class_from_name_start : (k : UnitClass) → is_name_start_class k ≡ true → k ≡ NameStart
class_from_name_start NameStart e = refl
class_from_name_start _ e = absurd (false≢true e)

pub class_from_line_end : (k : UnitClass) → is_line_end_class k ≡ true → k ≡ LineEnd
class_from_line_end LineEnd e = refl
class_from_line_end _ e = absurd (false≢true e)

pub class_from_quote : (k : UnitClass) → is_quote_class k ≡ true → k ≡ Quote
class_from_quote Quote e = refl
class_from_quote _ e = absurd (false≢true e)

pub class_from_mark : (k : UnitClass) → is_mark_class k ≡ true → k ≡ Mark
class_from_mark Mark e = refl
class_from_mark _ e = absurd (false≢true e)

one_of_two : (c a b : ℕ) → is_one_of (a ∷ b ∷ []) c ≡ true → (c ≡ a) ⊎ (c ≡ b)
one_of_two c a b one =
    ⊎_elim (λ first. inl (eqb-true c a first)) (λ rest. ⊎_elim (λ second. inr (eqb-true c b second)) (λ none. absurd (false≢true none)) (or_cases (c == b) false rest)) (or_cases (c == a) _ one)

-- a quote is `"` or `'`
pub quote_is : (c : ℕ) → class_of c ≡ Quote → (c ≡ 34) ⊎ (c ≡ 39)
unfolding class_of
quote_is c e =
    let a = not_first _ NameStart _ Quote e (λ x. false≢true (ap is_quote_class x)) in
    let b = not_first _ Digit _ Quote a.1 (λ x. false≢true (ap is_quote_class x)) in
    let d = not_first _ LineEnd _ Quote b.1 (λ x. false≢true (ap is_quote_class x)) in
    let f = not_first _ White _ Quote d.1 (λ x. false≢true (ap is_quote_class x)) in
    ⊎_elim
    (λ quote. one_of_two c 34 39 quote.0)
    (λ other. absurd (let g = not_first _ Mark Other Quote other.1 (λ x. false≢true (ap is_quote_class x)) in false≢true (ap is_quote_class g.1)))
    (chosen _ Quote _ Quote f.1)

-- the units that begin a punctuator
abbrev pub marks : List ℕ
marks = codes "!%&()*+,-./:;<=>?[]^{|}~"

pub mark_is : (c : ℕ) → class_of c ≡ Mark → is_one_of marks c ≡ true
unfolding class_of
mark_is c e =
    let a = not_first _ NameStart _ Mark e (λ x. false≢true (ap is_mark_class x)) in
    let b = not_first _ Digit _ Mark a.1 (λ x. false≢true (ap is_mark_class x)) in
    let d = not_first _ LineEnd _ Mark b.1 (λ x. false≢true (ap is_mark_class x)) in
    let f = not_first _ White _ Mark d.1 (λ x. false≢true (ap is_mark_class x)) in
    let g = not_first _ Quote _ Mark f.1 (λ x. false≢true (ap is_mark_class x)) in
    ⊎_elim (λ mark. mark.0) (λ other. absurd (false≢true (ap is_mark_class other.1))) (chosen _ Mark Other Mark g.1)

-- what holds of each of some units holds of one of them
pub one_of_all : (units : List ℕ) (p : ℕ → Bool) (c : ℕ) → is_one_of units c ≡ true → list_all p units ≡ true → p c ≡ true
one_of_all [] p c one all = absurd (false≢true one)
one_of_all (u ∷ units) p c one all =
    let parts = and_parts (p u) _ all in
    ⊎_elim (λ here. ap p (eqb-true c u here) ∙ parts.0) (λ later. one_of_all units p c later parts.1) (or_cases (c == u) _ one)

pub backslash_class : class_of 92 ≡ Other
unfolding class_of
backslash_class = refl

pub slash_class : class_of 47 ≡ Mark
unfolding class_of
slash_class = refl

pub zero_class : class_of 48 ≡ Digit
unfolding class_of
zero_class = refl

pub small_x_class : class_of 120 ≡ NameStart
unfolding class_of
small_x_class = refl

pub small_u_class : class_of 117 ≡ NameStart
unfolding class_of
small_u_class = refl

pub return_class : class_of 13 ≡ LineEnd
unfolding class_of
return_class = refl

-- units of two classes differ
pub differs : (c d : ℕ) → (class_of c ≡ class_of d → ⊥) → (c == d) ≡ false
differs c d apart = ne_eqb c d (λ same. apart (ap class_of same))

pub backslash_not_hex : is_hex_digit 92 ≡ false
unfolding is_hex_digit
backslash_not_hex = refl

pub quote_not_hex : (c : ℕ) → class_of c ≡ Quote → is_hex_digit c ≡ false
unfolding is_hex_digit
quote_not_hex c quote = ⊎_elim (λ double. ap is_hex_digit double ∙ refl) (λ single. ap is_hex_digit single ∙ refl) (quote_is c quote)
