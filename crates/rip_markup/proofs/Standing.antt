-- Attributes: what is found first is one, and one that stands there is found.
use Rattle.std.proofs.Common.{◌≡◌, ℕ, Bool, true, false, not, ◌==◌, List, [], ◌∷◌, ◌++◌, drop, take_while, Option, Some, None, option_map, cond, refl, sym, ap, ◌∙◌, subst, eqb-true, eq-eqb}
use Rattle.std.proofs.lemmas.Bool.{cond-true, cond-false, cond_both, false≢true, not_from_true}
use Rattle.std.proofs.lemmas.Option.{none-some}
use Rattle.rip_base.specs.Units.{begins}
use Rattle.rip_markup.specs.Units.{is_space, is_letter, is_attribute_unit, is_quote, is_unquoted}
use Rattle.rip_markup.specs.Attributes.{Value, Absent, Unquoted, Quoted, value_text, IsValue, Written, attribute_text, IsAttribute, LeadsAttribute}
use Rattle.rip_markup.specs.Scans.{behind, quoted_at, unquoted_at, given_at, value_at, named_at, attribute_at}
use Rattle.rip_markup.proofs.Choice.{mapped}
use Rattle.rip_markup.proofs.Runs.{run_all, run_stops, run_splits, run_is, behind_is, begins-append, run_begins, run_begins_by, begins_not, head_is}
use Rattle.rip_markup.proofs.Classes.{letter_not_space, unquoted_not_quote, letter_attribute}

-- the text begins with this value
record Spells (text : List ℕ) (v : Value) : Type 0 where
  rest : List ℕ
  splits : text ≡ value_text v rest
  fits : IsValue v rest

abbrev Good : List ℕ → Option Value → Type 0
Good text None = Unit {0}
Good text (Some v) = Spells text v

same_unit : (q : ℕ) → (q == q) ≡ true
same_unit q = eq-eqb q q refl

good_quoted : (q : ℕ) (text : List ℕ) → is_quote q ≡ true → Good (61 ∷ q ∷ text) (quoted_at q text)
good_quoted q text quote =
    let other : ℕ → Bool = λ c. not (c == q) in
    cond_both (begins (λ c. c == q) (behind other text)) (Some (Quoted q (take_while other text))) None (Good (61 ∷ q ∷ text))
    (λ found. record {
      rest = drop 1 (behind other text);
      splits = ap (λ u. 61 ∷ q ∷ u) (run_splits other text ∙ ap (λ u. take_while other text ++ u) (head_is q (behind other text) found));
      fits = (quote, run_all other text);
    })
    (λ none. tt)

good_unquoted : (text : List ℕ) → Good (61 ∷ text) (unquoted_at text)
good_unquoted text =
    cond_both (begins is_unquoted text) (Some (Unquoted (take_while is_unquoted text))) None (Good (61 ∷ text))
    (λ found. record {
      rest = behind is_unquoted text;
      splits = ap (λ u. 61 ∷ u) (run_splits is_unquoted text);
      fits = (run_begins is_unquoted text found, run_all is_unquoted text, run_stops is_unquoted text);
    })
    (λ none. tt)

good_given : (text : List ℕ) → Good (61 ∷ text) (given_at text)
good_given [] = tt
good_given (q ∷ rest) = cond_both (is_quote q) (quoted_at q rest) (unquoted_at (q ∷ rest)) (Good (61 ∷ q ∷ rest)) (λ quote. good_quoted q rest quote) (λ other. good_unquoted (q ∷ rest))

good_value : (text : List ℕ) → Good text (value_at text)
good_value [] = record { rest = []; splits = refl; fits = refl }
good_value (c ∷ rest) =
    cond_both (c == 61) (given_at rest) (Some Absent) (Good (c ∷ rest))
    (λ equals. subst (λ d. Good (d ∷ rest) (given_at rest)) (sym (eqb-true c 61 equals)) (good_given rest))
    (λ other. record { rest = c ∷ rest; splits = refl; fits = other })

-- a value that stands there is found
value_seen : (v : Value) (rest : List ℕ) → IsValue v rest → value_at (value_text v rest) ≡ Some v
value_seen Absent [] fits = refl
value_seen Absent (c ∷ rest) fits = cond-false _ _ _ fits
value_seen (Unquoted []) rest fits = absurd (false≢true fits.0)
value_seen (Unquoted (u ∷ units)) rest fits =
    cond-false _ _ _ (unquoted_not_quote u fits.0) ∙ cond-true _ _ _ fits.0 ∙ ap (λ us. Some (Unquoted us)) (run_is is_unquoted (u ∷ units) rest fits.1 fits.2)
value_seen (Quoted q units) rest fits =
    let other : ℕ → Bool = λ c. not (c == q) in
    let stops : begins other (q ∷ rest) ≡ false = not_from_true _ (same_unit q) in
    cond-true _ _ _ fits.0
    ∙ cond-true _ _ _ (ap (λ u. begins (λ c. c == q) u) (behind_is other units (q ∷ rest) fits.1 stops) ∙ same_unit q)
    ∙ ap (λ us. Some (Quoted q us)) (run_is other units (q ∷ rest) fits.1 stops)

-- an attribute that stands there is found
pub attribute_seen : (a : Written) (rest : List ℕ) → IsAttribute a rest → attribute_at (attribute_text a rest) ≡ Some a
attribute_seen a rest fits =
    let after = value_text a.value rest in
    let named : begins is_letter (a.name ++ after) ≡ true = begins-append is_letter a.name after fits.letter in
    let stops : begins is_space (a.name ++ after) ≡ false = begins_not is_space is_letter (a.name ++ after) letter_not_space named in
    let behind-space : behind is_space (attribute_text a rest) ≡ a.name ++ after = behind_is is_space a.space (a.name ++ after) fits.space stops in
    let behind-name : behind is_attribute_unit (a.name ++ after) ≡ after = behind_is is_attribute_unit a.name after fits.name fits.longest in
    cond-true _ _ _ (begins-append is_space a.space (a.name ++ after) fits.spaced)
    ∙ ap (λ s. named_at s (behind is_space (attribute_text a rest))) (run_is is_space a.space (a.name ++ after) fits.space stops)
    ∙ ap (λ u. named_at a.space u) behind-space
    ∙ cond-true _ _ _ named
    ∙ ap (λ n. option_map (λ v. record { space = a.space; name = n; value = v }) (value_at (behind is_attribute_unit (a.name ++ after)))) (run_is is_attribute_unit a.name after fits.name fits.longest)
    ∙ ap (λ u. option_map (λ v. record { space = a.space; name = a.name; value = v }) (value_at u)) behind-name
    ∙ ap (λ o. option_map (λ v. record { space = a.space; name = a.name; value = v }) o) (value_seen a.value rest fits.value)

-- what is found is an attribute that stands there
pub attribute_stands : (text : List ℕ) (a : Written) → attribute_at text ≡ Some a → (rest : List ℕ) × LeadsAttribute text a rest
attribute_stands text a found =
    let spaced = some_first _ _ _ found in
    let rest = behind is_space text in
    let letter = some_first _ _ _ spaced.1 in
    let after = behind is_attribute_unit rest in
    let m = mapped _ _ _ letter.1 in
    let good : Spells after m.0 = subst (Good after) m.1 (good_value after) in
    let written = m.2 in
    let text-is : text ≡ take_while is_space text ++ (take_while is_attribute_unit rest ++ value_text m.0 good.rest) =
    run_splits is_space text ∙ ap (λ u. take_while is_space text ++ u) (run_splits is_attribute_unit rest ∙ ap (λ u. take_while is_attribute_unit rest ++ u) good.splits) in
    subst (λ (x : Written). (rest : List ℕ) × LeadsAttribute text x rest) (sym written) (
      good.rest,
      (
        text-is,
        record {
          spaced = run_begins is_space text spaced.0;
          space = run_all is_space text;
          letter = run_begins_by is_attribute_unit is_letter rest letter_attribute letter.0;
          name = run_all is_attribute_unit rest;
          longest = ap (begins is_attribute_unit) (sym good.splits) ∙ run_stops is_attribute_unit rest;
          value = good.fits;
        },
      ),
    )
  where
    some_first : {A : Type 0} (b : Bool) (o : Option A) (x : A) → cond b o None ≡ Some x → (b ≡ true) × (o ≡ Some x)
    some_first true o x e = (refl, e)
    some_first false o x e = absurd (none-some x e)

-- where none is found, none stands
pub none_stands : (text : List ℕ) → attribute_at text ≡ None → (a : Written) (more : List ℕ) → LeadsAttribute text a more → ⊥
none_stands text none a more leads =
    none-some a (sym none ∙ ap attribute_at leads.0 ∙ attribute_seen a more leads.1)
