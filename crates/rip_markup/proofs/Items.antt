-- Texts with references as items.
use Rattle.std.proofs.Common.{◌≡◌, ℕ, subst, suc, ◌+◌, ◌==◌, ◌&&◌, ◌||◌, true, false, List, [], ◌∷◌, ◌++◌, length, drop, take_while, Option, Some, None, IsSome, option_map, is_some, unwrap_or, refl, sym, ap, ◌∙◌, ⊎_elim, arith, append_assoc, append-nil, length-append, zero, ◌≤◌, eqb-true}
use Rattle.std.specs.Option.{option_map_or}
use Rattle.std.specs.List.{list_all, prefix_len, flat_map}
use Rattle.std.specs.Char.Escape.{encode_utf16}
use Rattle.std.proofs.lemmas.Bool.{cond-true, cond-false, and_parts, and_from, or_left, or_cases, or_right, false≢true, cases_Bool}
use Rattle.std.proofs.lemmas.Option.{none-some}
use Rattle.rip_base.specs.Units.{begins}
use Rattle.rip_markup.specs.Units.{is_letter, is_digit}
use Rattle.rip_markup.specs.References.{code_of, is_reference_unit, starts_reference, is_reference, Item, Plain, Referring, item_units, items_text, AreItems, IsBadReference, IsRead}
use Rattle.rip_markup.specs.Scans.{behind}
use Rattle.rip_markup.specs.Steps.{reference_at, step_at, first_step, decoded, bad_reference}
use Rattle.rip_markup.specs.declared.reference.Reference.{Reference}
use Rattle.rip_markup.specs.declared.reference.TextStep.TheVariants as Step
use Rattle.rip_markup.proofs.Choice.{mapped, chosen}
use Rattle.rip_markup.proofs.Runs.{run_all, run_len, run_is, run_splits, run_begins_by, behind_is, head_is, begins-append}
use Rattle.rip_markup.proofs.Decoding.{at_bad, at_unit, at_reference}

semicolon_stops : is_reference_unit 59 ≡ false
unfolding is_letter is_digit
semicolon_stops = refl

starts_is_unit : (c : ℕ) → starts_reference c ≡ true → is_reference_unit c ≡ true
starts_is_unit c e =
    ⊎_elim (λ letter. or_left (is_letter c || is_digit c) (c == 35) (or_left (is_letter c) (is_digit c) letter)) (λ hash. or_right (is_letter c || is_digit c) (c == 35) hash) (or_cases (is_letter c) (c == 35) e)

-- a reference that stands there is found
reference_seen : (body rest : List ℕ) (code : ℕ) → is_reference body ≡ true → code_of body ≡ Some code → reference_at (body ++ (59 ∷ rest)) ≡ Some (record { code = code; count = length body + 1 })
reference_seen body rest code is names =
    let parts = and_parts (begins starts_reference body) (list_all is_reference_unit body) is in
    let text = body ++ (59 ∷ rest) in
    let count = run_len is_reference_unit body (59 ∷ rest) parts.1 semicolon_stops in
    let back = behind_is is_reference_unit body (59 ∷ rest) parts.1 semicolon_stops in
    let front = run_is is_reference_unit body (59 ∷ rest) parts.1 semicolon_stops in
    cond-true _ _ _ (ap (begins (λ c. c == 59)) back)
    ∙ ap (λ n. option_map (λ k. record { code = k; count = n + 1 }) (code_of (take_while is_reference_unit text))) count
    ∙ ap (λ u. option_map (λ k. record { code = k; count = length body + 1 }) (code_of u)) front
    ∙ ap (λ o. option_map (λ k. record { code = k; count = length body + 1 }) o) names

some_is : {A : Type 0} (o : Option A) → IsSome o → (x : A) × (o ≡ Some x)
some_is None h = absurd (false≢true h)
some_is (Some x) h = (x, refl)

-- a step, by the item that stands there
plain_step : (c : ℕ) (rest : List ℕ) → ((c == 38) && begins starts_reference rest) ≡ false → Step.Itself c ≡ step_at c rest
plain_step c rest other = sym (cond-false _ _ _ other)

referring_step : (body rest : List ℕ) (code : ℕ) → is_reference body ≡ true → code_of body ≡ Some code → Step.Reference (record { code = code; count = length body + 1 }) ≡ step_at 38 (body ++ (59 ∷ rest))
referring_step body rest code is names =
    let parts = and_parts (begins starts_reference body) (list_all is_reference_unit body) is in
    sym (cond-true _ _ _ (begins-append starts_reference body (59 ∷ rest) parts.0) ∙ ap (λ o. option_map_or (λ (r : Reference). Step.Reference r) o Step.Bad) (reference_seen body rest code is names))

drop_body : (body rest : List ℕ) → drop (length body + 1 + 1) (38 ∷ (body ++ (59 ∷ rest))) ≡ rest
drop_body body rest =
    let two : length body + 1 + 1 ≡ suc (suc (length body)) = omega arith in
    ap (λ n. drop n (38 ∷ (body ++ (59 ∷ rest)))) two ∙ drop_two body rest
  where
    drop_two : (body rest : List ℕ) → drop (suc (suc (length body))) (38 ∷ (body ++ (59 ∷ rest))) ≡ rest
    drop_two [] rest = refl
    drop_two (c ∷ body) rest = drop_two body rest

pub decoded-items : (items : List Item) (rest : List ℕ) → AreItems items rest → decoded 0 (items_text items rest) ≡ flat_map item_units items ++ decoded 0 rest
decoded-items [] rest are = refl
decoded-items (Plain c ∷ items) rest are =
    let tail = items_text items rest in
    (at_unit (c ∷ tail) 0 c (plain_step c tail are.0)).0 ∙ ap (λ u. c ∷ u) (decoded-items items rest are.1)
decoded-items (Referring body ∷ items) rest are =
    let tail = items_text items rest in
    let named = some_is (code_of body) are.0.1 in
    let r : Reference = record { code = named.0; count = length body + 1 } in
    (at_reference (38 ∷ (body ++ (59 ∷ tail))) 0 r (referring_step body tail named.0 are.0.0 named.1)).0
    ∙ ap (λ u. encode_utf16 named.0 ++ decoded 0 u) (drop_body body tail)
    ∙ ap (λ u. encode_utf16 named.0 ++ u) (decoded-items items rest are.1)
    ∙ sym (append_assoc (encode_utf16 named.0) (flat_map item_units items) (decoded 0 rest))
    ∙ ap (λ o. (encode_utf16 (unwrap_or o 0) ++ flat_map item_units items) ++ decoded 0 rest) (sym named.1)

items_text-append : (items : List Item) (rest : List ℕ) → items_text items rest ≡ items_text items [] ++ rest
items_text-append [] rest = refl
items_text-append (Plain c ∷ items) rest = ap (λ u. c ∷ u) (items_text-append items rest)
items_text-append (Referring body ∷ items) rest = ap (λ u. 38 ∷ (body ++ (59 ∷ u))) (items_text-append items rest) ∙ ap (λ u. 38 ∷ u) (sym (append_assoc body (59 ∷ items_text items []) rest))

pub bad-items : (items : List Item) (rest : List ℕ) (place : ℕ) → AreItems items rest → bad_reference place 0 (items_text items rest) ≡ bad_reference (place + length (items_text items [])) 0 rest
bad-items [] rest place are = ap (λ p. bad_reference p 0 rest) (omega arith)
bad-items (Plain c ∷ items) rest place are =
    let tail = items_text items rest in
    (at_unit (c ∷ tail) place c (plain_step c tail are.0)).1 ∙ bad-items items rest (place + 1) are.1 ∙ ap (λ p. bad_reference p 0 rest) (omega arith)
bad-items (Referring body ∷ items) rest place are =
    let tail = items_text items rest in
    let named = some_is (code_of body) are.0.1 in
    let r : Reference = record { code = named.0; count = length body + 1 } in
    (at_reference (38 ∷ (body ++ (59 ∷ tail))) place r (referring_step body tail named.0 are.0.0 named.1)).1
    ∙ ap (λ u. bad_reference (place + (length body + 1 + 1)) 0 u) (drop_body body tail)
    ∙ bad-items items rest (place + (length body + 1 + 1)) are.1
    ∙ ap (λ p. bad_reference p 0 rest) (omega (arith, length-append body (59 ∷ items_text items [])))

-- a reference that is found stands there
reference_stands : (text : List ℕ) (r : Reference) → begins starts_reference text ≡ true → reference_at text ≡ Some r → (body : List ℕ) × (rest : List ℕ) × (text ≡ body ++ (59 ∷ rest)) × (is_reference body ≡ true) × IsSome (code_of body)
reference_stands text r starts found =
    ⊎_elim
    (λ closed.
    let named = mapped (λ code. record { code = code; count = prefix_len is_reference_unit text + 1 }) (code_of (take_while is_reference_unit text)) r closed.1 in (
      take_while is_reference_unit text,
      drop 1 (behind is_reference_unit text),
      run_splits is_reference_unit text ∙ ap (λ u. take_while is_reference_unit text ++ u) (head_is 59 (behind is_reference_unit text) closed.0),
      and_from _ _ (run_begins_by is_reference_unit starts_reference text starts_is_unit starts) (run_all is_reference_unit text),
      ap is_some named.1,
    ))
    (λ open_end. absurd (none-some r open_end.1))
    (chosen (begins (λ c. c == 59) (behind is_reference_unit text)) (option_map (λ code. record { code = code; count = prefix_len is_reference_unit text + 1 }) (code_of (take_while is_reference_unit text))) None (Some r) found)

-- a reference that is none is found to be none
bad_step : (text : List ℕ) → IsBadReference text → Step.Bad ≡ first_step text
bad_step text bad =
    let none : reference_at bad.after ≡ None = no_reference_at (reference_at bad.after) refl in
    sym (ap first_step bad.ampersand ∙ cond-true _ _ _ bad.starts ∙ ap (λ o. option_map_or (λ (r : Reference). Step.Reference r) o Step.Bad) none)
  where
    no_reference_at : (o : Option Reference) → reference_at bad.after ≡ o → reference_at bad.after ≡ None
    no_reference_at None e = e
    no_reference_at (Some r) e = let s = reference_stands bad.after r bad.starts e in absurd (bad.no_reference s.0 s.1 s.2 s.3 s.4)

-- a text that is read so stands for its items
pub items_stand : (text : List ℕ) (items : List Item) (bad : Option ℕ) → IsRead text items bad → (decoded 0 text ≡ flat_map item_units items) × (bad_reference 0 0 text ≡ bad)
items_stand text items None read = (
  ap (decoded 0) read.0 ∙ decoded-items items [] read.1 ∙ append-nil (flat_map item_units items),
  ap (bad_reference 0 0) read.0 ∙ bad-items items [] 0 read.1,
)
items_stand text items (Some place) read =
    let ends = at_bad read.0 (0 + length (items_text items [])) (bad_step read.0 read.3) in (
      ap (decoded 0) read.1 ∙ decoded-items items read.0 read.2 ∙ ap (λ u. flat_map item_units items ++ u) ends.0 ∙ append-nil (flat_map item_units items),
      ap (bad_reference 0 0) read.1 ∙ bad-items items read.0 0 read.2 ∙ ends.1 ∙ ap (λ p. Some p) (omega (arith, read.4)),
    )

-- the text has a reading
abbrev pub Has : List ℕ → Type 0
Has text = (items : List Item) × (bad : Option ℕ) × IsRead text items bad

has_plain : (c : ℕ) (rest : List ℕ) → ((c == 38) && begins starts_reference rest) ≡ false → (items : List Item) (bad : Option ℕ) → IsRead rest items bad → Has (c ∷ rest)
has_plain c rest plain items None read =
    (Plain c ∷ items, None, (ap (λ u. c ∷ u) read.0, (subst (λ u. ((c == 38) && begins starts_reference u) ≡ false) read.0 plain, read.1)))
has_plain c rest plain items (Some place) read =
    (Plain c ∷ items, Some (length (items_text (Plain c ∷ items) [])), (read.0, ap (λ u. c ∷ u) read.1, (subst (λ u. ((c == 38) && begins starts_reference u) ≡ false) read.1 plain, read.2), read.3, refl))

has_referring : (body rest : List ℕ) → is_reference body ≡ true → IsSome (code_of body) → (items : List Item) (bad : Option ℕ) → IsRead rest items bad → Has (38 ∷ (body ++ (59 ∷ rest)))
has_referring body rest is names items None read =
    (Referring body ∷ items, None, (ap (λ u. 38 ∷ (body ++ (59 ∷ u))) read.0, ((is, names), read.1)))
has_referring body rest is names items (Some place) read =
    (Referring body ∷ items, Some (length (items_text (Referring body ∷ items) [])), (read.0, ap (λ u. 38 ∷ (body ++ (59 ∷ u))) read.1, ((is, names), read.2), read.3, refl))

has_mark : (n : ℕ) (rest : List ℕ) → begins starts_reference rest ≡ true → length rest ≤ n → ((shorter : List ℕ) → length shorter ≤ n → Has shorter) → (o : Option Reference) → reference_at rest ≡ o → Has (38 ∷ rest)
has_mark n rest starts small below None none =
    let bad : IsBadReference (38 ∷ rest) = record {
      after = rest;
      ampersand = refl;
      starts = starts;
      no_reference = λ body more splits is names.
          let named = some_is (code_of body) names in
          none-some _ (sym none ∙ ap reference_at splits ∙ reference_seen body more named.0 is named.1);
    } in
    ([], Some 0, (38 ∷ rest, refl, tt, bad, refl))
has_mark n rest starts small below (Some r) found =
    let s = reference_stands rest r starts found in
    let tail = below s.1 (omega (arith, ap length s.2, length-append s.0 (59 ∷ s.1))) in
    subst (λ u. Has (38 ∷ u)) (sym s.2) (has_referring s.0 s.1 s.3 s.4 tail.0 tail.1 tail.2)

has_within : (n : ℕ) (text : List ℕ) → length text ≤ n → Has text
has_within n [] small = ([], None, (refl, tt))
has_within zero (c ∷ rest) small = absurd (omega arith)
has_within (suc n) (c ∷ rest) small =
    ⊎_elim
    (λ marked.
    let parts = and_parts (c == 38) (begins starts_reference rest) marked in
    subst (λ d. Has (d ∷ rest)) (sym (eqb-true c 38 parts.0)) (has_mark n rest parts.1 (omega arith) (λ shorter s. has_within n shorter s) (reference_at rest) refl))
    (λ plain. let tail = has_within n rest (omega arith) in has_plain c rest plain tail.0 tail.1 tail.2)
    (cases_Bool ((c == 38) && begins starts_reference rest))

-- each text has a reading
pub each_has : (text : List ℕ) → Has text
each_has text = has_within (length text) text (omega arith)
