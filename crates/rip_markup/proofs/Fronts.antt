-- Texts that begin with given units, and runs that stop.
use Rattle.std.proofs.Common.{◌≡◌, ℕ, zero, suc, ◌+◌, ◌<◌, ◌≤◌, ◌==◌, Bool, true, false, not, List, [], ◌∷◌, length, take, drop, refl, sym, ap, ◌∙◌, subst, ⊎_elim, arith, length-drop, drop-drop}
use Rattle.std.specs.Prelude.{codes}
use Rattle.std.specs.List.{prefix_len}
use Rattle.std.proofs.lemmas.Bool.{cond-true, cond-false, cond_both, and_parts, false≢true, true≢false}
use Rattle.rip_base.specs.Units.{small_unit, begins}
use Rattle.rip_markup.specs.Units.{is_letter}
use Rattle.rip_markup.specs.Words.{begins_with}
use Rattle.rip_markup.specs.Scans.{behind}
use Rattle.rip_markup.specs.Forms.{begins_small, is_doctype, begins_end_tag, markup_form, form_of, before}
use Rattle.rip_markup.specs.declared.form.Form.{Form}
use Rattle.rip_markup.specs.declared.form.Form.TheVariants as F
use Rattle.rip_markup.proofs.Choice.{chosen}

pub begins_with-none : (front rest : List ℕ) (i : ℕ) → i < length front → length rest < 1 → begins_with (drop i front) rest ≡ false
begins_with-none [] rest i more none = absurd (omega arith)
begins_with-none (c ∷ front) [] zero more none = refl
begins_with-none (c ∷ front) [] (suc i) more none = begins_with-none front [] i (omega arith) none
begins_with-none (c ∷ front) (d ∷ rest) i more none = absurd (omega arith)

pub begins_small-none : (front rest : List ℕ) (i : ℕ) → i < length front → length rest < 1 → begins_small (drop i front) rest ≡ false
begins_small-none [] rest i more none = absurd (omega arith)
begins_small-none (c ∷ front) [] zero more none = refl
begins_small-none (c ∷ front) [] (suc i) more none = begins_small-none front [] i (omega arith) none
begins_small-none (c ∷ front) (d ∷ rest) i more none = absurd (omega arith)

-- a run goes on, or stops
pub before_more : (passes : List ℕ → Bool) (text : List ℕ) → passes text ≡ false → 0 < length text → length (before passes text) ≡ 1 + length (before passes (drop 1 text))
before_more passes [] fails some = absurd (omega arith)
before_more passes (c ∷ rest) fails some = ap length (cond-false (passes (c ∷ rest)) [] (c ∷ before passes rest) fails) ∙ omega arith

pub before_stops : (passes : List ℕ → Bool) (text : List ℕ) → passes text ≡ true → length (before passes text) ≡ 0
before_stops passes [] holds = refl
before_stops passes (c ∷ rest) holds = ap length (cond-true (passes (c ∷ rest)) [] (c ∷ before passes rest) holds)

-- the run is what stands in front
pub before_front : (passes : List ℕ → Bool) (text : List ℕ) → take (length (before passes text)) text ≡ before passes text
before_front passes [] = refl
before_front passes (c ∷ rest) = front_by (passes (c ∷ rest)) refl (before_front passes rest)
  where
    front_by : (b : Bool) → passes (c ∷ rest) ≡ b → take (length (before passes rest)) rest ≡ before passes rest → take (length (before passes (c ∷ rest))) (c ∷ rest) ≡ before passes (c ∷ rest)
    front_by true holds below = ap (λ u. take (length u) (c ∷ rest)) (cond-true (passes (c ∷ rest)) [] (c ∷ before passes rest) holds) ∙ sym (cond-true (passes (c ∷ rest)) [] (c ∷ before passes rest) holds)
    front_by false fails below =
        let e = cond-false (passes (c ∷ rest)) [] (c ∷ before passes rest) fails in
        ap (λ u. take (length u) (c ∷ rest)) e ∙ ap (λ u. c ∷ u) below ∙ sym e

-- what the form of a markup says of the units behind its `<`
abbrev pub Fact : Form → List ℕ → Type 0
Fact F.StartTag rest = begins is_letter rest ≡ true
Fact F.EndTag rest = begins_end_tag rest ≡ true
Fact F.Comment rest = begins_with (codes "!--") rest ≡ true
Fact F.Doctype rest = is_doctype rest ≡ true
Fact _ rest = Unit {0}

markup_fact : (rest : List ℕ) → Fact (markup_form rest) rest
markup_fact rest =
    let P : Form → Type 0 = λ f. Fact f rest in
    cond_both (begins is_letter rest) F.StartTag _ P (λ e. e)
    (λ _. cond_both (begins_end_tag rest) F.EndTag _ P (λ e. e)
    (λ _. cond_both (begins_with (codes "!--") rest) F.Comment _ P (λ e. e)
    (λ _. cond_both (is_doctype rest) F.Doctype F.Stray P (λ e. e) (λ _. tt))))

abbrev pub is_markup : Form → Bool
is_markup F.End = false
is_markup F.Text = false
is_markup _ = true

-- a form that is markup stands behind a `<`
pub form_fact : (form : Form) (text : List ℕ) → is_markup form ≡ true → form ≡ form_of text → (0 < length text) × Fact form (drop 1 text)
form_fact form [] markup e = absurd (true≢false (sym markup ∙ ap is_markup e))
form_fact form (c ∷ rest) markup e =
    ⊎_elim
    (λ less. (omega arith, subst (λ f. Fact f rest) less.1 (markup_fact rest)))
    (λ other. absurd (true≢false (sym markup ∙ ap is_markup (sym other.1))))
    (chosen (c == 60) (markup_form rest) F.Text form (sym e))

-- a text that begins with given units is no shorter
begins_with-length : (front text : List ℕ) → begins_with front text ≡ true → length front ≤ length text
begins_with-length [] text b = omega arith
begins_with-length (c ∷ front) [] b = absurd (false≢true b)
begins_with-length (c ∷ front) (d ∷ text) b = let below = begins_with-length front text (and_parts (d == c) _ b).1 in omega arith

begins_small-length : (front text : List ℕ) → begins_small front text ≡ true → length front ≤ length text
begins_small-length [] text b = omega arith
begins_small-length (c ∷ front) [] b = absurd (false≢true b)
begins_small-length (c ∷ front) (d ∷ text) b = let below = begins_small-length front text (and_parts (small_unit d == c) _ b).1 in omega arith

begins-length : (p : ℕ → Bool) (text : List ℕ) → begins p text ≡ true → 0 < length text
begins-length p [] b = absurd (false≢true b)
begins-length p (c ∷ text) b = omega arith

pub start_form : (text : List ℕ) → F.StartTag ≡ form_of text → (0 < length text) × (begins is_letter (drop 1 text) ≡ true)
start_form text e = let f = form_fact F.StartTag text refl e in (f.0, f.1)

pub end_form : (text : List ℕ) → F.EndTag ≡ form_of text → 2 ≤ length text
end_form text e =
    let f = form_fact F.EndTag text refl e in
    omega (arith, f.0, length-drop 1 text, tag_long (drop 1 text) f.1)
  where
    tag_long : (rest : List ℕ) → begins_end_tag rest ≡ true → 0 < length rest
    tag_long [] b = absurd (false≢true b)
    tag_long (c ∷ rest) b = omega arith

pub comment_form : (text : List ℕ) → F.Comment ≡ form_of text → 4 ≤ length text
comment_form text e =
    let f = form_fact F.Comment text refl e in
    omega (arith, f.0, length-drop 1 text, begins_with-length (codes "!--") (drop 1 text) f.1)

pub doctype_form : (text : List ℕ) → F.Doctype ≡ form_of text → (9 ≤ length text) × (prefix_len (λ c. not (c == 62)) (drop 9 text) + 10 ≤ length text)
doctype_form text e =
    let f = form_fact F.Doctype text refl e in
    let parts = and_parts (begins_small (codes "!doctype") (drop 1 text)) _ f.1 in
    let long = begins_small-length (codes "!doctype") (drop 1 text) parts.0 in
    let inside : drop 8 (drop 1 text) ≡ drop 9 text = drop-drop 8 1 text in
    let closed = begins-length (λ c. c == 62) (behind (λ c. not (c == 62)) (drop 8 (drop 1 text))) parts.1 in
    let other : ℕ → Bool = λ c. not (c == 62) in
    let left = length-drop (prefix_len other (drop 8 (drop 1 text))) (drop 8 (drop 1 text)) in
    let same = ap (prefix_len other) inside in
    (omega (arith, f.0, length-drop 1 text, long), omega (arith, f.0, length-drop 1 text, long, closed, left, same, length-drop 8 (drop 1 text)))

pub markup_is : (rest : List ℕ) → is_markup (markup_form rest) ≡ true
markup_is rest =
    let P : Form → Type 0 = λ f. is_markup f ≡ true in
    cond_both (begins is_letter rest) F.StartTag _ P (λ _. refl)
    (λ _. cond_both (begins_end_tag rest) F.EndTag _ P (λ _. refl)
    (λ _. cond_both (begins_with (codes "!--") rest) F.Comment _ P (λ _. refl)
    (λ _. cond_both (is_doctype rest) F.Doctype F.Stray P (λ _. refl) (λ _. refl))))
