-- Spellings in a table, and their words.
use Rattle.std.proofs.Common.{◌≡◌, ℕ, Bool, true, false, not, ◌==◌, ◌||◌, cond, List, [], ◌∷◌, length, bytes_eq, refl, sym, ap, ◌∙◌, ◌&&◌, ◌≤◌, nat_le, leb-true, eq-eqb, ⊎_elim}
use Rattle.std.specs.List.{list_all}
use Rattle.std.proofs.lemmas.Bool.{and_parts, or_cases, false≢true, both_ways, false_from_ne_true}
use Rattle.std.specs.Cmp.Lexicographic.{as_long, bytes_decides}
use Rattle.rip_grammar.specs.declared.word.Word.{Word}
use Rattle.rip_grammar.specs.declared.word.Word.TheVariants as W
use Rattle.rip_grammar.specs.Words.{is_name}
use Rattle.rip_lexer.specs.Words.{Entry, is_among, look_up, reserved_words}
use Rattle.rip_lexer.specs.View.{of_length}

-- a spelling of another length is not the same
other_length : (s w : List ℕ) (n : ℕ) → length s ≡ n → (length w == n) ≡ false → bytes_eq s w ≡ false
other_length s w n long other = by (bytes_eq s w) refl
  where
    by : (b : Bool) → bytes_eq s w ≡ b → b ≡ false
    by true same = absurd (both_ways (length w == n) other (eq-eqb (length w) n (sym (as_long _ s w same) ∙ long)))
    by false same = refl

-- a spelling is looked up among those of its length alone
pub look_up-of_length : (other : Word) (entries : List Entry) (s : List ℕ) (n : ℕ) → length s ≡ n → look_up other (of_length n entries) s ≡ look_up other entries s
look_up-of_length other [] s n long = refl
look_up-of_length other (e ∷ entries) s n long = by (length e.spelling == n) refl (look_up-of_length other entries s n long)
  where
    by : (b : Bool) → (length e.spelling == n) ≡ b → look_up other (of_length n entries) s ≡ look_up other entries s
        → look_up other (cond b (e ∷ of_length n entries) (of_length n entries)) s ≡ cond (bytes_eq s e.spelling) e.word (look_up other entries s)
    by true long-too below = ap (λ w. cond (bytes_eq s e.spelling) e.word w) below
    by false apart below = below ∙ sym (ap (λ b. cond b e.word (look_up other entries s)) (other_length s e.spelling n long apart))

-- what holds of each spelling holds of one among them
pub among_all : (entries : List Entry) (p : List ℕ → Bool) (s : List ℕ) → is_among entries s ≡ true → list_all (λ (e : Entry). p e.spelling) entries ≡ true → p s ≡ true
among_all [] p s among all = absurd (false≢true among)
among_all (e ∷ entries) p s among all =
    let parts = and_parts (p e.spelling) _ all in
    ⊎_elim (λ here. ap p ((bytes_decides s e.spelling).0 here) ∙ parts.0) (λ later. among_all entries p s later parts.1) (or_cases (bytes_eq s e.spelling) _ among)

-- a spelling that is not in a table has the other word
pub look_up-none : (other : Word) (entries : List Entry) (s : List ℕ) → is_among entries s ≡ false → look_up other entries s ≡ other
look_up-none other [] s none = refl
look_up-none other (e ∷ entries) s none = by (bytes_eq s e.spelling) none (look_up-none other entries s)
  where
    by : (b : Bool) → (b || is_among entries s) ≡ false → (is_among entries s ≡ false → look_up other entries s ≡ other) → cond b e.word (look_up other entries s) ≡ other
    by true none below = absurd (false≢true (sym none))
    by false none below = below none

-- a spelling that is in a table has its word, whatever the other one is
pub look_up-some : (other another : Word) (entries : List Entry) (s : List ℕ) → is_among entries s ≡ true → look_up other entries s ≡ look_up another entries s
look_up-some other another [] s among = absurd (false≢true among)
look_up-some other another (e ∷ entries) s among = by (bytes_eq s e.spelling) among (look_up-some other another entries s)
  where
    by : (b : Bool) → (b || is_among entries s) ≡ true → (is_among entries s ≡ true → look_up other entries s ≡ look_up another entries s)
        → cond b e.word (look_up other entries s) ≡ cond b e.word (look_up another entries s)
    by true among below = refl
    by false among below = below among

-- in a table without the word of names, a spelling has this word where it has no other
named : (entries : List Entry) (s : List ℕ) → list_all (λ (e : Entry). not (is_name e.word)) entries ≡ true → is_name (look_up W.Name entries s) ≡ not (is_among entries s)
named [] s all = refl
named (e ∷ entries) s all = let parts = and_parts (not (is_name e.word)) _ all in by (bytes_eq s e.spelling) parts.0 (named entries s parts.1)
  where
    opposite : (b : Bool) → not b ≡ true → b ≡ false
    opposite true is = sym is
    opposite false is = refl

    by : (b : Bool) → not (is_name e.word) ≡ true → is_name (look_up W.Name entries s) ≡ not (is_among entries s) → is_name (cond b e.word (look_up W.Name entries s)) ≡ not (b || is_among entries s)
    by true here below = opposite (is_name e.word) here
    by false here below = below

-- a name is no reserved word, and the other way round
pub reserved_named : (s : List ℕ) → is_name (look_up W.Name reserved_words s) ≡ not (is_among reserved_words s)
unfolding reserved_words
reserved_named s = named reserved_words s refl

abbrev is_usual : List ℕ → Bool
is_usual s = nat_le 2 (length s) && nat_le (length s) 10

-- a reserved word has from two to ten units
not_reserved : (s : List ℕ) → (2 ≤ length s → length s ≤ 10 → ⊥) → is_among reserved_words s ≡ false
unfolding reserved_words
not_reserved s other = false_from_ne_true _ (λ among.
    let fits = among_all reserved_words is_usual s among refl in
    let parts = and_parts (nat_le 2 (length s)) (nat_le (length s) 10) fits in
    other (leb-true 2 (length s) parts.0) (leb-true (length s) 10 parts.1))

pub look_up-not_reserved : (s : List ℕ) → (2 ≤ length s → length s ≤ 10 → ⊥) → look_up W.Name reserved_words s ≡ W.Name
look_up-not_reserved s other = look_up-none W.Name reserved_words s (not_reserved s other)
