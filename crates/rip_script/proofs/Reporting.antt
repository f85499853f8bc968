-- How the lines for a run are written one by one.
use Rattle.std.proofs.Common.{◌≡◌, ℕ, suc, ◌+◌, ◌-◌, ◌<◌, ◌≤◌, List, [], ◌∷◌, ◌++◌, map, Option, sym, ◌∙◌, ap, arith, append_assoc, append-nil}
use Rattle.std.specs.List.{range_with_len}
use Rattle.std.proofs.lemmas.Grind.{flat_map-append}
use Rattle.rip_script.specs.Lines.{line_text, lines_text}
use Rattle.rip_script.proofs.Passing.{Draws, draws_line, holds_more}

-- LINES

-- two words
pub two_words : (o w x : List ℕ) → (((o ++ w) ++ 32 ∷ []) ++ x) ++ 10 ∷ [] ≡ o ++ line_text (w ∷ x ∷ [])
two_words o w x = simp append_assoc

-- four lines
pub four_lines : (o : List ℕ) (a b c d : List (List ℕ)) → (((o ++ line_text a) ++ line_text b) ++ line_text c) ++ line_text d ≡ o ++ lines_text (a ∷ b ∷ c ∷ d ∷ [])
four_lines o a b c d =
    simp append_assoc (ap (λ t. o ++ (line_text a ++ (line_text b ++ (line_text c ++ t)))) (sym (append-nil (line_text d))))

-- some lines that are due are written
pub draws_lines : {whole block : List ℕ} {old now : Option (List ℕ)} (lines due : List (List (List ℕ))) (block' : List ℕ)
    → Draws whole (lines ++ due) block old now → block' ≡ block ++ lines_text lines → Draws whole due block' old now
draws_lines {whole} lines due block' d e = record {
  written = d.written ++ lines_text lines;
  holds = holds_more (lines_text lines) block' d.holds e;
  rest = d.rest ∙ ap (λ t. d.written ++ t) (flat_map-append line_text lines due) ∙ sym (append_assoc d.written (lines_text lines) (lines_text due));
}

-- BINDINGS, of each of which a line is due

pub first_place : {A : Type 0} (f : ℕ → A) (i n : ℕ) → i < n → map f (range_with_len i (n - i)) ≡ f i ∷ map f (range_with_len (i + 1) (n - (i + 1)))
first_place f i n within =
    let more : n - i ≡ suc (n - (i + 1)) = omega arith in
    ap (λ k. map f (range_with_len i k)) more

-- the line of the next place is written
pub draws_place : {whole block : List ℕ} {old now : Option (List ℕ)} (f : ℕ → List (List ℕ)) (i n : ℕ) (block' : List ℕ) → i < n
    → Draws whole (map f (range_with_len i (n - i))) block old now → block' ≡ block ++ line_text (f i)
    → Draws whole (map f (range_with_len (i + 1) (n - (i + 1)))) block' old now
draws_place f i n block' within d e = draws_line (f i) (map f (range_with_len (i + 1) (n - (i + 1)))) (map f (range_with_len i (n - i))) block' d (first_place f i n within) e

-- behind the last place no line is due
pub no_place : {A : Type 0} (f : ℕ → A) (i n : ℕ) → n ≤ i → map f (range_with_len i (n - i)) ≡ []
no_place f i n past =
    let none : n - i ≡ 0 = omega arith in
    ap (λ k. map f (range_with_len i k)) none
