-- Texts that are put behind all others piece by piece.
use Rattle.std.proofs.Common.{◌≡◌, ℕ, zero, suc, ◌+◌, ◌<◌, ◌≤◌, List, [], ◌∷◌, ◌++◌, length, take, get_or, refl, sym, ap, ap₂, ◌∙◌, arith}
use Rattle.std.specs.Prelude.{slice_range}
use Rattle.std.proofs.Math.Seq.{take-append_seam}
use Rattle.std.proofs.lemmas.List.{append_assoc, length-append, length-map}
use Rattle.rip_base.specs.declared.value.Span.{Span}
use Rattle.rip_values.specs.Pool.{Texts, IsSpan, text_at, with_text, span_behind, held as held_span}
use Rattle.rip_values.proofs.FixedLemmas.{range_within}
use Rattle.rip_base.specs.Units.{small_unit, small_text}

-- a span that lay in the old texts stands for the same text where more is behind them
pub stands-still : (old now : Texts) (more : List ℕ) (s : Span) → now.units ≡ old.units ++ more → IsSpan old s → text_at now s ≡ text_at old s
stands-still old now more s e h =
    ap (λ us. slice_range us s.start (s.start + s.count)) e
    ∙ sym (range_within (old.units ++ more) s.start (s.start + s.count) (length old.units) h)
    ∙ ap (λ us. slice_range us s.start (s.start + s.count)) (take-append_seam old.units more)

pub take-none : (xs : List ℕ) → take 0 xs ≡ []
take-none [] = refl
take-none (x ∷ xs) = refl

pub take-one : (xs : List ℕ) (i : ℕ) → i < length xs → take (suc i) xs ≡ take i xs ++ get_or xs i 0 ∷ []
take-one [] i h = let l : i < 0 = h in absurd (omega (arith, l))
take-one (x ∷ xs) zero h = ap (λ l. x ∷ l) (take-none xs)
take-one (x ∷ xs) (suc i) h =
    let l : suc i < suc (length xs) = h in
    let g : i < length xs = omega (arith, l) in
    ap (λ l. x ∷ l) (take-one xs i g)

pub take-all : (xs : List ℕ) (i : ℕ) → length xs ≤ i → take i xs ≡ xs
take-all [] zero h = refl
take-all [] (suc i) h = refl
take-all (x ∷ xs) zero h = let l : suc (length xs) ≤ 0 = h in absurd (omega (arith, l))
take-all (x ∷ xs) (suc i) h =
    let l : suc (length xs) ≤ suc i = h in
    let g : length xs ≤ i = omega (arith, l) in
    ap (λ l. x ∷ l) (take-all xs i g)

abbrev pub texts : List ℕ → ℕ → ℕ → ℕ → Texts
texts units used limit text_limit = record { units = units; used = used; limit = limit; text_limit = text_limit }

pub same-texts : (now : Texts) (units : List ℕ) (used limit text_limit : ℕ) → now.units ≡ units → now.used ≡ used → now.limit ≡ limit → now.text_limit ≡ text_limit → now ≡ texts units used limit text_limit
same-texts now units used limit text_limit e f g h = ap₂ (λ us n. texts us n now.limit now.text_limit) e f ∙ ap₂ (texts units used) g h
