-- What a pool keeps when a text is added, and where the fixed texts stand in it.
use Rattle.std.proofs.Common.{◌≡◌, ℕ, ◌+◌, ◌-◌, ◌^◌, ◌<◌, ◌≤◌, Some, List, ◌++◌, length, sym, ap, ◌∙◌, subst, arith, length-append, append_assoc, min, take, drop}
use Rattle.std.specs.Prelude.{slice_range}
use Rattle.std.proofs.lemmas.List.{length-take, length-take-le, length-drop, take-append-drop, take-append-le}
use Rattle.std.proofs.Math.Seq.{take-length, take-append_seam, drop-append_seam}
use Rattle.std.proofs.lemmas.Grind.{common_steps}
use Rattle.rip_base.specs.declared.value.Span.{Span}
use Rattle.rip_values.specs.declared.fixed.FixedText.{FixedText}
use Rattle.rip_values.specs.FixedTable.{text_of, fixed_size, start_of}
use Rattle.rip_values.specs.FixedTexts.{fixed_units, fixed_span}
use Rattle.rip_values.specs.Pool.{Texts, text_at, IsSpan, IsPool}
use Rattle.rip_values.proofs.FixedTableLemmas.{fixed_span-text_of, length-fixed_units}
use Rattle.rip_values.proofs.FixedLemmas.{fixed_stands, fixed_within, range_within}

-- the fixed texts are there
pub fixed_length : (units : List ℕ) → take fixed_size units ≡ fixed_units → fixed_size ≤ length units
fixed_length units h = omega (arith, length-take fixed_size units, ap length h, length-fixed_units)

-- a text more at the end leaves what a pool keeps, where there is room
pub IsPool-more : (units text more : List ℕ) (used limit capacity : ℕ) → more ≡ units ++ text → take fixed_size units ≡ fixed_units → used ≤ limit
    → length units + length text + (limit - used) ≤ capacity → length units + length text + (limit - used) < 2 ^ 32 → IsPool more used limit capacity
IsPool-more units text more used limit capacity is begins within room spans =
    let longer : length more ≡ length units + length text = ap length is ∙ length-append units text in
    record {
      begins = ap (take fixed_size) is ∙ take-append-le fixed_size units text (fixed_length units begins) ∙ begins;
      within = within;
      room = omega (arith, longer);
      spans = omega (arith, longer);
    }

-- the first units alone leave what a pool keeps, where the fixed texts are among them, and no charge is taken back without
-- its text
pub IsPool-cut : (units more : List ℕ) (end used before limit capacity : ℕ) → more ≡ take end units → IsPool units before limit capacity → length fixed_units ≤ end → end ≤ length units → used ≤ before
    → before + end ≤ used + length units → IsPool more used limit capacity
IsPool-cut units more end used before limit capacity is h fixed within less charged =
    let shorter : length more ≡ end = ap length is ∙ length-take-le end units within in
    let all : fixed_size ≤ length (take end units) = omega (arith, fixed, length-fixed_units, length-take-le end units within) in
    record {
      begins = ap (take fixed_size) is ∙ sym (take-append-le fixed_size (take end units) (drop end units) all) ∙ ap (take fixed_size) (take-append-drop end units) ∙ h.begins;
      within = omega (arith, less, h.within);
      room = omega (arith, shorter, h.room, h.within, charged, less);
      spans = omega (arith, shorter, h.spans, h.within, charged, less);
    }

-- a pool of the fixed texts alone
pub IsPool-fixed : (units : List ℕ) (limit capacity : ℕ) → units ≡ fixed_units → length units + limit ≤ capacity → length units + limit < 2 ^ 32 → IsPool units 0 limit capacity
IsPool-fixed units limit capacity is room spans = record {
  begins = let whole : fixed_size ≡ length units = omega (arith, ap length is, length-fixed_units) in ap (λ n. take n units) whole ∙ take-length units ∙ is;
  within = omega arith;
  room = omega arith;
  spans = omega arith;
}

-- in every pool a fixed text stands at its span
pub fixed_at : (pool : Texts) (fixed : FixedText) (span : Span) → take fixed_size pool.units ≡ fixed_units → fixed_span (text_of fixed) ≡ Some span → (text_at pool span ≡ text_of fixed) × IsSpan pool span
fixed_at pool fixed span begins is =
    let place : Span = record { start = start_of fixed; count = length (text_of fixed) } in
    let both : Some span ≡ Some place = sym is ∙ fixed_span-text_of fixed in
    let same : span ≡ place = cc in (
      ap (text_at pool) same ∙ fixed_stands pool.units fixed begins,
      subst (IsSpan pool) (sym same) (omega (arith, fixed_within fixed, fixed_length pool.units begins)),
    )

-- a range, cut at the end of the list
pub clipped : (xs : List ℕ) (a b from to : ℕ) → to ≡ min b (length xs) → from ≡ min a to → slice_range xs from to ≡ slice_range xs a b
clipped xs a b from to e f = grind (arith, common_steps)

clipped_length : (xs : List ℕ) (from to : ℕ) → to ≤ length xs → length (slice_range xs from to) ≡ to - from
clipped_length xs from to h = simp (length-take, length-drop) (omega arith)

range_of_front : (xs ys : List ℕ) (from to : ℕ) → to ≤ length xs → slice_range (xs ++ ys) from to ≡ slice_range xs from to
range_of_front xs ys from to h =
    sym (range_within (xs ++ ys) from to (length xs) h) ∙ ap (λ zs. slice_range zs from to) (take-append_seam xs ys)

-- two ranges of the units, each cut at their end, put behind them one after the other
pub joined_units : (units one two : List ℕ) (a b from to a' b' from' to' : ℕ) → to ≡ min b (length units) → from ≡ min a to → to' ≡ min b' (length units) → from' ≡ min a' to'
    → one ≡ units ++ slice_range units from to → two ≡ one ++ slice_range one from' to' → two ≡ units ++ (slice_range units a b ++ slice_range units a' b')
joined_units units one two a b from to a' b' from' to' e f e' f' first second =
    second
    ∙ ap (λ us. us ++ slice_range us from' to') first
    ∙ ap (λ us. units ++ slice_range units from to ++ us) (range_of_front units (slice_range units from to) from' to' (omega arith) ∙ clipped units a' b' from' to' e' f')
    ∙ append_assoc units (slice_range units from to) (slice_range units a' b')
    ∙ ap (λ us. units ++ (us ++ slice_range units a' b')) (clipped units a b from to e f)

pub joined_length : (units : List ℕ) (a b from to a' b' from' to' : ℕ) → to ≡ min b (length units) → from ≡ min a to → to' ≡ min b' (length units) → from' ≡ min a' to'
    → length (slice_range units a b ++ slice_range units a' b') ≡ to - from + (to' - from')
joined_length units a b from to a' b' from' to' e f e' f' =
    length-append (slice_range units a b) (slice_range units a' b')
    ∙ ap (λ n. n + length (slice_range units a' b')) (ap length (sym (clipped units a b from to e f)) ∙ clipped_length units from to (omega arith))
    ∙ ap (λ n. to - from + n) (ap length (sym (clipped units a' b' from' to' e' f')) ∙ clipped_length units from' to' (omega arith))

-- what was put behind all others stands there
pub behind_stands : (units more text : List ℕ) (start count : ℕ) → more ≡ units ++ text → start ≡ length units → count ≡ length text → slice_range more start (start + count) ≡ text
behind_stands units more text start count e s n =
    let whole : start + count - start ≡ length text = omega arith in
    ap (λ k. take k (drop start more)) whole
    ∙ ap (λ us. take (length text) (drop start us)) e
    ∙ ap (λ k. take (length text) (drop k (units ++ text))) s
    ∙ ap (take (length text)) (drop-append_seam units text)
    ∙ take-length text
