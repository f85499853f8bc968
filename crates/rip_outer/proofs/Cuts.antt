-- Where the first piece of a text ends.
use Rattle.std.proofs.Common.{◌≤◌, ◌==◌, if◌then◌else◌, ◌≡◌, ◌≢◌, ℕ, zero, suc, ◌+◌, ◌-◌, ◌<◌, List, [], ◌∷◌, length, get_or, take, drop, arith, refl, true, false, eq-eqb, add-one, ap}
use Rattle.std.proofs.lemmas.Bool.{ne_eqb}
use Rattle.std.proofs.lemmas.List.{take_rest}
use Rattle.std.proofs.lemmas.Grind.{common_steps}
use Rattle.rip_outer.specs.Pieces.{pieces, with_first}

-- at a line feed the piece before it ends, and the pieces of what follows come after it
pub pieces_cut : (bs : List ℕ) (i : ℕ) → i < length bs → ((k : ℕ) → k < i → get_or bs k 0 ≢ 10) → get_or bs i 0 ≡ 10 → pieces bs ≡ take i bs ∷ pieces (drop (i + 1) bs)
pieces_cut [] i in_range others here = absurd (omega arith)
pieces_cut (b ∷ bs) zero in_range others here = rw (eq-eqb b 10 here)
pieces_cut (b ∷ bs) (suc i) in_range others here =
    let rest : pieces bs ≡ take i bs ∷ pieces (drop (i + 1) bs) =
    pieces_cut bs i (omega arith) (λ k below. others (suc k) (omega arith)) here in
    let ends : drop (suc i + 1) (b ∷ bs) ≡ drop (i + 1) bs = rw (add-one, add-one) in
    rw (ne_eqb b 10 (others 0 (omega arith)), rest, ends)

-- with no line feed there is one piece
pub pieces_uncut : (bs : List ℕ) → bs ≢ [] → ((k : ℕ) → k < length bs → get_or bs k 0 ≢ 10) → pieces bs ≡ bs ∷ []
pieces_uncut [] some others = absurd (some refl)
pieces_uncut (b ∷ []) some others = rw (ne_eqb b 10 (others 0 (omega arith)))
pieces_uncut (b ∷ c ∷ bs) some others =
    let rest : pieces (c ∷ bs) ≡ (c ∷ bs) ∷ [] =
    pieces_uncut (c ∷ bs) (λ same. cc) (λ k below. others (suc k) (omega arith)) in
    rw (ne_eqb b 10 (others 0 (omega arith))) (ap (with_first b) rest)

-- the same, where what follows is taken as a part of the bytes
pub pieces_cut_range : (bs : List ℕ) (i : ℕ) → i < length bs → ((k : ℕ) → k < i → get_or bs k 0 ≢ 10) → get_or bs i 0 ≡ 10 → pieces bs ≡ take i bs ∷ pieces (take (length bs - (i + 1)) (drop (i + 1) bs))
pieces_cut_range bs i in_range others here = rw take_rest (pieces_cut bs i in_range others here)

-- the same, where the bytes are split at their end
pub pieces_whole : (bs front back : List ℕ) → bs ≢ [] → ((k : ℕ) → k < length bs → get_or bs k 0 ≢ 10) → front ≡ take (length bs) bs → back ≡ drop (length bs) bs → pieces bs ≡ front ∷ pieces back
pieces_whole bs front back some others is_front is_back =
    let all : take (length bs) bs ≡ bs = grind (arith, common_steps) in
    let none : drop (length bs) bs ≡ [] = grind (arith, common_steps) in
    rw (is_front, is_back, all, none) (pieces_uncut bs some others)

-- a byte makes no more than one more piece
length_with_first : (b : ℕ) (ps : List (List ℕ)) → length (with_first b ps) ≤ length ps + 1
length_with_first b [] = omega arith
length_with_first b (p ∷ ps) = omega arith

-- there are no more pieces than bytes
pub length_pieces : (bs : List ℕ) → length (pieces bs) ≤ length bs
length_pieces [] = omega arith
length_pieces (b ∷ bs) =
    elim (b == 10) as (λ feed. length (if feed then [] ∷ pieces bs else with_first b (pieces bs)) ≤ length (b ∷ bs)) [
      | true ↦ omega (arith, length_pieces bs)
      | false ↦ omega (arith, length_pieces bs, length_with_first b (pieces bs))
    ]
