-- Writing a decimal numeral into a room, digit after digit.
use Rattle.std.proofs.Common.{◌≡◌, ℕ, suc, ◌+◌, ◌/◌, ◌%◌, ◌^◌, ◌<◌, ◌≤◌, List, [], ◌∷◌, ◌++◌, length, take, drop, set, get_or, sym, ap, ◌∙◌, append_assoc, length-append, add-one}
use Rattle.std.specs.Fmt.{decimal}
use Rattle.std.proofs.lemmas.Fmt.{decimal_digit, decimal_step}
use Rattle.std.proofs.lemmas.List.{set_split, length-take-le}
use Rattle.std.proofs.Math.Seq.{set-append_seam, drop-cons}

pub length-decimal_step : (n : ℕ) → 10 ≤ n → n < 2 ^ 64 → length (decimal n) ≡ length (decimal (n / 10)) + 1
length-decimal_step n low high = ap length (decimal_step n low high) ∙ length-append (decimal (n / 10)) ((48 + n % 10) ∷ [])

-- one digit at a place
pub set-digit : (room : List ℕ) (start n : ℕ) → start < length room → n < 10 → set room start (48 + n) ≡ take start room ++ decimal n ++ drop (start + 1) room
set-digit room start n h small =
    set_split room start (48 + n) h
    ∙ ap (λ k. take start room ++ (48 + n) ∷ drop k room) (sym (add-one start))
    ∙ ap (λ ds. take start room ++ (ds ++ drop (start + 1) room)) (sym (decimal_digit n small))
    ∙ sym (append_assoc (take start room) (decimal n) (drop (start + 1) room))

-- one digit more, behind those that were written
pub set-last_digit : (room written ds : List ℕ) (start last d : ℕ) → written ≡ take start room ++ ds ++ drop last room → last ≡ start + length ds → start ≤ length room → last < length room
    → set written last d ≡ take start room ++ (ds ++ d ∷ []) ++ drop (last + 1) room
set-last_digit room written ds start last d is end low h =
    let next = get_or room last 0 in
    let placed : length (take start room ++ ds) ≡ last = length-append (take start room) ds ∙ ap (λ k. k + length ds) (length-take-le start room low) ∙ sym end in
    ap (λ w. set w last d) (is ∙ ap (λ t. take start room ++ ds ++ t) (drop-cons room last 0 h))
    ∙ ap (λ k. set (take start room ++ ds ++ (next ∷ drop (suc last) room)) k d) (sym placed)
    ∙ set-append_seam (take start room ++ ds) next (drop (suc last) room) d
    ∙ ap (λ k. take start room ++ ds ++ (d ∷ drop k room)) (sym (add-one last))
    ∙ sym (append_assoc (take start room ++ ds) (d ∷ []) (drop (last + 1) room))
    ∙ ap (λ t. t ++ drop (last + 1) room) (append_assoc (take start room) ds (d ∷ []))
