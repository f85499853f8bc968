-- What is put behind a text, piece by piece.
use Rattle.std.proofs.Common.{◌≡◌, ℕ, ◌+◌, ◌-◌, ◌<◌, ◌≤◌, nat_le, cond, Option, None, Some, List, [], ◌∷◌, ◌++◌, length, drop, get_or, refl, sym, ap, ◌∙◌, arith, append_assoc, append-nil, length-append, inl, inr}
use Rattle.std.proofs.lemmas.Bool.{cases_lt, le-leb, lt-leb}
use Rattle.std.proofs.lemmas.List.{drop_more, drop_all}
use Rattle.json.specs.Print.{escape_byte, escape}
use Rattle.rip_data.specs.Datum.{utf8_of}
use Rattle.rip_convert.proofs.Chars.{utf8_nil}
use Rattle.rip_convert.specs.Written.{added}

le_same : (a b c d : ℕ) → (a ≤ b → c ≤ d) → (c ≤ d → a ≤ b) → nat_le a b ≡ nat_le c d
le_same a b c d to back = elim (cases_lt b a) [
  | inl over ↦ elim (cases_lt d c) [
    | inl also ↦ lt-leb a b over ∙ sym (lt-leb c d also)
    | inr fits ↦ absurd (omega (arith, over, back fits))
  ]
  | inr fits ↦ le-leb a b fits ∙ sym (le-leb c d (to fits))
]

pub added-nil : (r : Option (List ℕ)) → added r [] ≡ r
added-nil None = refl
added-nil (Some text) = ap (λ b. cond b (Some (text ++ [])) None) (le-leb 0 (16384 - length text) (omega arith)) ∙ ap Some (append-nil text)

pub added-added : (r : Option (List ℕ)) (s t : List ℕ) → added (added r s) t ≡ added r (s ++ t)
added-added None s t = refl
added-added (Some b) s t = elim (cases_lt (16384 - length b) (length s)) [
  | inl over ↦
      let none : added (Some b) s ≡ None = ap (λ x. cond x (Some (b ++ s)) None) (lt-leb (length s) (16384 - length b) over) in
      let whole : added (Some b) (s ++ t) ≡ None = ap (λ x. cond x (Some (b ++ (s ++ t))) None) (lt-leb (length (s ++ t)) (16384 - length b) (omega (arith, over, length-append s t))) in
      ap (λ r. added r t) none ∙ sym whole
  | inr fits ↦
      let some : added (Some b) s ≡ Some (b ++ s) = ap (λ x. cond x (Some (b ++ s)) None) (le-leb (length s) (16384 - length b) fits) in
      let same : nat_le (length t) (16384 - length (b ++ s)) ≡ nat_le (length (s ++ t)) (16384 - length b) =
      le_same (length t) (16384 - length (b ++ s)) (length (s ++ t)) (16384 - length b)
      (λ h. omega (arith, h, fits, length-append b s, length-append s t)) (λ h. omega (arith, h, fits, length-append b s, length-append s t)) in
      ap (λ r. added r t) some ∙ ap (λ x. cond x (Some ((b ++ s) ++ t)) None) same ∙ ap (λ l. cond (nat_le (length (s ++ t)) (16384 - length b)) (Some l) None) (append_assoc b s t)
]

-- the next byte of a text in quotes, and those behind it
pub escape-step : (r : Option (List ℕ)) (bytes : List ℕ) (k : ℕ) → k < length bytes → added (added r (escape_byte (get_or bytes k 0))) (escape (drop (k + 1) bytes)) ≡ added r (escape (drop k bytes))
escape-step r bytes k h =
    added-added r (escape_byte (get_or bytes k 0)) (escape (drop (k + 1) bytes)) ∙ ap (λ l. added r (escape l)) (sym (drop_more bytes k 0 h))

-- the quote behind the last character
pub quote-end : (r : Option (List ℕ)) (units : List ℕ) (at : ℕ) → length units ≤ at → added r (escape (utf8_of (drop at units)) ++ 34 ∷ []) ≡ added r (34 ∷ [])
quote-end r units at h = ap (λ l. added r (escape (utf8_of l) ++ 34 ∷ [])) (drop_all at units h) ∙ ap (λ l. added r (escape l ++ 34 ∷ [])) utf8_nil
