-- Lines, one behind the other: where the first ends, and which text it is.
use Rattle.std.proofs.Common.{◌≡◌, ◌≢◌, ◌==◌, ℕ, zero, suc, ◌+◌, ◌<◌, List, [], ◌∷◌, ◌++◌, true, false, length, take, All, Option, Some, None, IsSome, slice_get, slice_index, sum_by, position, refl, ap, ◌∙◌, arith, append_assoc, ◌⊎◌, inl, inr}
use Rattle.std.specs.List.{flat_map, position_from}
use Rattle.std.proofs.lemmas.Bool.Decides.{eqb_tells}
use Rattle.std.proofs.lemmas.Iterator.Adapters.{position_from-zero}
use Rattle.std.proofs.lemmas.List.{length-append}
use Rattle.std.proofs.lemmas.List.Elements.{All-head, All-tail}
use Rattle.std.proofs.lemmas.List.Sums.{sum_by-cons}
use Rattle.std.proofs.Math.Seq.{take-append_seam}
use Rattle.rip_calls.specs.Calls.{IsOneLine, line_of}
use Rattle.rip_calls.specs.Lines.{BeginsWithLine}

-- a byte of one line is no line feed
not_feed : (x : ℕ) → x ≢ 10 → (x == 10) ≡ false
not_feed x other = by (eqb_tells x 10)
  where
    by : (((x == 10) ≡ true) × (x ≡ 10)) ⊎ (((x == 10) ≡ false) × (x ≢ 10)) → (x == 10) ≡ false
    by (inl same) = absurd (other same.1)
    by (inr differs) = differs.0

-- the first line feed stands behind the first line
position_from-line : (i : ℕ) (t rest : List ℕ) → IsOneLine t → position_from (λ byte. byte == 10) i ((t ++ 10 ∷ []) ++ rest) ≡ Some (i + length t)
position_from-line i [] rest one = ap Some (omega arith)
position_from-line i (x ∷ t) rest one =
    let here : (x == 10) ≡ false = not_feed x (All-head (λ byte. byte ≢ 10) x t one) in
    rw here (position_from-line (i + 1) t rest (All-tail (λ byte. byte ≢ 10) x t one) ∙ ap Some (omega arith))

pub position-line : (t rest : List ℕ) → IsOneLine t → position (λ byte. byte == 10) ((t ++ 10 ∷ []) ++ rest) ≡ Some (length t)
position-line t rest one =
    position_from-zero (λ byte. byte == 10) ((t ++ 10 ∷ []) ++ rest) ∙ (position_from-line 0 t rest one ∙ ap Some (omega arith))

-- a line begins with no other text of its length
pub same_line : (t r rest : List ℕ) → length t ≡ length r → BeginsWithLine ((t ++ 10 ∷ []) ++ rest) r → t ≡ r
same_line [] [] rest long begins = refl
same_line [] (y ∷ r) rest long begins = absurd (omega arith)
same_line (x ∷ t) [] rest long begins = absurd (omega arith)
same_line (x ∷ t) (y ∷ r) rest long begins =
    let e : Some x ≡ Some y = begins.text_first 0 (omega arith) in
    let tail : BeginsWithLine ((t ++ 10 ∷ []) ++ rest) r = record {
      text_first = λ k below. begins.text_first (suc k) (omega arith);
      then_feed = begins.then_feed;
    } in
    let same : t ≡ r = same_line t r rest (omega arith) tail in
    cc

own_text : (t rest : List ℕ) (k : ℕ) → k < length t → slice_get ((t ++ 10 ∷ []) ++ rest) k ≡ Some (slice_index t k)
own_text [] rest k below = absurd (omega arith)
own_text (x ∷ t) rest zero below = refl
own_text (x ∷ t) rest (suc k) below = own_text t rest k (omega arith)

own_feed : (t rest : List ℕ) → slice_get ((t ++ 10 ∷ []) ++ rest) (length t) ≡ Some 10
own_feed [] rest = refl
own_feed (x ∷ t) rest = own_feed t rest

-- they begin with that line
pub own_line : (t rest : List ℕ) → BeginsWithLine ((t ++ 10 ∷ []) ++ rest) t
own_line t rest = record { text_first = own_text t rest; then_feed = own_feed t rest }

-- the bytes of the lines
pub length-lines : (ws : List (List ℕ)) → length (flat_map line_of ws) ≡ sum_by (λ text. length text + 1) ws
length-lines [] = refl
length-lines (t ∷ ts) =
    omega (arith, length-append (t ++ 10 ∷ []) (flat_map line_of ts), length-append t (10 ∷ []), length-lines ts, sum_by-cons (λ text. length text + 1) t ts)

-- the front is the text of its length with which the bytes begin
pub front_begins : (ws : List (List ℕ)) (r : List ℕ) → All IsOneLine ws → position (λ byte. byte == 10) (flat_map line_of ws) ≡ Some (length r) → BeginsWithLine (flat_map line_of ws) r → slice_get ws 0 ≡ Some r
front_begins [] r all found begins = absurd (cc)
front_begins (t ∷ ts) r all found begins =
    let e = position-line t (flat_map line_of ts) (All-head IsOneLine t ts all) in
    let long : length t ≡ length r = cc in
    ap Some (same_line t r (flat_map line_of ts) long begins)

pub begins_front : (ws : List (List ℕ)) (r : List ℕ) → slice_get ws 0 ≡ Some r → BeginsWithLine (flat_map line_of ws) r
begins_front [] r e = absurd (cc)
begins_front (t ∷ ts) r e =
    let same : t ≡ r = cc in rw (← same) (own_line t (flat_map line_of ts))

-- what the place of the first line feed tells
pub end_of_front : (ws : List (List ℕ)) → All IsOneLine ws → ws ≢ [] → IsSome (position (λ byte. byte == 10) (flat_map line_of ws))
end_of_front [] all some = absurd (some refl)
end_of_front (t ∷ ts) all some =
    let e = position-line t (flat_map line_of ts) (All-head IsOneLine t ts all) in
    rw e refl

pub no_end : (ws : List (List ℕ)) → All IsOneLine ws → position (λ byte. byte == 10) (flat_map line_of ws) ≡ None → slice_get ws 0 ≡ None
no_end [] all none = refl
no_end (t ∷ ts) all none =
    let e = position-line t (flat_map line_of ts) (All-head IsOneLine t ts all) in
    cc

pub front_taken : (ws : List (List ℕ)) (end : ℕ) → All IsOneLine ws → position (λ byte. byte == 10) (flat_map line_of ws) ≡ Some end → slice_get ws 0 ≡ Some (take end (flat_map line_of ws))
front_taken [] end all found = absurd (cc)
front_taken (t ∷ ts) end all found =
    let e = position-line t (flat_map line_of ts) (All-head IsOneLine t ts all) in
    let at : end ≡ length t = cc in
    rw (at, append_assoc, take-append_seam) refl

-- where there is a line feed, a call waits, and it ends the front
pub end_is_of_front : (ws : List (List ℕ)) (end : ℕ) (r : List ℕ) → All IsOneLine ws → position (λ byte. byte == 10) (flat_map line_of ws) ≡ Some end → slice_get ws 0 ≡ Some r → end ≡ length r
end_is_of_front [] end r all found front = absurd (cc)
end_is_of_front (t ∷ ts) end r all found front =
    let e = position-line t (flat_map line_of ts) (All-head IsOneLine t ts all) in
    let same : t ≡ r = cc in
    rw (← same) cc
