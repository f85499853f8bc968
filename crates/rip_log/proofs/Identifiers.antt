-- Identifiers: the number of 128 bits, its 16 bytes, its text.
use Rattle.std.proofs.Common.{◌≡◌, ℕ, zero, suc, ◌+◌, ◌*◌, ◌/◌, ◌%◌, ◌^◌, ◌<◌, List, Some, Result, Ok, Err, IsOk, ◌↔◌, refl, sym, ap, ◌∙◌, inl, arith}
use Rattle.std.specs.Prelude.{All, None, IfOk}
use Rattle.std.specs.Result.{result_ok}
use Rattle.std.specs.Int.{to_be_bytes, from_be_bytes, w128, bytes_high_first, byte_at}
use Rattle.std.proofs.lemmas.Bool.{false≢true}
use Rattle.std.proofs.lemmas.Nat.{mod_below}
use Rattle.std.proofs.Math.Nat.{div-div-eq-div-mul}
use Rattle.uuid.specs.Text.{lower, parsed}
use Rattle.uuid.proofs.RoundTrips.{parses_hyphenated}
use Rattle.rip_log.specs.Parts.{identifier_text}

-- ---- bytes

joined : (a0 a1 a2 a3 a4 a5 a6 a7 a8 a9 a10 a11 a12 a13 a14 a15 n p1 p2 p3 p4 p5 p6 p7 p8 p9 p10 p11 p12 p13 p14 p15 : ℕ) → n ≡ a0 + p1 * 256 → p1 ≡ a1 + p2 * 256 → p2 ≡ a2 + p3 * 256 → p3 ≡ a3 + p4 * 256 → p4 ≡ a4 + p5 * 256 → p5 ≡ a5 + p6 * 256 → p6 ≡ a6 + p7 * 256 → p7 ≡ a7 + p8 * 256 → p8 ≡ a8 + p9 * 256 → p9 ≡ a9 + p10 * 256 → p10 ≡ a10 + p11 * 256 → p11 ≡ a11 + p12 * 256 → p12 ≡ a12 + p13 * 256 → p13 ≡ a13 + p14 * 256 → p14 ≡ a14 + p15 * 256 → p15 ≡ a15
    → a15 * 1329227995784915872903807060280344576 + a14 * 5192296858534827628530496329220096 + a13 * 20282409603651670423947251286016 + a12 * 79228162514264337593543950336 + a11 * 309485009821345068724781056 + a10 * 1208925819614629174706176 + a9 * 4722366482869645213696 + a8 * 18446744073709551616 + a7 * 72057594037927936 + a6 * 281474976710656 + a5 * 1099511627776 + a4 * 4294967296 + a3 * 16777216 + a2 * 65536 + a1 * 256 + a0 ≡ n
joined a0 a1 a2 a3 a4 a5 a6 a7 a8 a9 a10 a11 a12 a13 a14 a15 n p1 p2 p3 p4 p5 p6 p7 p8 p9 p10 p11 p12 p13 p14 p15 e0 e1 e2 e3 e4 e5 e6 e7 e8 e9 e10 e11 e12 e13 e14 e15 = omega arith

byte_and_rest : (n p : ℕ) → n / p ≡ n / p % 256 + n / (p * 256) * 256
byte_and_rest n p = omega (arith, div-div-eq-div-mul n p 256)

pub bytes_back : (n : ℕ) → n < 2 ^ 128 → from_be_bytes w128 (to_be_bytes w128 n) ≡ n
bytes_back n fits =
    let low : n ≡ n % 256 + n / 256 * 256 = omega arith in
    let high : n / 1329227995784915872903807060280344576 ≡ n / 1329227995784915872903807060280344576 % 256 = omega arith in
    joined _ _ _ _ _ _ _ _ _ _ _ _ _ _ _ _ n _ _ _ _ _ _ _ _ _ _ _ _ _ _ _ low (byte_and_rest n 256) (byte_and_rest n 65536) (byte_and_rest n 16777216) (byte_and_rest n 4294967296) (byte_and_rest n 1099511627776) (byte_and_rest n 281474976710656) (byte_and_rest n 72057594037927936) (byte_and_rest n 18446744073709551616) (byte_and_rest n 4722366482869645213696) (byte_and_rest n 1208925819614629174706176) (byte_and_rest n 309485009821345068724781056) (byte_and_rest n 79228162514264337593543950336) (byte_and_rest n 20282409603651670423947251286016) (byte_and_rest n 5192296858534827628530496329220096) high

byte_small : (i n : ℕ) → byte_at i n < 256
byte_small zero n = mod_below n 256 (omega arith)
byte_small (suc i) n = mod_below (n / 256 ^ suc i) 256 (omega arith)

bytes_small : (k n : ℕ) → All (λ b. b < 256) (bytes_high_first k n)
bytes_small zero n i d h = absurd (omega arith)
bytes_small (suc k) n zero d h = byte_small k n
bytes_small (suc k) n (suc i) d h = bytes_small k n i d (omega arith)

-- ---- texts

pub identifier_is_parsed : (id : ℕ) → Some (to_be_bytes w128 id) ≡ parsed (identifier_text id)
identifier_is_parsed id = parses_hyphenated lower (to_be_bytes w128 id) (inl refl) refl (bytes_small 16 id)

some_same : (a b : List ℕ) → Some a ≡ Some b → a ≡ b
some_same a b e = cc

-- no two identifiers have one text
pub identifier_text-one : (i j : ℕ) → i < 2 ^ 128 → j < 2 ^ 128 → identifier_text i ≡ identifier_text j → i ≡ j
identifier_text-one i j hi hj e =
    let bytes = some_same (to_be_bytes w128 i) (to_be_bytes w128 j) (identifier_is_parsed i ∙ ap parsed e ∙ sym (identifier_is_parsed j)) in
    sym (bytes_back i hi) ∙ ap (from_be_bytes w128) bytes ∙ bytes_back j hj

-- a word that is not parsed is no identifier's
pub not_parsed : {E : Type 0} (r : Result (List ℕ) E) (word : List ℕ) → (IsOk r ↔ ((x : List ℕ) × (parsed word ≡ Some x))) → result_ok r ≡ None → (id : ℕ) → word ≡ identifier_text id → ⊥
not_parsed (Err f) word ok e id same = absurd (false≢true (ok.1 (to_be_bytes w128 id, ap parsed same ∙ sym (identifier_is_parsed id))))
not_parsed (Ok x) word ok e id same = cc

pub parsed_bytes : {E : Type 0} (r : Result (List ℕ) E) (word bytes : List ℕ) → IfOk r (λ u. Some u ≡ parsed word) → Some bytes ≡ result_ok r → Some bytes ≡ parsed word
parsed_bytes (Err f) word bytes h e = cc
parsed_bytes (Ok x) word bytes h e = e ∙ h

-- the identifier that is read of its text
pub read_of_text : (word bytes : List ℕ) (id : ℕ) → Some bytes ≡ parsed word → id < 2 ^ 128 → word ≡ identifier_text id → from_be_bytes w128 bytes ≡ id
read_of_text word bytes id is fits same =
    ap (from_be_bytes w128) (some_same bytes (to_be_bytes w128 id) (is ∙ ap parsed same ∙ sym (identifier_is_parsed id))) ∙ bytes_back id fits
