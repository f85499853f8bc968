-- What a store keeps and replies is accepted.
use Rattle.std.proofs.Common.{◌≡◌, ℕ, ℤ, suc, pos, negsuc, ◌+◌, ◌+ℤ◌, ◌≤◌, List, [], ◌∷◌, ◌++◌, map, length, drop, Bool, true, false, cond, ◌&&◌, nat_eq, nat_lt, int_le, leb, ltb, ◌*◌, ◌/◌, ◌%◌, codes, chars, Option, Some, None, Result, Ok, Err, refl, sym, ap, ◌∙◌, subst, arith, length-append, sum_by, option_map, is_none, IfSome, OnOk, OnErr, IfOk}
use Rattle.std.specs.Prelude.{decimal}
use Rattle.std.specs.Fmt.{signed_decimal}
use Rattle.std.specs.Option.{ok_or, unwrap_or}
use Rattle.std.specs.List.{filter_map, starts_with, cons_option}
use Rattle.std.specs.Map.{keys_of, values_of, remove_entry}
use Rattle.std.specs.BTreeMap.{insert_entry, is_at}
use Rattle.std.specs.Str.{is_utf8}
use Rattle.std.proofs.lemmas.Int.{ints}
use Rattle.std.specs.Int.Signed.{le_z_yes}
use Rattle.std.specs.List.Sorted.{IsStrictlySortedBy}
use Rattle.std.proofs.lemmas.Float.{T_from_true}
use Rattle.std.proofs.lemmas.Bool.{leb-true, leb-false, ltb-true, and_parts, true≢false}
use Rattle.std.proofs.lemmas.Cmp.{nat_list_cmp_total}
use Rattle.std.proofs.lemmas.Fmt.{length-decimal-le, length_signed_le}
use Rattle.std.proofs.lemmas.List.Sums.{sum_by-cons}
use Rattle.std.proofs.lemmas.Map.Entries.{sum_by-insert_entry}
use Rattle.std.proofs.lemmas.Map.Views.{All-values-insert_entry, All-map-remove_entry, IfSome-lookup_from_All}
use Rattle.std.proofs.lemmas.Str.{IsUtf8-from_is_utf8}
use Rattle.json.specs.Print.{escape_byte, escape_letter, escape, quoted}
use Rattle.rip_data.specs.Written.{escaped_length}
use Rattle.rip_data.proofs.SizeLemmas.{escaped_length-nil, escaped_length-ascii}
use Rattle.std.specs.Char.{digit_char}
use Rattle.serde_json.specs.Data.{items_depth}
use Rattle.rip_base.specs.Whole.{IsWhole}
use Rattle.rip_base.specs.Text.{IsUtf16, encode_utf16_all}
use Rattle.rip_base.proofs.TextLemmas.{IsSameText-chars}
use Rattle.rip_data.specs.Datum.{Tree, null, boolean, number, text, array, object, Elements, no_elements, element, elements_of, no_fields, field, utf8_of, canonical_text, nesting, items_of, IsDatum, AreData}
use Rattle.rip_manifest.specs.declared.function.Function.{Function}
use Rattle.rip_manifest.specs.declared.function.Operation.{Operation}
use Rattle.rip_manifest.specs.declared.function.Operation.TheVariants.{Get, Put, Add, Take, Push, List as ListKeys}
use Rattle.rip_store.specs.declared.refusal.Refusal.{Refusal}
use Rattle.rip_store.specs.declared.refusal.Refusal.TheVariants.{Unknown, Arguments, Range, Full}
use Rattle.rip_store.specs.Places.{Place, Stored, compare, IsStore, value_at, nothing, keep, remove, changed}
use Rattle.rip_store.specs.Args.{place_of, one_key, key_and_value, key_and_number, no_key}
use Rattle.rip_store.specs.Operations.{Outcome, ◌>>=◌, or_null, count, is_key, key_behind, keys_under, text_of, kept, is_full, operate, number_or_zero, whole_sum, list_or_empty, short_list, with_last, get, put, add, take, push, list}
use Rattle.rip_store.specs.Apply.{function_named, answer, apply, settled, error, word}
use Rattle.rip_base.specs.declared.memory.NoMemory.{NoMemory}
use Rattle.rip_store.specs.declared.store.Replies.{Replies}
use Rattle.rip_store.specs.Outcomes.{AreReplies}
use Rattle.rip_store.specs.Kept.{IsAccepted, AreAccepted, AreAcceptedReplies, IsKept, StaysKept}
use Rattle.rip_store.proofs.LawLemmas.{order_stays}
use Rattle.rip_store.proofs.ListLemmas.{array_many}

-- ---- data without parts

null_accepted : IsAccepted null
null_accepted = record { made = tt; shallow = omega arith; short = omega arith }

true_accepted : IsAccepted (boolean true)
true_accepted = record { made = tt; shallow = omega arith; short = omega arith }

number_accepted : (z : ℤ) → IsWhole z → IsAccepted (number z)
number_accepted (pos n) w =
    let few : length (decimal n) ≤ 17 = length-decimal-le 17 n (omega arith) (omega (arith, ints, w.1)) (omega (arith, ints, w.1)) in
    record { made = w; shallow = omega arith; short = omega (arith, few) }
number_accepted (negsuc n) w =
    let few : length (signed_decimal (negsuc n)) ≤ 18 = length_signed_le 17 (negsuc n) (omega (arith, ints, w.0)) (omega (arith, ints, w.0)) in
    record { made = w; shallow = omega arith; short = omega (arith, few) }

count_whole : (n : ℕ) → n ≤ 16384 → IsWhole (pos n)
count_whole n h = (omega (arith, ints), omega (arith, ints, h))

-- ---- the reply that tells a refusal

error_made : (u : List ℕ) → IsUtf16 u → IsDatum (object (field (codes "error") (text u) no_fields))
error_made u h = (((codes "error", (refl, refl)), h, tt), (tt, tt))

escape_byte-few : (b : ℕ) → length (escape_byte b) ≤ 6
unfolding escape_byte
escape_byte-few b = by (nat_lt 0 (escape_letter b)) (nat_lt b 32)
  where
    by : (v w : Bool) → length (cond v (92 ∷ escape_letter b ∷ []) (cond w (92 ∷ 117 ∷ 48 ∷ 48 ∷ digit_char (b / 16) ∷ digit_char (b % 16) ∷ []) (b ∷ []))) ≤ 6
    by true w = omega arith
    by false true = omega arith
    by false false = omega arith

-- units below 128 alone
abbrev is_ascii : List ℕ → Bool
is_ascii [] = true
is_ascii (u ∷ us) = ltb u 128 && is_ascii us

escaped-few : (us : List ℕ) → is_ascii us ≡ true → escaped_length us ≤ 6 * length us
escaped-few [] h = let none = escaped_length-nil in omega (arith, none)
escaped-few (u ∷ us) h =
    let p = and_parts (ltb u 128) (is_ascii us) h in
    let more = escaped-few us p.1 in
    let one = escape_byte-few u in
    let size = escaped_length-ascii u us (ltb-true u 128 p.0) in
    omega (arith, more, one, size)

field_length : (k w : List ℕ) → length (canonical_text (object (field k (text w) no_fields))) ≡ escaped_length k + escaped_length w + 7
field_length k w =
    let a = length-append (quoted (utf8_of k)) (58 ∷ (quoted (utf8_of w) ++ 125 ∷ [])) in
    let b = length-append (quoted (utf8_of w)) (125 ∷ []) in
    let c = length-append (escape (utf8_of k)) (34 ∷ []) in
    let d = length-append (escape (utf8_of w)) (34 ∷ []) in
    omega (arith, a, b, c, d)

error_few : (w : List ℕ) → is_ascii w ≡ true → length w ≤ 9 → length (canonical_text (object (field (codes "error") (text w) no_fields))) ≤ 100
error_few w h n =
    let name = escaped-few (codes "error") refl in
    let five : length (codes "error") ≡ 5 = refl in
    let said = escaped-few w h in
    let all = field_length (codes "error") w in
    omega (arith, name, five, said, all, n)

error_length : (e : Refusal) → length (canonical_text (error e)) ≤ 100
error_length Unknown = let n : length (codes "unknown") ≡ 7 = refl in error_few (codes "unknown") refl (omega (arith, n))
error_length Arguments = let n : length (codes "arguments") ≡ 9 = refl in error_few (codes "arguments") refl (omega (arith, n))
error_length Range = let n : length (codes "range") ≡ 5 = refl in error_few (codes "range") refl (omega (arith, n))
error_length Full = let n : length (codes "full") ≡ 4 = refl in error_few (codes "full") refl (omega (arith, n))

error_accepted : (e : Refusal) → IsAccepted (error e)
error_accepted Unknown = record { made = error_made (word Unknown) (codes "unknown", (refl, refl)); shallow = omega arith; short = let h = error_length Unknown in omega (arith, h) }
error_accepted Arguments = record { made = error_made (word Arguments) (codes "arguments", (refl, refl)); shallow = omega arith; short = let h = error_length Arguments in omega (arith, h) }
error_accepted Range = record { made = error_made (word Range) (codes "range", (refl, refl)); shallow = omega arith; short = let h = error_length Range in omega (arith, h) }
error_accepted Full = record { made = error_made (word Full) (codes "full", (refl, refl)); shallow = omega arith; short = let h = error_length Full in omega (arith, h) }

-- ---- a store that changes

ones : (s : Stored) → sum_by (λ (t : Tree). 1) (values_of s) ≡ length s
ones [] = refl
ones (e ∷ s) = let more = ones s in let one = sum_by-cons (λ (t : Tree). 1) e.1 (values_of s) in omega (arith, more, one)

insert_few : (s : Stored) (p : Place) (d : Tree) → IsStore s → length s ≤ 4096 → is_full s p ≡ false → length (insert_entry compare s p d) ≤ 4096
insert_few s p d o few h = by (value_at s p) (leb 4096 (length s)) refl refl grown
  where
    grown : length (insert_entry compare s p d) + unwrap_or (option_map (λ (t : Tree). 1) (value_at s p)) 0 ≡ length s + 1
    grown = ap (λ n. n + unwrap_or (option_map (λ (t : Tree). 1) (value_at s p)) 0) (sym (ones (insert_entry compare s p d))) ∙ sum_by-insert_entry (λ (t : Tree). 1) nat_list_cmp_total s p d o ∙ ap (λ n. n + 1) (ones s)

    by : (v : Option Tree) (b : Bool) → value_at s p ≡ v → leb 4096 (length s) ≡ b → length (insert_entry compare s p d) + unwrap_or (option_map (λ (t : Tree). 1) (value_at s p)) 0 ≡ length s + 1 → length (insert_entry compare s p d) ≤ 4096
    by None false e f g = let low = leb-false 4096 (length s) f in omega (arith, g, low)
    by None true e f g = absurd (true≢false (sym (ap (λ b. b && is_none (value_at s p)) f ∙ ap is_none e) ∙ h))
    by (Some t) b e f g = let one : ◌≡◌ {A = ℕ} (unwrap_or (option_map (λ (t : Tree). 1) (value_at s p)) 0) 1 = ap (λ o. unwrap_or (option_map (λ (t : Tree). 1) o) 0) e in omega (arith, g, one, few)

remove_few : (test : Place → Bool) (s : Stored) → length (remove_entry test s) ≤ length s
remove_few test [] = omega arith
remove_few test (e ∷ s) = by (test e.0) (remove_few test s)
  where
    by : (b : Bool) → length (remove_entry test s) ≤ length s → length (cond b s (e ∷ remove_entry test s)) ≤ suc (length s)
    by true h = omega arith
    by false h = omega (arith, h)

keep_kept : (s : Stored) (p : Place) (d : Tree) → IsKept s → IsAccepted d → is_full s p ≡ false → IsKept (changed s (keep p d))
keep_kept s p d k a h = record {
  in_order = order_stays s (keep p d) k.in_order;
  few = insert_few s p d k.in_order k.few h;
  accepted = All-values-insert_entry compare p d IsAccepted s k.accepted a;
}

remove_kept : (s : Stored) (p : Place) → IsKept s → IsKept (changed s (remove p))
remove_kept s p k = let fewer = remove_few (is_at (compare p)) s in record {
  in_order = order_stays s (remove p) k.in_order;
  few = omega (arith, fewer, k.few);
  accepted = All-map-remove_entry (is_at (compare p)) (λ (e : Place × Tree). e.1) IsAccepted s k.accepted;
}

-- ---- what an operation gives

abbrev Holds : Stored → Result Outcome Refusal → Type 0
Holds s (Ok o) = IsKept (changed s o.0) × IsAccepted o.1
Holds s (Err e) = Unit {0}

step_holds : {A : Type 0} (s : Stored) (o : Option A) (e : Refusal) (f : A → Result Outcome Refusal) → ((a : A) → o ≡ Some a → Holds s (f a)) → Holds s (ok_or o e >>= f)
step_holds s None e f g = tt
step_holds s (Some a) e f g = g a refl

kept_holds : (s : Stored) (p : Place) (d reply : Tree) → IsKept s → IsAccepted d → IsAccepted reply → Holds s (kept s p d reply)
kept_holds s p d reply k a r = by (is_full s p) refl
  where
    by : (b : Bool) → is_full s p ≡ b → Holds s (cond b (Err Full) (Ok (keep p d, reply)))
    by true h = tt
    by false h = (keep_kept s p d k a h, r)

-- the datum at a place
found_accepted : (s : Stored) (p : Place) → IsKept s → IfSome (value_at s p) IsAccepted
found_accepted s p k = IfSome-lookup_from_All IsAccepted (is_at (compare p)) s k.accepted

or_null_accepted : (o : Option Tree) → IfSome o IsAccepted → IsAccepted (or_null o)
or_null_accepted None h = null_accepted
or_null_accepted (Some d) h = h

-- a datum within args
record IsInner (d : Tree) : Type 0 where
  accepted : IsAccepted d
  shallow : nesting d ≤ 7

second_inner : (k d : Tree) → AreAccepted (k ∷ d ∷ []) → IsInner d
second_inner k d h =
    let deep : nesting d ≤ 7 = (let m = h.shallow in omega (arith, m)) in
    let size = length-append (canonical_text k) (44 ∷ (canonical_text d ++ 93 ∷ [])) in
    let rest = length-append (canonical_text d) (93 ∷ []) in
    let all = h.short in
    record { accepted = record { made = h.made.1.0; shallow = omega (arith, deep); short = omega (arith, all, size, rest) }; shallow = deep }

value_inner : (prefix : Place) (args : List Tree) (a : Place × Tree) → AreAccepted args → key_and_value prefix args ≡ Some a → IsInner a.1
value_inner prefix [] a h e = cc
value_inner prefix (k ∷ []) a h e = cc
value_inner prefix (k ∷ d ∷ []) a h e = by (place_of prefix k) e
  where
    by : (o : Option Place) → option_map (λ p. (p, d)) o ≡ Some a → IsInner a.1
    by None g = cc
    by (Some p) g = let same : d ≡ a.1 = cc in subst IsInner same (second_inner k d h)
value_inner prefix (k ∷ d ∷ t ∷ ts) a h e = cc

-- a sum in range
sum_whole : (m n z : ℤ) → whole_sum m n ≡ Some z → IsWhole z
sum_whole m n z h = by (int_le (negsuc 9007199254740990) (m +ℤ n)) (int_le (m +ℤ n) (pos 9007199254740991)) refl refl h
  where
    by : (a b : Bool) → int_le (negsuc 9007199254740990) (m +ℤ n) ≡ a → int_le (m +ℤ n) (pos 9007199254740991) ≡ b → cond (a && b) (Some (m +ℤ n)) None ≡ Some z → IsWhole z
    by true true e f g = let same : m +ℤ n ≡ z = cc in subst IsWhole same (le_z_yes (T_from_true (int_le (negsuc 9007199254740990) (m +ℤ n)) e), le_z_yes (T_from_true (int_le (m +ℤ n) (pos 9007199254740991)) f))
    by true false e f g = cc
    by false b e f g = cc

-- ---- lists

short_is : (es : Elements) (t : Tree) → short_list es ≡ Some t → (array es ≡ t) × (length (canonical_text (array es)) ≤ 16384)
short_is es t h = by (leb (length (canonical_text (array es))) 16384) refl h
  where
    by : (b : Bool) → leb (length (canonical_text (array es))) 16384 ≡ b → cond b (Some (array es)) None ≡ Some t → (array es ≡ t) × (length (canonical_text (array es)) ≤ 16384)
    by true e g = (cc, leb-true (length (canonical_text (array es))) 16384 e)
    by false e g = cc

last_made : (es : Elements) (d : Tree) → AreData es → IsDatum d → AreData (with_last es d)
last_made no_elements d h g = (g, tt)
last_made (element e es) d h g = (h.0, last_made es d h.1 g)

last_shallow : (es : Elements) (d : Tree) → items_depth (items_of es) ≤ 7 → nesting d ≤ 7 → items_depth (items_of (with_last es d)) ≤ 7
last_shallow no_elements d h g = omega (arith, g)
last_shallow (element e es) d h g =
    let rest = last_shallow es d (omega (arith, h)) g in omega (arith, h, rest)

-- the list at a place
record IsInnerList (es : Elements) : Type 0 where
  made : AreData es
  shallow : items_depth (items_of es) ≤ 7

list_inner : (o : Option Tree) (es : Elements) → IfSome o IsAccepted → list_or_empty o ≡ Some es → IsInnerList es
list_inner None es h e = let same : no_elements ≡ es = cc in subst IsInnerList same (record { made = tt; shallow = omega arith })
list_inner (Some null) es h e = cc
list_inner (Some (boolean b)) es h e = cc
list_inner (Some (number z)) es h e = cc
list_inner (Some (text u)) es h e = cc
list_inner (Some (array fs)) es h e = let same : fs ≡ es = cc in let deep = h.shallow in subst IsInnerList same (record { made = h.made; shallow = omega (arith, deep) })
list_inner (Some (object fs)) es h e = cc

-- keys as texts
key_made : (k : List ℕ) → is_key k ≡ true → IsDatum (text_of k)
key_made k h =
    let utf8 = and_parts (is_utf8 k) (leb (length k) 64) h in
    let same = IsSameText-chars k (encode_utf16_all (chars k)) (IsUtf8-from_is_utf8 k utf8.0) refl in
    (same.characters, (same.are, same.in_units))

keys_made : (prefix : Place) (ps : List Place) → AreData (elements_of (map text_of (filter_map (key_behind prefix) ps)))
keys_made prefix [] = tt
keys_made prefix (p ∷ ps) = by (starts_with nat_eq p prefix) (is_key (drop (length prefix) p)) refl (keys_made prefix ps)
  where
    by : (a b : Bool) → is_key (drop (length prefix) p) ≡ b → AreData (elements_of (map text_of (filter_map (key_behind prefix) ps)))
        → AreData (elements_of (map text_of (cons_option (cond (a && b) (Some (drop (length prefix) p)) None) (filter_map (key_behind prefix) ps))))
    by true true e more = (key_made (drop (length prefix) p) e, more)
    by true false e more = more
    by false b e more = more

keys_shallow : (ks : List (List ℕ)) → items_depth (items_of (elements_of (map text_of ks))) ≡ 0
keys_shallow [] = refl
keys_shallow (k ∷ ks) = let more = keys_shallow ks in omega (arith, more)

-- ---- the operations

get_holds : (s : Stored) (prefix : Place) (args : List Tree) → IsKept s → Holds s (get s prefix args)
get_holds s prefix args k = step_holds s (one_key prefix args) Arguments (λ p. Ok (nothing, or_null (value_at s p)))
    (λ p e. (k, or_null_accepted (value_at s p) (found_accepted s p k)))

put_holds : (s : Stored) (prefix : Place) (args : List Tree) → IsKept s → AreAccepted args → Holds s (put s prefix args)
put_holds s prefix args k h = step_holds s (key_and_value prefix args) Arguments (λ a. kept s a.0 a.1 (boolean true))
    (λ a e. kept_holds s a.0 a.1 (boolean true) k (value_inner prefix args a h e).accepted true_accepted)

add_holds : (s : Stored) (prefix : Place) (args : List Tree) → IsKept s → Holds s (add s prefix args)
add_holds s prefix args k =
    step_holds s (key_and_number prefix args) Arguments (λ a. ok_or (number_or_zero (value_at s a.0)) Range >>= (λ m. ok_or (whole_sum m a.1) Range >>= (λ n. kept s a.0 (number n) (number n))))
    (λ a e. step_holds s (number_or_zero (value_at s a.0)) Range (λ m. ok_or (whole_sum m a.1) Range >>= (λ n. kept s a.0 (number n) (number n)))
    (λ m f. step_holds s (whole_sum m a.1) Range (λ n. kept s a.0 (number n) (number n))
    (λ n g. let w = number_accepted n (sum_whole m a.1 n g) in kept_holds s a.0 (number n) (number n) k w w)))

take_holds : (s : Stored) (prefix : Place) (args : List Tree) → IsKept s → Holds s (take s prefix args)
take_holds s prefix args k = step_holds s (one_key prefix args) Arguments (λ p. Ok (remove p, or_null (value_at s p)))
    (λ p e. (remove_kept s p k, or_null_accepted (value_at s p) (found_accepted s p k)))

pushed_holds : (s : Stored) (p : Place) (es : Elements) (d t : Tree) → IsKept s → IsInnerList es → IsInner d → short_list (with_last es d) ≡ Some t → Holds s (kept s p t (number (pos (count (with_last es d)))))
pushed_holds s p es d t k i j e =
    let is = short_is (with_last es d) t e in
    let many = array_many (with_last es d) in
    let deep = last_shallow es d i.shallow j.shallow in
    let all : IsAccepted (array (with_last es d)) = record { made = last_made es d i.made j.accepted.made; shallow = omega (arith, deep); short = is.1 } in
    kept_holds s p t (number (pos (count (with_last es d)))) k (subst IsAccepted is.0 all)
    (number_accepted (pos (count (with_last es d))) (count_whole (count (with_last es d)) (omega (arith, many, is.1))))

push_holds : (s : Stored) (prefix : Place) (args : List Tree) → IsKept s → AreAccepted args → Holds s (push s prefix args)
push_holds s prefix args k h =
    step_holds s (key_and_value prefix args) Arguments
    (λ a. ok_or (list_or_empty (value_at s a.0)) Range >>= (λ es. ok_or (short_list (with_last es a.1)) Full >>= (λ d. kept s a.0 d (number (pos (count (with_last es a.1)))))))
    (λ a e. step_holds s (list_or_empty (value_at s a.0)) Range (λ es. ok_or (short_list (with_last es a.1)) Full >>= (λ d. kept s a.0 d (number (pos (count (with_last es a.1))))))
    (λ es f. step_holds s (short_list (with_last es a.1)) Full (λ d. kept s a.0 d (number (pos (count (with_last es a.1)))))
    (λ d g. pushed_holds s a.0 es a.1 d k (list_inner (value_at s a.0) es (found_accepted s a.0 k) f) (value_inner prefix args a h e) g)))

listed_accepted : (prefix : Place) (s : Stored) (t : Tree) → short_list (elements_of (map text_of (keys_under prefix s))) ≡ Some t → IsAccepted t
listed_accepted prefix s t e =
    let is = short_is (elements_of (map text_of (keys_under prefix s))) t e in
    let deep = keys_shallow (keys_under prefix s) in
    let all : IsAccepted (array (elements_of (map text_of (keys_under prefix s)))) = record { made = keys_made prefix (keys_of s); shallow = omega (arith, deep); short = is.1 } in
    subst IsAccepted is.0 all

list_holds : (s : Stored) (prefix : Place) (args : List Tree) → IsKept s → Holds s (list s prefix args)
list_holds s prefix args k =
    step_holds s (no_key prefix args) Arguments (λ p. ok_or (short_list (elements_of (map text_of (keys_under p s)))) Range >>= (λ d. Ok (nothing, d)))
    (λ p e. step_holds s (short_list (elements_of (map text_of (keys_under p s)))) Range (λ d. Ok (nothing, d)) (λ d f. (k, listed_accepted p s d f)))

operate_holds : (op : Operation) (s : Stored) (prefix : Place) (args : List Tree) → IsKept s → AreAccepted args → Holds s (operate op s prefix args)
operate_holds Get s prefix args k h = get_holds s prefix args k
operate_holds Put s prefix args k h = put_holds s prefix args k h
operate_holds Add s prefix args k h = add_holds s prefix args k
operate_holds Take s prefix args k h = take_holds s prefix args k
operate_holds Push s prefix args k h = push_holds s prefix args k h
operate_holds ListKeys s prefix args k h = list_holds s prefix args k

settled_holds : (s : Stored) (r : Result Outcome Refusal) → IsKept s → Holds s r → IsKept (settled s r).0 × IsAccepted (settled s r).1
settled_holds s (Ok o) k h = h
settled_holds s (Err e) k h = (k, error_accepted e)

pub stays_kept : StaysKept
stays_kept fs s name args k h =
    settled_holds s (answer fs s name args) k
    (step_holds s (function_named fs name) Unknown (λ f. operate f.op s (utf8_of f.prefix) args) (λ f e. operate_holds f.op s (utf8_of f.prefix) args k h))

-- a store that holds nothing
pub empty_kept : IsKept []
unfolding IsStrictlySortedBy
empty_kept = record { in_order = tt; few = omega arith; accepted = λ i d h. absurd (omega (arith, h)) }

-- what a call leaves, whether it succeeds or not
pub kept_after : (fs : List Function) (old new : Stored) (name : List ℕ) (args : List Tree) (r : Result Replies NoMemory) → OnOk r (new ≡ (apply fs old name args).0) → OnErr r (new ≡ old)
    → IsKept old → AreAccepted args → IsKept new
kept_after fs old new name args (Ok x) done none k h = subst IsKept (sym done) (stays_kept fs old name args k h).0
kept_after fs old new name args (Err e) done none k h = subst IsKept (sym none) k

pub replies_accepted : (fs : List Function) (old : Stored) (name : List ℕ) (args : List Tree) (r : Result Replies NoMemory) → IfOk r (AreReplies (apply fs old name args).1)
    → IsKept old → AreAccepted args → IfOk r AreAcceptedReplies
replies_accepted fs old name args (Ok x) same k h =
    let a = (stays_kept fs old name args k h).1 in
    record { logged = subst IsAccepted (sym same.logged) a; sent = subst IsAccepted (sym same.sent) a; kept = subst IsAccepted (sym same.kept) a }
replies_accepted fs old name args (Err e) same k h = tt
