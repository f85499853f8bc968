-- Which places stand under a prefix: those from it on, up to the first that does not begin with it.
use Rattle.std.proofs.Common.{◌≡◌, ℕ, ◌≤◌, List, [], ◌∷◌, ◌++◌, map, length, drop, Bool, true, false, cond, ◌&&◌, ◌==◌, nat_eq, leb, Some, None, Vec, Global, refl, sym, ap, ◌∙◌, arith, true≢false, append-nil, subst, IsUtf8}
use Rattle.std.specs.declared.cmp.Ordering.TheVariants.{Less}
use Rattle.std.specs.declared.ops.Bound.TheVariants.{Included, Unbounded}
use Rattle.std.specs.Ordering.{is_le}
use Rattle.std.specs.List.{filter, filter_map, cons_option, starts_with, AllByRecursion}
use Rattle.std.specs.List.Sorted.{IsStrictlySortedBy}
use Rattle.std.specs.Map.{keys_of}
use Rattle.std.specs.BTreeMap.Range.{entries_between, range_contains}
use Rattle.std.specs.Str.{is_utf8, chars}
use Rattle.std.proofs.lemmas.List.{map-append}
use Rattle.std.proofs.lemmas.List.Elements.{filter_map-append}
use Rattle.std.proofs.lemmas.Bool.Decides.{nat_tests}
use Rattle.std.proofs.lemmas.Str.{IsUtf8-from_is_utf8, is_utf8-from_IsUtf8}
use Rattle.rip_base.specs.Text.{IsSameText, encode_utf16_all}
use Rattle.rip_base.proofs.TextLemmas.{IsSameText-chars}
use Rattle.rip_data.specs.Datum.{text}
use Rattle.rip_store.specs.Places.{Place, compare}
use Rattle.rip_store.specs.Operations.{key_behind, keys_under, is_key, text_of}
use Rattle.rip_store.specs.Outcomes.{key_text, with_any}
use Rattle.rip_store.proofs.PlaceLemmas.{Entry, shown, key_cmp}

-- ---- bytes as keys

pub key_text-read : (bytes units : List ℕ) → length bytes ≤ 64 → (¬ (¬ (IsUtf8 bytes))) → ((us : List ℕ) → IsSameText bytes us → units ≡ us) → Some (text units) ≡ key_text bytes
key_text-read bytes units short utf8 only = by (is_utf8 bytes) refl
  where
    by : (b : Bool) → is_utf8 bytes ≡ b → Some (text units) ≡ cond (b && leb (length bytes) 64) (Some (text_of bytes)) None
    by true e =
        let same = only (encode_utf16_all (chars bytes)) (IsSameText-chars bytes _ (IsUtf8-from_is_utf8 bytes e) refl) in
        rw same (grind (arith, nat_tests))
    by false e = absurd (utf8 (λ u. true≢false (sym (is_utf8-from_IsUtf8 bytes u) ∙ e)))

pub key_text-not : (bytes : List ℕ) → (¬ (IsUtf8 bytes)) → None ≡ key_text bytes
key_text-not bytes not = by (is_utf8 bytes) refl
  where
    by : (b : Bool) → is_utf8 bytes ≡ b → None ≡ cond (b && leb (length bytes) 64) (Some (text_of bytes)) None
    by true e = absurd (not (IsUtf8-from_is_utf8 bytes e))
    by false e = refl

-- ---- a place that begins with a prefix

abbrev begins : Place → Place → Bool
begins [] q = true
begins (x ∷ p) [] = false
begins (x ∷ p) (y ∷ q) = (x == y) && begins p q

begins-starts_with : (p q : Place) → starts_with nat_eq q p ≡ begins p q
begins-starts_with [] q = refl
begins-starts_with (x ∷ p) [] = refl
begins-starts_with (x ∷ p) (y ∷ q) = ap (λ b. (x == y) && b) (begins-starts_with p q)

-- a place with the prefix is not before it
is_le-begins : (p q : Place) → begins p q ≡ true → is_le (compare p q) ≡ true
is_le-begins [] [] h = refl
is_le-begins [] (y ∷ q) h = refl
is_le-begins (x ∷ p) [] h = cc
is_le-begins (x ∷ p) (y ∷ q) h = let more = is_le-begins p q in grind (arith, nat_tests, more)

-- between the prefix and a place that begins with it each place does
begins-between : (p e f : Place) → is_le (compare p e) ≡ true → compare e f ≡ Less → begins p f ≡ true → begins p e ≡ true
begins-between [] e f low high h = refl
begins-between (x ∷ p) [] f low high h = cc
begins-between (x ∷ p) (y ∷ e) [] low high h = cc
begins-between (x ∷ p) (y ∷ e) (z ∷ f) low high h = let more = begins-between p e f in grind (arith, nat_tests, more)

key_behind-not : (p q : Place) → begins p q ≡ false → key_behind p q ≡ None
key_behind-not p q h = rw (begins-starts_with p q) (rw h refl)

key_behind-before : (p q : Place) → is_le (compare p q) ≡ false → key_behind p q ≡ None
key_behind-before p q h = by (begins p q) refl
  where
    by : (b : Bool) → begins p q ≡ b → key_behind p q ≡ None
    by true e = absurd (true≢false (sym (is_le-begins p q e) ∙ h))
    by false e = key_behind-not p q e

-- ---- the keys under a prefix

abbrev place : Entry → Place
place e = e.0.items

-- the keys that entries hold under a prefix
abbrev pub under : Place → List Entry → List (List ℕ)
under p es = filter_map (key_behind p) (map place es)

keys_of-shown : (es : List Entry) → keys_of (map shown es) ≡ map place es
keys_of-shown [] = refl
keys_of-shown (e ∷ es) = ap (λ ps. place e ∷ ps) (keys_of-shown es)

-- the entries from a prefix on
abbrev from : Vec ℕ Global → Entry → Bool
from v e = range_contains key_cmp (Included v) Unbounded e.0

from-false : (v : Vec ℕ Global) (e : Entry) → from v e ≡ false → is_le (compare v.items (place e)) ≡ false
from-false v e h = by (is_le (compare v.items (place e))) refl
  where
    by : (b : Bool) → is_le (compare v.items (place e)) ≡ b → b ≡ false
    by true g = absurd (true≢false (ap (λ b. b && true) (sym g) ∙ h))
    by false g = refl

from-true : (v : Vec ℕ Global) (e : Entry) → from v e ≡ true → is_le (compare v.items (place e)) ≡ true
from-true v e h = by (is_le (compare v.items (place e))) refl
  where
    by : (b : Bool) → is_le (compare v.items (place e)) ≡ b → b ≡ true
    by true g = refl
    by false g = absurd (true≢false (sym h ∙ ap (λ b. b && true) g))

under-from : (v : Vec ℕ Global) (es : List Entry) → under v.items (filter (from v) es) ≡ under v.items es
under-from v [] = refl
under-from v (e ∷ es) = by (from v e) refl (under-from v es)
  where
    by : (b : Bool) → from v e ≡ b → under v.items (filter (from v) es) ≡ under v.items es → under v.items (cond b (e ∷ filter (from v) es) (filter (from v) es)) ≡ cons_option (key_behind v.items (place e)) (under v.items es)
    by true g more = ap (cons_option (key_behind v.items (place e))) more
    by false g more = more ∙ sym (ap (λ o. cons_option o (under v.items es)) (key_behind-before v.items (place e) (from-false v e g)))

-- where nothing is left, the keys are those of the entries so far
pub under-all : (p : Place) (v : Vec ℕ Global) (es done : List Entry) → v.items ≡ p → entries_between key_cmp (Included v) Unbounded es ≡ done → under p done ≡ keys_under p (map shown es)
under-all p v es done is all =
    ap (under p) (sym all)
    ∙ ap (λ q. under q (filter (from v) es)) (sym is)
    ∙ under-from v es
    ∙ ap (λ q. under q es) is
    ∙ ap (filter_map (key_behind p)) (sym (keys_of-shown es))

-- ---- where the keys end

abbrev Later : Entry → List Entry → Type 0
Later e es = AllByRecursion (λ f. compare (place e) (place f) ≡ Less) es

Later-filter : (v : Vec ℕ Global) (e : Entry) (es : List Entry) → AllByRecursion (λ k. key_cmp e.0 k ≡ Less) (keys_of es) → Later e (filter (from v) es)
Later-filter v e [] h = tt
Later-filter v e (x ∷ es) h = by (from v x) (Later-filter v e es h.1)
  where
    by : (b : Bool) → Later e (filter (from v) es) → Later e (cond b (x ∷ filter (from v) es) (filter (from v) es))
    by true more = (h.0, more)
    by false more = more

-- an entry that is left is from the prefix on, and those behind it are later
record IsCut (v : Vec ℕ Global) (e : Entry) (rest : List Entry) : Type 0 where
  low : from v e ≡ true
  later : Later e rest

cut : (v : Vec ℕ Global) (es done : List Entry) (e : Entry) (rest : List Entry) → IsStrictlySortedBy key_cmp (keys_of es) → filter (from v) es ≡ done ++ e ∷ rest → IsCut v e rest
unfolding IsStrictlySortedBy
cut v [] [] e rest sorted all = cc
cut v [] (d ∷ done) e rest sorted all = cc
cut v (x ∷ es) done e rest sorted all = by (from v x) refl done all (λ ds. cut v es ds e rest sorted.1)
  where
    by : (b : Bool) → from v x ≡ b → (ds : List Entry) → cond b (x ∷ filter (from v) es) (filter (from v) es) ≡ ds ++ e ∷ rest → ((ds : List Entry) → filter (from v) es ≡ ds ++ e ∷ rest → IsCut v e rest) → IsCut v e rest
    by true g [] h more =
        let same : x ≡ e = cc in
        let left : filter (from v) es ≡ rest = cc in
        let P : Entry → Type 0 = λ y. IsCut v y rest in
        subst P same (record { low = g; later = subst (Later x) left (Later-filter v x es sorted.0) })
    by true g (d ∷ ds) h more = let left : filter (from v) es ≡ ds ++ e ∷ rest = cc in more ds left
    by false g ds h more = more ds h

under-none : (p : Place) (e : Entry) (rest : List Entry) → is_le (compare p (place e)) ≡ true → begins p (place e) ≡ false → Later e rest → under p rest ≡ []
under-none p e [] low not later = refl
under-none p e (f ∷ rest) low not later = ap (λ o. cons_option o (under p rest)) none ∙ under-none p e rest low not later.1
  where
    by : (b : Bool) → begins p (place f) ≡ b → begins p (place f) ≡ false
    by true g = absurd (true≢false (sym (begins-between p (place e) (place f) low later.0 g) ∙ not))
    by false g = g

    none : key_behind p (place f) ≡ None
    none = key_behind-not p (place f) (by (begins p (place f)) refl)

-- where a place does not begin with the prefix, no key is behind it
pub under-cut : (p : Place) (v : Vec ℕ Global) (es done : List Entry) (e : Entry) (rest : List Entry) → v.items ≡ p → IsStrictlySortedBy key_cmp (keys_of es) → entries_between key_cmp (Included v) Unbounded es ≡ done ++ e ∷ rest → starts_with nat_eq (place e) p ≡ false → under p done ≡ keys_under p (map shown es)
under-cut p v es done e rest is sorted all not =
    let c = cut v es done e rest sorted all in
    let low : is_le (compare p (place e)) ≡ true = ap (λ q. is_le (compare q (place e))) (sym is) ∙ from-true v e c.low in
    let off : begins p (place e) ≡ false = sym (begins-starts_with p (place e)) ∙ not in
    let behind : under p (e ∷ rest) ≡ [] = ap (λ o. cons_option o (under p rest)) (key_behind-not p (place e) off) ∙ under-none p e rest low off c.later in
    let parts : under p (done ++ e ∷ rest) ≡ under p done ++ under p (e ∷ rest) = ap (filter_map (key_behind p)) (map-append place done (e ∷ rest)) ∙ filter_map-append (key_behind p) (map place done) (map place (e ∷ rest)) in
    let front : under p (done ++ e ∷ rest) ≡ under p done = parts ∙ ap (λ ks. under p done ++ ks) behind ∙ append-nil (under p done) in
    sym front ∙ under-all p v es (done ++ e ∷ rest) is all

-- one more entry that begins with the prefix
pub under-push : (p : Place) (done : List Entry) (e : Entry) → starts_with nat_eq (place e) p ≡ true → with_any (map text_of (under p done)) (key_text (drop (length p) (place e))) ≡ map text_of (under p (done ++ e ∷ []))
under-push p done e h =
    let parts : under p (done ++ e ∷ []) ≡ under p done ++ cons_option (key_behind p (place e)) [] = ap (filter_map (key_behind p)) (map-append place done (e ∷ [])) ∙ filter_map-append (key_behind p) (map place done) (place e ∷ []) in
    let key = drop (length p) (place e) in
    let one : key_behind p (place e) ≡ cond (is_key key) (Some key) None = ap (λ b. cond (b && is_key key) (Some key) None) h in
    by (is_key key) ∙ sym (ap (map text_of) (parts ∙ ap (λ o. under p done ++ cons_option o []) one))
  where
    by : (b : Bool) → with_any (map text_of (under p done)) (cond b (Some (text_of (drop (length p) (place e)))) None) ≡ map text_of (under p done ++ cons_option (cond b (Some (drop (length p) (place e))) None) [])
    by true = sym (map-append text_of (under p done) (drop (length p) (place e) ∷ []))
    by false = ap (map text_of) (sym (append-nil (under p done)))
