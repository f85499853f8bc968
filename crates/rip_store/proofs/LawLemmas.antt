-- What is found in a store after a change.
use Rattle.std.proofs.Common.{◌≡◌, ◌≢◌, ℕ, List, [], ◌∷◌, Bool, true, false, cond, Option, Some, None, Result, Ok, Err, refl, sym, ap, ◌∙◌}
use Rattle.std.specs.declared.cmp.Ordering.{Ordering}
use Rattle.std.specs.declared.cmp.Ordering.TheVariants.{Less, Equal, Greater}
use Rattle.std.specs.Ordering.{nat_cmp, match_ordering, is_eq, ordering_reverse}
use Rattle.std.specs.Cmp.{IsTotalOrder}
use Rattle.std.specs.Cmp.Lexicographic.{slice_cmp}
use Rattle.std.specs.List.{AllByRecursion}
use Rattle.std.specs.List.Sorted.{IsStrictlySortedBy}
use Rattle.std.specs.Map.{keys_of, remove_entry}
use Rattle.std.specs.BTreeMap.{insert_entry, is_at}
use Rattle.std.proofs.lemmas.Cmp.{tied_itself, nat_list_cmp_total}
use Rattle.std.proofs.lemmas.Map.Lookups.{exact_bytes}
use Rattle.std.specs.Prelude.{option_map}
use Rattle.std.specs.Option.{ok_or}
use Rattle.rip_data.specs.Datum.{Tree, boolean, utf8_of}
use Rattle.rip_store.specs.declared.refusal.Refusal.{Refusal}
use Rattle.rip_store.specs.declared.refusal.Refusal.TheVariants.{Unknown, Arguments, Full}
use Rattle.rip_manifest.specs.declared.function.Function.{Function}
use Rattle.rip_manifest.specs.declared.function.Operation.{Operation}
use Rattle.rip_manifest.specs.declared.function.Operation.TheVariants.{Get, Put, Take}
use Rattle.rip_store.specs.Places.{Place, Stored, compare, IsStore, value_at, nothing, keep, remove, changed}
use Rattle.rip_store.specs.Laws.{KeptIsFound, RemovedIsAbsent, OthersStay, OrderStays, RefusalLeaves, StoreStays, PutIsGot, TakenIsGone}
use Rattle.rip_store.specs.Args.{place_of}
use Rattle.rip_store.specs.Operations.{Outcome, ◌>>=◌, get, put, take, kept, is_full, or_null, operate}
use Rattle.rip_store.specs.Apply.{function_named, answer, apply, settled}

total : IsTotalOrder (slice_cmp nat_cmp)
total = nat_list_cmp_total

not_eq : (q p : Place) → (q ≢ p) → is_eq (compare q p) ≡ false
not_eq q p apart = by (compare q p) refl
  where
    by : (o : Ordering) → compare q p ≡ o → is_eq o ≡ false
    by Less h = refl
    by Equal h = absurd (apart (exact_bytes q p h))
    by Greater h = refl

-- ---- a place that gets a datum

pub kept_is_found : KeptIsFound
kept_is_found [] p d = ap (λ o. cond (is_eq o) (Some d) None) (tied_itself total p)
kept_is_found (e ∷ s) p d = by (compare p e.0) refl (kept_is_found s p d)
  where
    by : (o : Ordering) → compare p e.0 ≡ o → value_at (insert_entry compare s p d) p ≡ Some d → value_at (match_ordering o ((p, d) ∷ e ∷ s) ((e.0, d) ∷ s) (e ∷ insert_entry compare s p d)) p ≡ Some d
    by Less h more = ap (λ o. cond (is_eq o) (Some d) (value_at (e ∷ s) p)) (tied_itself total p)
    by Equal h more = ap (λ o. cond (is_eq o) (Some d) (value_at s p)) h
    by Greater h more = ap (λ o. cond (is_eq o) (Some e.1) (value_at (insert_entry compare s p d) p)) h ∙ more

kept_apart : (s : Stored) (p : Place) (d : Tree) (q : Place) → (q ≢ p) → value_at (insert_entry compare s p d) q ≡ value_at s q
kept_apart [] p d q apart = ap (λ b. cond b (Some d) None) (not_eq q p apart)
kept_apart (e ∷ s) p d q apart = by (compare p e.0) refl (kept_apart s p d q apart)
  where
    by : (o : Ordering) → compare p e.0 ≡ o → value_at (insert_entry compare s p d) q ≡ value_at s q → value_at (match_ordering o ((p, d) ∷ e ∷ s) ((e.0, d) ∷ s) (e ∷ insert_entry compare s p d)) q ≡ value_at (e ∷ s) q
    by Less h more = ap (λ b. cond b (Some d) (value_at (e ∷ s) q)) (not_eq q p apart)
    by Equal h more =
        let off : is_eq (compare q e.0) ≡ false = not_eq q e.0 (λ same. apart (same ∙ sym (exact_bytes p e.0 h))) in
        ap (λ b. cond b (Some d) (value_at s q)) off ∙ sym (ap (λ b. cond b (Some e.1) (value_at s q)) off)
    by Greater h more = ap (cond (is_eq (compare q e.0)) (Some e.1)) more

-- ---- a place that is given up

-- the place is before each of these
abbrev IsBefore : Place → List Place → Type 0
IsBefore p ks = AllByRecursion (λ k. compare p k ≡ Less) ks

-- a place before all of them is none of them
absent : (p q : Place) (s : Stored) → compare p q ≡ Equal → IsBefore q (keys_of s) → value_at s p ≡ None
absent p q [] same h = refl
absent p q (e ∷ s) same h =
    let off : compare p e.0 ≡ Less = total.congr p q e.0 same ∙ h.0 in
    ap (λ o. cond (is_eq o) (Some e.1) (value_at s p)) off ∙ absent p q s same h.1

pub removed_is_absent : RemovedIsAbsent
unfolding IsStrictlySortedBy
removed_is_absent [] p h = refl
removed_is_absent (e ∷ s) p h = by (compare p e.0) refl (removed_is_absent s p h.1)
  where
    by : (o : Ordering) → compare p e.0 ≡ o → value_at (remove_entry (is_at (compare p)) s) p ≡ None → value_at (cond (is_eq o) s (e ∷ remove_entry (is_at (compare p)) s)) p ≡ None
    by Less g more = ap (λ o. cond (is_eq o) (Some e.1) (value_at (remove_entry (is_at (compare p)) s) p)) g ∙ more
    by Equal g more = absent p e.0 s g h.0
    by Greater g more = ap (λ o. cond (is_eq o) (Some e.1) (value_at (remove_entry (is_at (compare p)) s) p)) g ∙ more

removed_apart : (s : Stored) (p q : Place) → (q ≢ p) → value_at (remove_entry (is_at (compare p)) s) q ≡ value_at s q
removed_apart [] p q apart = refl
removed_apart (e ∷ s) p q apart = by (compare p e.0) refl (removed_apart s p q apart)
  where
    by : (o : Ordering) → compare p e.0 ≡ o → value_at (remove_entry (is_at (compare p)) s) q ≡ value_at s q → value_at (cond (is_eq o) s (e ∷ remove_entry (is_at (compare p)) s)) q ≡ value_at (e ∷ s) q
    by Less g more = ap (cond (is_eq (compare q e.0)) (Some e.1)) more
    by Equal g more =
        let off : is_eq (compare q e.0) ≡ false = not_eq q e.0 (λ same. apart (same ∙ sym (exact_bytes p e.0 g))) in
        sym (ap (λ b. cond b (Some e.1) (value_at s q)) off)
    by Greater g more = ap (cond (is_eq (compare q e.0)) (Some e.1)) more

pub others_stay : OthersStay
others_stay s nothing q apart = refl
others_stay s (keep p d) q apart = kept_apart s p d q apart
others_stay s (remove p) q apart = removed_apart s p q apart

-- ---- the order of the places

before_kept : (q : Place) (s : Stored) (p : Place) (d : Tree) → compare q p ≡ Less → IsBefore q (keys_of s) → IsBefore q (keys_of (insert_entry compare s p d))
before_kept q [] p d low h = (low, tt)
before_kept q (e ∷ s) p d low h = by (compare p e.0) (before_kept q s p d low h.1)
  where
    by : (o : Ordering) → IsBefore q (keys_of (insert_entry compare s p d)) → IsBefore q (keys_of (match_ordering o ((p, d) ∷ e ∷ s) ((e.0, d) ∷ s) (e ∷ insert_entry compare s p d)))
    by Less more = (low, (h.0, h.1))
    by Equal more = (h.0, h.1)
    by Greater more = (h.0, more)

before_lower : (p q : Place) (ks : List Place) → compare p q ≡ Less → IsBefore q ks → IsBefore p ks
before_lower p q [] low h = tt
before_lower p q (k ∷ ks) low h = (total.trans p q k low h.0, before_lower p q ks low h.1)

order_kept : (s : Stored) (p : Place) (d : Tree) → IsStore s → IsStore (insert_entry compare s p d)
unfolding IsStrictlySortedBy
order_kept [] p d h = (tt, tt)
order_kept (e ∷ s) p d h = by (compare p e.0) refl (order_kept s p d h.1)
  where
    by : (o : Ordering) → compare p e.0 ≡ o → IsStore (insert_entry compare s p d) → IsStore (match_ordering o ((p, d) ∷ e ∷ s) ((e.0, d) ∷ s) (e ∷ insert_entry compare s p d))
    by Less g more = ((g, before_lower p e.0 (keys_of s) g h.0), h)
    by Equal g more = (h.0, h.1)
    by Greater g more = (before_kept e.0 s p d (total.antisymm e.0 p ∙ ap ordering_reverse g) h.0, more)

before_removed : (q p : Place) (s : Stored) → IsBefore q (keys_of s) → IsBefore q (keys_of (remove_entry (is_at (compare p)) s))
before_removed q p [] h = tt
before_removed q p (e ∷ s) h = by (is_eq (compare p e.0)) (before_removed q p s h.1)
  where
    by : (b : Bool) → IsBefore q (keys_of (remove_entry (is_at (compare p)) s)) → IsBefore q (keys_of (cond b s (e ∷ remove_entry (is_at (compare p)) s)))
    by true more = h.1
    by false more = (h.0, more)

order_removed : (s : Stored) (p : Place) → IsStore s → IsStore (remove_entry (is_at (compare p)) s)
unfolding IsStrictlySortedBy
order_removed [] p h = tt
order_removed (e ∷ s) p h = by (is_eq (compare p e.0)) (order_removed s p h.1)
  where
    by : (b : Bool) → IsStore (remove_entry (is_at (compare p)) s) → IsStore (cond b s (e ∷ remove_entry (is_at (compare p)) s))
    by true more = h.1
    by false more = (before_removed e.0 p s h.0, more)

pub order_stays : OrderStays
order_stays s nothing h = h
order_stays s (keep p d) h = order_kept s p d h
order_stays s (remove p) h = order_removed s p h

-- ---- calls

pub refusal_leaves : RefusalLeaves
refusal_leaves fs s name args e h = ap (settled s) h

pub store_stays : StoreStays
store_stays fs s name args h = by (answer fs s name args)
  where
    by : (r : Result Outcome Refusal) → IsStore (settled s r).0
    by (Ok o) = order_stays s o.0 h
    by (Err e) = h

-- ---- operations of one prefix

abbrev pair_with : Tree → Place → Place × Tree
pair_with d p = (p, d)

abbrev keeps : Stored → Place × Tree → Result Outcome Refusal
keeps s a = kept s a.0 a.1 (boolean true)

-- `put` of a key that names a place, or none
abbrev put_at : Stored → Tree → Option Place → Result Outcome Refusal
put_at s d o = ok_or (option_map (pair_with d) o) Arguments >>= keeps s

put_goes_full : (s : Stored) (p : Place) (d : Tree) (b : Bool) → (settled s (cond b (Err Full) (Ok (keep p d, boolean true)))).1 ≡ boolean true → (settled s (cond b (Err Full) (Ok (keep p d, boolean true)))).0 ≡ changed s (keep p d)
put_goes_full s p d true h = cc
put_goes_full s p d false h = refl

-- what `put` gives where its reply is true
put_goes : (s : Stored) (prefix : Place) (k d : Tree) → (settled s (put s prefix (k ∷ d ∷ []))).1 ≡ boolean true → (p : Place) × ((place_of prefix k ≡ Some p) × ((settled s (put s prefix (k ∷ d ∷ []))).0 ≡ changed s (keep p d)))
put_goes s prefix k d h = by (place_of prefix k) refl h
  where
    by : (o : Option Place) → place_of prefix k ≡ o → (settled s (put_at s d o)).1 ≡ boolean true → (p : Place) × ((place_of prefix k ≡ Some p) × ((settled s (put_at s d o)).0 ≡ changed s (keep p d)))
    by None e g = cc
    by (Some p) e g = (p, (e, put_goes_full s p d (is_full s p) g))

-- what `get` replies of a key
get_goes : (s : Stored) (prefix : Place) (k : Tree) (p : Place) → place_of prefix k ≡ Some p → (settled s (get s prefix (k ∷ []))).1 ≡ or_null (value_at s p)
get_goes s prefix k p e = ap (λ (o : Option Place). (settled s (ok_or o Arguments >>= (λ q. Ok (nothing, or_null (value_at s q))))).1) e

-- what `take` leaves of a key
take_goes : (s : Stored) (prefix : Place) (k : Tree) (p : Place) → place_of prefix k ≡ Some p → (settled s (take s prefix (k ∷ []))).0 ≡ changed s (remove p)
take_goes s prefix k p e = ap (λ (o : Option Place). (settled s (ok_or o Arguments >>= (λ q. Ok (remove q, or_null (value_at s q))))).0) e

-- a call of a function that is there
goes : (fs : List Function) (s : Stored) (name : List ℕ) (args : List Tree) (f : Function) (op : Operation) → function_named fs name ≡ Some f → f.op ≡ op → apply fs s name args ≡ settled s (operate op s (utf8_of f.prefix) args)
goes fs s name args f op named is =
    ap (λ (o : Option Function). settled s (ok_or o Unknown >>= (λ g. operate g.op s (utf8_of g.prefix) args))) named
    ∙ ap (λ (o : Operation). settled s (operate o s (utf8_of f.prefix) args)) is

pub put_is_got : PutIsGot
put_is_got fs s by_put by_get f g named is_put found is_get same k d h =
    let first : apply fs s by_put (k ∷ d ∷ []) ≡ settled s (put s (utf8_of f.prefix) (k ∷ d ∷ [])) = goes fs s by_put (k ∷ d ∷ []) f Put named is_put in
    let w = put_goes s (utf8_of f.prefix) k d (sym (ap (λ r. r.1) first) ∙ h) in
    let store : (apply fs s by_put (k ∷ d ∷ [])).0 ≡ changed s (keep w.0 d) = ap (λ r. r.0) first ∙ w.1.1 in
    ap (λ t. (apply fs t by_get (k ∷ [])).1) store
    ∙ ap (λ r. r.1) (goes fs (changed s (keep w.0 d)) by_get (k ∷ []) g Get found is_get)
    ∙ get_goes (changed s (keep w.0 d)) (utf8_of g.prefix) k w.0 (ap (λ prefix. place_of (utf8_of prefix) k) same ∙ w.1.0)
    ∙ ap or_null (kept_is_found s w.0 d)

pub taken_is_gone : TakenIsGone
taken_is_gone fs s by_take by_get f g named is_take found is_get same k p key h =
    let store : (apply fs s by_take (k ∷ [])).0 ≡ changed s (remove p) =
    ap (λ r. r.0) (goes fs s by_take (k ∷ []) f Take named is_take) ∙ take_goes s (utf8_of f.prefix) k p key in
    ap (λ t. (apply fs t by_get (k ∷ [])).1) store
    ∙ ap (λ r. r.1) (goes fs (changed s (remove p)) by_get (k ∷ []) g Get found is_get)
    ∙ get_goes (changed s (remove p)) (utf8_of g.prefix) k p (ap (λ prefix. place_of (utf8_of prefix) k) same ∙ key)
    ∙ ap or_null (removed_is_absent s p h)
