-- The entries of the map beside the places of the store.
use Rattle.std.proofs.Common.{◌≡◌, ℕ, List, [], ◌∷◌, map, Bool, true, false, cond, Option, Some, None, Result, Ok, Err, OnOk, OnErr, Vec, Global, Bor, refl, sym, ap, ◌∙◌, subst}
use Rattle.std.specs.Prelude.{option_map, is_some}
use Rattle.std.specs.Option.{option_copied}
use Rattle.std.specs.declared.cmp.Ordering.{Ordering}
use Rattle.std.specs.declared.cmp.Ordering.TheVariants.{Less, Equal, Greater}
use Rattle.std.specs.Ordering.{nat_cmp, match_ordering, is_eq}
use Rattle.std.specs.Cmp.Lexicographic.{slice_cmp}
use Rattle.std.specs.List.{AllByRecursion}
use Rattle.std.specs.List.Sorted.{IsStrictlySortedBy}
use Rattle.std.specs.Map.{keys_of, lookup, remove_entry, set_value}
use Rattle.std.specs.BTreeMap.{insert_entry, is_at}
use Rattle.std.proofs.lemmas.Cmp.{nat_list_cmp_total}
use Rattle.std.proofs.lemmas.Map.{lookup-none}
use Rattle.std.proofs.lemmas.Map.Entries.{none_below_head}
use Rattle.std.proofs.lemmas.Map.Steps.{set_value_same}
use Rattle.rip_data.specs.Datum.{Tree, null, boolean, number, text, array, object, element, no_elements, tree_of}
use Rattle.rip_data.specs.declared.datum.Datum.{Datum}
use Rattle.rip_store.specs.Places.{Place, Stored, IsStore, value_at, keep, changed, compare}
use Rattle.rip_store.specs.Operations.{list_or_empty}
use Rattle.rip_store.specs.Outcomes.{pushed, with_item}

-- an entry of the map, and as contracts see it
abbrev pub Entry : Type 0
Entry = Vec ℕ Global × Datum

abbrev pub shown : Entry → Place × Tree
shown e = (e.0.items, tree_of e.1)

-- how the map compares its keys
abbrev pub key_cmp : Vec ℕ Global → Vec ℕ Global → Ordering
key_cmp a b = slice_cmp nat_cmp a.items b.items

map-cond : (b : Bool) (xs ys : List Entry) → map shown (cond b xs ys) ≡ cond b (map shown xs) (map shown ys)
map-cond true xs ys = refl
map-cond false xs ys = refl

option_map-cond : (b : Bool) (x y : Option Datum) → option_map tree_of (cond b x y) ≡ cond b (option_map tree_of x) (option_map tree_of y)
option_map-cond true x y = refl
option_map-cond false x y = refl

map-match : (o : Ordering) (xs ys zs : List Entry) → map shown (match_ordering o xs ys zs) ≡ match_ordering o (map shown xs) (map shown ys) (map shown zs)
map-match Less xs ys zs = refl
map-match Equal xs ys zs = refl
map-match Greater xs ys zs = refl

-- what is found in the map is what the store holds there
pub lookup-shown : (p : Place) (es : List Entry) → option_map tree_of (lookup (is_at (λ (k : Vec ℕ Global). slice_cmp nat_cmp p k.items)) es) ≡ lookup (is_at (compare p)) (map shown es)
lookup-shown p [] = refl
lookup-shown p (e ∷ es) =
    option_map-cond (is_eq (slice_cmp nat_cmp p e.0.items)) _ _
    ∙ ap (λ (o : Option Tree). cond (is_eq (slice_cmp nat_cmp p e.0.items)) (Some (tree_of e.1)) o) (lookup-shown p es)

-- what is put into the map is kept in the store
pub insert_entry-shown : (es : List Entry) (k : Vec ℕ Global) (d : Datum) → map shown (insert_entry key_cmp es k d) ≡ insert_entry compare (map shown es) k.items (tree_of d)
insert_entry-shown [] k d = refl
insert_entry-shown (e ∷ es) k d =
    map-match (key_cmp k e.0) _ _ _
    ∙ ap (λ (fs : Stored). match_ordering (slice_cmp nat_cmp k.items e.0.items) ((k.items, tree_of d) ∷ shown e ∷ map shown es) ((e.0.items, tree_of d) ∷ map shown es) (shown e ∷ fs)) (insert_entry-shown es k d)

-- what is changed in the map is changed in the store
set_value-shown : (p : Place) (es : List Entry) (d : Datum) → map shown (set_value (is_at (λ (k : Vec ℕ Global). slice_cmp nat_cmp p k.items)) es d) ≡ set_value (is_at (compare p)) (map shown es) (tree_of d)
set_value-shown p [] d = refl
set_value-shown p (e ∷ es) d =
    map-cond (is_eq (slice_cmp nat_cmp p e.0.items)) _ _
    ∙ ap (λ (fs : Stored). cond (is_eq (slice_cmp nat_cmp p e.0.items)) ((e.0.items, tree_of d) ∷ map shown es) (shown e ∷ fs)) (set_value-shown p es d)

-- the places are in order where the keys of the map are
later-shown : (p : Place) (es : List Entry) → AllByRecursion (λ (k : Vec ℕ Global). slice_cmp nat_cmp p k.items ≡ Less) (keys_of es) → AllByRecursion (λ q. compare p q ≡ Less) (keys_of (map shown es))
later-shown p [] h = tt
later-shown p (e ∷ es) h = (h.0, later-shown p es h.1)

pub sorted-shown : (es : List Entry) → IsStrictlySortedBy key_cmp (keys_of es) → IsStore (map shown es)
unfolding IsStrictlySortedBy
sorted-shown [] h = tt
sorted-shown (e ∷ es) h = (later-shown e.0.items es h.0, sorted-shown es h.1)

-- a datum that is put where one is found takes its place
insert_entry-found : (s : Stored) (p : Place) (t d : Tree) → IsStore s → value_at s p ≡ Some t → insert_entry compare s p d ≡ set_value (is_at (compare p)) s d
unfolding IsStrictlySortedBy
insert_entry-found [] p t d sorted h = cc
insert_entry-found (e ∷ s) p t d sorted h = by (compare p e.0) refl h (insert_entry-found s p t d sorted.1)
  where
    by : (o : Ordering) → compare p e.0 ≡ o → cond (is_eq o) (Some e.1) (value_at s p) ≡ Some t → (value_at s p ≡ Some t → insert_entry compare s p d ≡ set_value (is_at (compare p)) s d)
        → match_ordering o ((p, d) ∷ e ∷ s) ((e.0, d) ∷ s) (e ∷ insert_entry compare s p d) ≡ cond (is_eq o) ((e.0, d) ∷ s) (e ∷ set_value (is_at (compare p)) s d)
    by Less g found more =
        let none : value_at (e ∷ s) p ≡ None = lookup-none (is_at (compare p)) (e ∷ s) (none_below_head nat_list_cmp_total p e s sorted g) in
        let off : cond (is_eq Less) (Some e.1) (value_at s p) ≡ value_at (e ∷ s) p = ap (λ o. cond (is_eq o) (Some e.1) (value_at s p)) (sym g) in
        let not : ◌≡◌ {A = Option Tree} (Some t) None = sym found ∙ off ∙ none in
        cc
    by Equal g found more = refl
    by Greater g found more = ap (λ fs. e ∷ fs) (more found)

-- what is written through a reference into the map is kept in the store
pub written-shown : (p : Place) (es fs : List Entry) (old new : Datum) → IsStrictlySortedBy key_cmp (keys_of es) → value_at (map shown es) p ≡ Some (tree_of old) → fs ≡ set_value (is_at (λ (k : Vec ℕ Global). slice_cmp nat_cmp p k.items)) es new → map shown fs ≡ insert_entry compare (map shown es) p (tree_of new)
written-shown p es fs old new sorted found is =
    ap (map shown) is
    ∙ set_value-shown p es new
    ∙ sym (insert_entry-found (map shown es) p (tree_of old) (tree_of new) (sorted-shown es sorted) found)

-- what is taken out of the map is given up in the store
pub remove_entry-shown : (p : Place) (es : List Entry) → map shown (remove_entry (is_at (λ (k : Vec ℕ Global). slice_cmp nat_cmp p k.items)) es) ≡ remove_entry (is_at (compare p)) (map shown es)
remove_entry-shown p [] = refl
remove_entry-shown p (e ∷ es) =
    map-cond (is_eq (slice_cmp nat_cmp p e.0.items)) _ _
    ∙ ap (λ (fs : Stored). cond (is_eq (slice_cmp nat_cmp p e.0.items)) (map shown es) (shown e ∷ fs)) (remove_entry-shown p es)

-- what a reference to the datum shows
pub shown-copied : (r : Option (Bor Datum)) → option_map (λ d. tree_of d.now) r ≡ option_map tree_of (option_copied r)
shown-copied None = refl
shown-copied (Some d) = refl

pub is_some-shown : (r : Option (Bor Datum)) → is_some (option_map (λ d. tree_of d.now) r) ≡ is_some r
is_some-shown None = refl
is_some-shown (Some d) = refl

-- ---- a list that grows

-- where a datum is found, the same datum is put without a change
same-shown : (s : Stored) (p : Place) (t : Tree) → IsStore s → value_at s p ≡ Some t → insert_entry compare s p t ≡ s
same-shown s p t sorted h = insert_entry-found s p t t sorted h ∙ set_value_same (is_at (compare p)) s t h

pub pushed-shown : (s : Stored) (p : Place) (t v : Tree) → IsStore s → value_at s p ≡ Some t → insert_entry compare s p (with_item t v) ≡ changed s (pushed p (list_or_empty (value_at s p)) v)
pushed-shown s p null v sorted h = same-shown s p null sorted h ∙ sym (ap (λ o. changed s (pushed p (list_or_empty o) v)) h)
pushed-shown s p (boolean b) v sorted h = same-shown s p (boolean b) sorted h ∙ sym (ap (λ o. changed s (pushed p (list_or_empty o) v)) h)
pushed-shown s p (number z) v sorted h = same-shown s p (number z) sorted h ∙ sym (ap (λ o. changed s (pushed p (list_or_empty o) v)) h)
pushed-shown s p (text u) v sorted h = same-shown s p (text u) sorted h ∙ sym (ap (λ o. changed s (pushed p (list_or_empty o) v)) h)
pushed-shown s p (array es) v sorted h = sym (ap (λ o. changed s (pushed p (list_or_empty o) v)) h)
pushed-shown s p (object fs) v sorted h = same-shown s p (object fs) sorted h ∙ sym (ap (λ o. changed s (pushed p (list_or_empty o) v)) h)

-- what the store holds once a datum that was found is another
pub record IsWritten (s new : Stored) (p : Place) (old : Tree) (now : Tree) : Type 0 where
  pub sorted : IsStore s
  pub found : value_at s p ≡ Some old
  pub written : new ≡ insert_entry compare s p now

pub written_in : (q p : Place) (es fs : List Entry) (old new : Datum) → q ≡ p → IsStrictlySortedBy key_cmp (keys_of es) → Some old ≡ lookup (is_at (λ (k : Vec ℕ Global). slice_cmp nat_cmp q k.items)) es → fs ≡ set_value (is_at (λ (k : Vec ℕ Global). slice_cmp nat_cmp q k.items)) es new → IsWritten (map shown es) (map shown fs) p (tree_of old) (tree_of new)
written_in q p es fs old new same sorted is written =
    let found : value_at (map shown es) q ≡ Some (tree_of old) = sym (lookup-shown q es) ∙ ap (option_map tree_of) (sym is) in
    let all : IsWritten (map shown es) (map shown fs) q (tree_of old) (tree_of new) = record { sorted = sorted-shown es sorted; found = found; written = written-shown q es fs old new sorted found written } in
    subst (λ r. IsWritten (map shown es) (map shown fs) r (tree_of old) (tree_of new)) same all

pub absent_in : (q p : Place) (es : List Entry) → q ≡ p → ◌≡◌ {A = Option Datum} None (lookup (is_at (λ (k : Vec ℕ Global). slice_cmp nat_cmp q k.items)) es) → value_at (map shown es) p ≡ None
absent_in q p es same is =
    let none : value_at (map shown es) q ≡ None = sym (lookup-shown q es) ∙ ap (option_map tree_of) (sym is) in
    subst (λ r. value_at (map shown es) r ≡ None) same none

pub pushed-done : {R E : Type 0} (r : Result R E) (s new : Stored) (p : Place) (old now v : Tree) → IsWritten s new p old now → OnOk r (now ≡ with_item old v) → OnOk r (new ≡ changed s (pushed p (list_or_empty (value_at s p)) v))
pushed-done (Ok x) s new p old now v w h = w.written ∙ ap (insert_entry compare s p) h ∙ pushed-shown s p old v w.sorted w.found
pushed-done (Err x) s new p old now v w h = tt

pub pushed-not : {R E : Type 0} (r : Result R E) (s new : Stored) (p : Place) (old now : Tree) → IsWritten s new p old now → OnErr r (now ≡ old) → OnErr r (new ≡ s)
pushed-not (Ok x) s new p old now w h = tt
pushed-not (Err x) s new p old now w h = w.written ∙ ap (insert_entry compare s p) h ∙ same-shown s p old w.sorted w.found

pub pushed-absent : {R E : Type 0} (r : Result R E) (s mid new : Stored) (p : Place) (t v : Tree) → mid ≡ s → value_at s p ≡ None → t ≡ array (element v no_elements) → OnOk r (new ≡ changed mid (keep p t)) → OnOk r (new ≡ changed s (pushed p (list_or_empty (value_at s p)) v))
pushed-absent (Ok x) s mid new p t v same none is h =
    h
    ∙ ap (λ m. insert_entry compare m p t) same
    ∙ ap (insert_entry compare s p) is
    ∙ sym (ap (λ o. changed s (pushed p (list_or_empty o) v)) none)
pushed-absent (Err x) s mid new p t v same none is h = tt
