-- Lists: how many elements they have, how long their texts are, and what one element more adds.
use Rattle.std.proofs.Common.{◌≡◌, ℕ, pos, ◌+◌, ◌<◌, ◌≤◌, min, List, [], ◌∷◌, ◌++◌, map, length, true, Option, Some, None, Ok, Err, MatchOption, Vec, Global, refl, sym, ap, ◌∙◌, subst, arith, length-append}
use Rattle.std.specs.Option.{IsSomeAnd, ok_or}
use Rattle.std.proofs.lemmas.Bool.Decides.{nat_tests}
use Rattle.serde_json.specs.Written.{items_text}
use Rattle.rip_data.specs.Datum.{Tree, null, boolean, number, text, object, tree_of, array, Elements, no_elements, element, elements_of, canonical_text, items_of}
use Rattle.rip_data.specs.declared.datum.Datum.{Datum}
use Rattle.rip_data.specs.declared.datum.Datum as datum
use Rattle.rip_data.specs.declared.datum.Datum.TheViews.{roll-DatumList}
use Rattle.rip_data.specs.declared.datum.DatumList.{DatumList, out-DatumList}
use Rattle.rip_data.proofs.DataLemmas.{tree_of-array, tree_of-List}
use Rattle.rip_store.specs.declared.refusal.Refusal.TheVariants.{Range, Full}
use Rattle.rip_store.specs.declared.outcome.ListSize.{ListSize}
use Rattle.rip_store.specs.Args.{list_of}
use Rattle.rip_store.specs.Operations.{◌>>=◌, count, short_list, with_last}
use Rattle.rip_store.specs.Outcomes.{IsSizeOf, longer_count, with_item}

-- ---- how many elements

pub count-elements_of : (ds : List Datum) → count (elements_of (map tree_of ds)) ≡ length ds
count-elements_of [] = refl
count-elements_of (d ∷ ds) = let more = count-elements_of ds in omega arith

later_many : (es : Elements) → count es < length (items_text true (items_of es))
later_many no_elements = omega arith
later_many (element d es) = let more = later_many es in let size = length-append (canonical_text d) (items_text true (items_of es)) in omega (arith, more, size)

-- a text has at least as many bytes as the list has elements
pub array_many : (es : Elements) → count es ≤ length (canonical_text (array es))
array_many no_elements = omega arith
array_many (element d es) = let more = later_many es in let size = length-append (canonical_text d) (items_text true (items_of es)) in omega (arith, more, size)

-- ---- one element more

pub elements_of-push : (ds : List Datum) (d : Datum) → elements_of (map tree_of (ds ++ d ∷ [])) ≡ with_last (elements_of (map tree_of ds)) (tree_of d)
elements_of-push [] d = refl
elements_of-push (e ∷ ds) d = ap (element (tree_of e)) (elements_of-push ds d)

pub count-with_last : (es : Elements) (t : Tree) → count (with_last es t) ≡ count es + 1
count-with_last no_elements t = refl
count-with_last (element e es) t = ap (λ n. n + 1) (count-with_last es t)

later-with_last : (es : Elements) (t : Tree) → length (items_text true (items_of (with_last es t))) ≡ length (items_text true (items_of es)) + length (canonical_text t) + 1
later-with_last no_elements t = omega (arith, length-append (canonical_text t) (93 ∷ []))
later-with_last (element e es) t =
    let before = length-append (canonical_text e) (items_text true (items_of es)) in
    let after = length-append (canonical_text e) (items_text true (items_of (with_last es t))) in
    omega (arith, later-with_last es t, before, after)

-- an element behind none adds its text, and one behind others a comma too
pub length-with_first : (t : Tree) → length (canonical_text (array (element t no_elements))) ≡ length (canonical_text t) + 2
length-with_first t = omega (arith, length-append (canonical_text t) (93 ∷ []))

pub length-with_last : (e : Tree) (es : Elements) (t : Tree) → length (canonical_text (array (with_last (element e es) t))) ≡ length (canonical_text (array (element e es))) + 1 + length (canonical_text t)
length-with_last e es t =
    let before = length-append (canonical_text e) (items_text true (items_of es)) in
    let after = length-append (canonical_text e) (items_text true (items_of (with_last es t))) in
    omega (arith, later-with_last es t, before, after)

-- the same for any list, with the comma that stands before the element where there are others
pub length-grown : (ds : List Datum) (t : Tree) (comma : ℕ) → (length ds ≡ 0 → comma ≡ 0) → (0 < length ds → comma ≡ 1) → length (canonical_text (array (with_last (elements_of (map tree_of ds)) t))) ≡ length (canonical_text (array (elements_of (map tree_of ds)))) + comma + length (canonical_text t)
length-grown [] t comma none some = let zero = none refl in omega (arith, length-with_first t, zero)
length-grown (d ∷ ds) t comma none some =
    let one : comma ≡ 1 = some (omega arith) in
    omega (arith, length-with_last (tree_of d) (elements_of (map tree_of ds)) t, one)

-- the bytes of a list with one element more, as they are reckoned from those of the list and of the element
pub bytes-with_item : (t item : Tree) (ds : List Datum) (bytes comma before size sum : ℕ) → t ≡ array (elements_of (map tree_of ds)) → bytes ≡ min (length (canonical_text t)) 18446744073709551615 → (length ds ≡ 0 → comma ≡ 0) → (0 < length ds → comma ≡ 1) → before ≡ min (bytes + comma) 18446744073709551615 → size ≡ min (length (canonical_text item)) 18446744073709551615 → sum ≡ min (before + size) 18446744073709551615 → sum ≡ min (length (canonical_text (with_item t item))) 18446744073709551615
bytes-with_item t item ds bytes comma before size sum is b none some f s all =
    let grown = length-grown ds item comma none some in
    let old : length (canonical_text t) ≡ length (canonical_text (array (elements_of (map tree_of ds)))) = ap (λ u. length (canonical_text u)) is in
    let new : length (canonical_text (with_item t item)) ≡ length (canonical_text (array (with_last (elements_of (map tree_of ds)) item))) = ap (λ u. length (canonical_text (with_item u item))) is in
    omega (arith, grown, old, new, b, f, s, all)

-- a datum that is a list, with its elements and one more, and with its elements alone
pub pushed-list : (d : Datum) (l : DatumList) (v : Vec Datum Global) (item : Datum) → d ≡ datum.List l → v.items ≡ (out-DatumList l).items.items ++ item ∷ [] → tree_of (datum.List (roll-DatumList (record { items = v }))) ≡ with_item (tree_of d) (tree_of item)
pushed-list d l v item is more =
    tree_of-List v
    ∙ ap (λ ds. array (elements_of (map tree_of ds))) more
    ∙ ap array (elements_of-push (out-DatumList l).items.items item)
    ∙ sym (ap (λ t. with_item t (tree_of item)) (ap tree_of is ∙ tree_of-array l))

pub same-list : (d : Datum) (l : DatumList) (v : Vec Datum Global) → d ≡ datum.List l → v.items ≡ (out-DatumList l).items.items → tree_of (datum.List (roll-DatumList (record { items = v }))) ≡ tree_of d
same-list d l v is same = tree_of-List v ∙ ap (λ ds. array (elements_of (map tree_of ds))) same ∙ sym (ap tree_of is ∙ tree_of-array l)

-- ---- how large a list is with one element more

pub with_item-list : (t v : Tree) (es : Elements) → Some es ≡ list_of t → with_item t v ≡ array (with_last es v)
with_item-list null v es h = cc
with_item-list (boolean b) v es h = cc
with_item-list (number z) v es h = cc
with_item-list (text u) v es h = cc
with_item-list (array fs) v es h = let same : fs ≡ es = cc in ap (λ gs. array (with_last gs v)) same
with_item-list (object fs) v es h = cc

pub size-longer : (o : Option Elements) (es : Elements) (v : Tree) (size : ListSize) → o ≡ Some es → IsSizeOf (with_last es v) size → MatchOption o (◌≡◌ {A = Option ListSize} (Some size) None) (λ fs. IsSomeAnd (Some size) (IsSizeOf (with_last fs v)))
size-longer None es v size e h = cc
size-longer (Some fs) es v size e h = let same : es ≡ fs = cc in subst (λ gs. IsSizeOf (with_last gs v) size) same h

pub longer-range : (o : Option Elements) (v : Tree) (r : Option ListSize) → MatchOption o (r ≡ None) (λ es. IsSomeAnd r (IsSizeOf (with_last es v))) → r ≡ None → longer_count o v ≡ Err Range
longer-range None v r h e = refl
longer-range (Some es) v r h e = absurd (subst (λ s. IsSomeAnd s (IsSizeOf (with_last es v))) e h)

pub longer-full : (o : Option Elements) (v : Tree) (size : ListSize) → MatchOption o (◌≡◌ {A = Option ListSize} (Some size) None) (λ es. IsSomeAnd (Some size) (IsSizeOf (with_last es v))) → 16384 < size.length → longer_count o v ≡ Err Full
longer-full None v size h big = cc
longer-full (Some es) v size h big =
    let long : 16384 < length (canonical_text (array (with_last es v))) = omega (arith, h.length, big) in
    let none : short_list (with_last es v) ≡ None = grind (arith, nat_tests, long) in
    ap (λ o. ok_or o Full >>= (λ t. Ok (pos (count (with_last es v))))) none

pub longer-ok : (o : Option Elements) (v : Tree) (size : ListSize) → MatchOption o (◌≡◌ {A = Option ListSize} (Some size) None) (λ es. IsSomeAnd (Some size) (IsSizeOf (with_last es v))) → size.length ≤ 16384 → longer_count o v ≡ Ok (pos size.count)
longer-ok None v size h few = cc
longer-ok (Some es) v size h few =
    let fits : length (canonical_text (array (with_last es v))) ≤ 16384 = omega (arith, h.length, few) in
    let some : short_list (with_last es v) ≡ Some (array (with_last es v)) = grind (arith, nat_tests, fits) in
    ap (λ o. ok_or o Full >>= (λ t. Ok (pos (count (with_last es v))))) some ∙ ap (λ n. Ok (pos n)) (sym h.count)

pub longer-few : (o : Option Elements) (v : Tree) (size : ListSize) → MatchOption o (◌≡◌ {A = Option ListSize} (Some size) None) (λ es. IsSomeAnd (Some size) (IsSizeOf (with_last es v))) → size.length ≤ 16384 → size.count ≤ 16384
longer-few None v size h few = cc
longer-few (Some es) v size h few = omega (arith, array_many (with_last es v), h.count, h.length, few)
