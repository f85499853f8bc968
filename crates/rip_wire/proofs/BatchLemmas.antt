-- What a batch is not.
use Rattle.std.proofs.Common.{◌≡◌, ℕ, zero, suc, ◌<◌, ◌≤◌, ◌^◌, List, [], ◌∷◌, length, map, get_or, Some, refl, sym, ap, ◌∙◌, arith}
use Rattle.std.specs.Prelude.{codes}
use Rattle.std.specs.List.{AllByRecursion}
use Rattle.serde_json.specs.Data.{Data, null, boolean, string, array, object, member, no_members}
use Rattle.serde_json.specs.Find.{as_array}
use Rattle.serde_json.specs.View.{view, items_view}
use Rattle.serde_json.specs.declared.value.Value.{Value}
use Rattle.rip_wire.specs.Items.{Reported, item_value, list_of, number_value, IsItem}
use Rattle.rip_wire.specs.Batches.{Contents, batch_value, IsBatch}
use Rattle.rip_wire.proofs.ItemLemmas.{list_of-one}

pub count_items : (items : List Reported) → length (map item_value items) ≡ length items
count_items [] = refl
count_items (i ∷ items) = ap suc (count_items items)

abbrev pub two : Data → Data → Data
two n items = object (member (codes "batch") n (member (codes "items") items no_members))

same_number : (a b c d : Data) → two a b ≡ two c d → a ≡ c
same_number a b c d e = cc

same_items : (a b c d : Data) → two a b ≡ two c d → b ≡ d
same_items a b c d e = cc

pub no_batch : (v : Data) → ((n items : Data) → v ≡ two n items → ⊥) → (b : Contents) → IsBatch b → v ≡ batch_value b → ⊥
no_batch v none b h is = none (number_value b.number) (list_of (map item_value b.items)) is

pub no_number : (v n items : Data) → v ≡ two n items → ((m : ℕ) → 1 ≤ m → m < 2 ^ 53 → n ≡ number_value m → ⊥) → (b : Contents) → IsBatch b → v ≡ batch_value b → ⊥
no_number v n items is none b h other =
    none b.number h.from_one h.bounded (same_number n items (number_value b.number) (list_of (map item_value b.items)) (sym is ∙ other))

items_same : (v n items : Data) (b : Contents) → v ≡ two n items → v ≡ batch_value b → items ≡ list_of (map item_value b.items)
items_same v n items b is other = same_items n items (number_value b.number) (list_of (map item_value b.items)) (sym is ∙ other)

pub no_list : (v n items : Data) → v ≡ two n items → ((values : List Data) → items ≡ list_of values → ⊥) → (b : Contents) → IsBatch b → v ≡ batch_value b → ⊥
no_list v n items is none b h other = none (map item_value b.items) (items_same v n items b is other)

pub array_is : (d : Data) (vs : List Value) → Some (items_view vs) ≡ as_array d → d ≡ list_of (map view vs)
array_is null vs e = cc
array_is (boolean b) vs e = cc
array_is (Data.number n) vs e = cc
array_is (string s) vs e = cc
array_is (array ds) vs e = cc
array_is (object ms) vs e = cc

pub count_views : (vs : List Value) → length (map view vs) ≡ length vs
count_views [] = refl
count_views (v ∷ vs) = ap suc (count_views vs)

pub many_items : (v n items : Data) (vs : List Value) → v ≡ two n items → Some (items_view vs) ≡ as_array items → 64 < length vs → (b : Contents) → IsBatch b → v ≡ batch_value b → ⊥
many_items v n items vs is listed many b h other =
    let same : map view vs ≡ map item_value b.items = list_of-one (map view vs) (map item_value b.items) (sym (array_is items vs listed) ∙ items_same v n items b is other) in
    let count : length vs ≡ length b.items = sym (count_views vs) ∙ ap length same ∙ count_items b.items in
    omega (arith, h.few)

pub no_items_in : (v n : Data) (values : List Data) → v ≡ two n (list_of values) → ((items : List Reported) → AllByRecursion IsItem items → values ≡ map item_value items → ⊥) → (b : Contents) → IsBatch b → v ≡ batch_value b → ⊥
no_items_in v n values is none b h other =
    none b.items h.items (list_of-one values (map item_value b.items) (items_same v n (list_of values) b is other))

same_first : (x y : Data) (xs ys : List Data) → x ∷ xs ≡ y ∷ ys → x ≡ y
same_first x y xs ys e = cc

same_others : (x y : Data) (xs ys : List Data) → x ∷ xs ≡ y ∷ ys → xs ≡ ys
same_others x y xs ys e = cc

-- a value among those of items is that of one
pub no_item_at : (vs : List Value) (i : ℕ) (v : Value) → i < length vs → v ≡ get_or vs i v → ((r : Reported) → IsItem r → view v ≡ item_value r → ⊥)
    → (items : List Reported) → AllByRecursion IsItem items → map view vs ≡ map item_value items → ⊥
no_item_at [] i v l is none items h e = omega arith
no_item_at (w ∷ vs) i v l is none [] h e = cc
no_item_at (w ∷ vs) zero v l is none (r ∷ items) h e = none r h.0 (ap view is ∙ same_first (view w) (item_value r) (map view vs) (map item_value items) e)
no_item_at (w ∷ vs) (suc i) v l is none (r ∷ items) h e = no_item_at vs i v (omega arith) is none items h.1 (same_others (view w) (item_value r) (map view vs) (map item_value items) e)
