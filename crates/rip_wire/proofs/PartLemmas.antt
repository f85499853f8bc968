-- What the text of items or of a call is not.
use Rattle.std.proofs.Common.{◌≡◌, ◌≢◌, ℕ, ◌<◌, ◌≤◌, List, [], ◌∷◌, map, length, get_or, Option, Some, None, refl, sym, ap, ap₂, subst, ◌∙◌, arith}
use Rattle.std.specs.List.{AllByRecursion}
use Rattle.serde_json.specs.Data.{Data, depth}
use Rattle.serde_json.specs.View.{view, items_view}
use Rattle.serde_json.specs.Find.{as_array}
use Rattle.serde_json.specs.Written.{compact_text}
use Rattle.serde_json.specs.declared.value.Value.{Value}
use Rattle.rip_data.specs.Datum.{Tree, data_of, nesting, IsDatum}
use Rattle.rip_data.specs.Datum as tree
use Rattle.rip_data.specs.Reading.{value_of}
use Rattle.rip_data.proofs.TextLaws.{canonical_text-one, value_of-canonical_text}
use Rattle.rip_wire.specs.Names.{IsName}
use Rattle.rip_wire.specs.Items.{Reported, item_value, list_of, text_value, args_tree, IsItem, AreArgs}
use Rattle.rip_wire.specs.Batches.{items_text, AreItems}
use Rattle.rip_wire.specs.Calls.{call_value, call_text}
use Rattle.rip_wire.proofs.ItemLemmas.{list_of-one}
use Rattle.rip_wire.proofs.ValueLemmas.{one_text}
use Rattle.rip_wire.proofs.BatchLemmas.{array_is, count_views, count_items}
use Rattle.rip_wire.proofs.TextLemmas.{IsUtf16-IsName}
use Rattle.rip_wire.proofs.TreeLemmas.{list_tree, item_tree, list_data, all_data, items_data, items_datum, all_depth}
use Rattle.rip_wire.proofs.Utf8Lemmas.{tree-utf8}
use Rattle.rip_wire.proofs.SameLemmas.{items_same, args_same}

-- ---- one tree, one text

same_some : (d e : Data) → Some d ≡ Some e → d ≡ e
same_some d e h = cc

-- the text of a tree that is not deep is read as its data
pub read_back : (t : Tree) (d : Data) → data_of t ≡ d → IsDatum t → nesting t ≤ 127 → value_of (compact_text d) ≡ Some d
read_back t d is h low =
    subst (λ e. value_of (compact_text e) ≡ Some e) is (value_of-canonical_text t h low (tree-utf8 t h))

one_value : (t u : Tree) (d e : Data) → data_of t ≡ d → data_of u ≡ e → IsDatum t → IsDatum u → compact_text d ≡ compact_text e → d ≡ e
one_value t u d e td ue h g same =
    sym td ∙ ap data_of (canonical_text-one t u h g (ap compact_text td ∙ same ∙ ap compact_text (sym ue))) ∙ ue

-- ---- items

abbrev pub item_list : List Reported → Tree
item_list items = list_tree (map item_tree items)

pub item_list_data : (items : List Reported) → data_of (item_list items) ≡ list_of (map item_value items)
item_list_data items = list_data (map item_tree items) ∙ ap list_of (items_data items)

pub item_list_datum : (items : List Reported) → AreItems items → IsDatum (item_list items)
item_list_datum items h = all_data (map item_tree items) (items_datum items h.each)

item_list_depth : (items : List Reported) → AreItems items → nesting (item_list items) ≤ 127
item_list_depth items h =
    let low : depth (list_of (map item_value items)) ≤ 127 = omega (arith, all_depth items h.each) in
    subst (λ d. depth d ≤ 127) (sym (item_list_data items)) low

-- the text of items is read as their list
pub items_value : (items : List Reported) → AreItems items → value_of (items_text items) ≡ Some (list_of (map item_value items))
items_value items h = read_back (item_list items) _ (item_list_data items) (item_list_datum items h) (item_list_depth items h)

-- no two lists of items have one text
pub items_text-one : (items others : List Reported) → AreItems items → AreItems others → items_text items ≡ items_text others → items ≡ others
items_text-one items others h g e =
    let same = one_value (item_list items) (item_list others) _ _ (item_list_data items) (item_list_data others) (item_list_datum items h) (item_list_datum others g) e in
    items_same items others h.each g.each (list_of-one (map item_value items) (map item_value others) same)

pub no_list : (o : Option Data) (v : Data) → o ≡ Some v → ((values : List Data) → v ≡ list_of values → ⊥) → (items : List Reported) → AreItems items → o ≡ Some (list_of (map item_value items)) → ⊥
no_list o v is none items h e = none (map item_value items) (same_some v _ (sym is ∙ e))

pub many_listed : (o : Option Data) (v : Data) (vs : List Value) → o ≡ Some v → Some (items_view vs) ≡ as_array v → 64 < length vs → (items : List Reported) → AreItems items → o ≡ Some (list_of (map item_value items)) → ⊥
many_listed o v vs is listed many items h e =
    let same : map view vs ≡ map item_value items = list_of-one (map view vs) (map item_value items) (sym (array_is v vs listed) ∙ same_some v _ (sym is ∙ e)) in
    let count : length vs ≡ length items = sym (count_views vs) ∙ ap length same ∙ count_items items in
    omega (arith, h.few)

pub no_items_in : (o : Option Data) (v : Data) (values : List Data) → o ≡ Some v → v ≡ list_of values → ((items : List Reported) → AllByRecursion IsItem items → values ≡ map item_value items → ⊥) → (items : List Reported) → AreItems items → o ≡ Some (list_of (map item_value items)) → ⊥
no_items_in o v values is listed none items h e =
    none items h.each (list_of-one values (map item_value items) (sym listed ∙ same_some v _ (sym is ∙ e)))

pub no_items : (text : List ℕ) → ((items : List Reported) → AreItems items → value_of text ≡ Some (list_of (map item_value items)) → ⊥) → (items : List Reported) → AreItems items → text ≡ items_text items → ⊥
no_items text none items h e = none items h (ap value_of e ∙ items_value items h)

-- items that are read of a text, and whose text it is not
pub other_items : (text written : List ℕ) (found : List Reported) → value_of text ≡ Some (list_of (map item_value found)) → written ≡ items_text found → (written ≡ text → ⊥) → (items : List Reported) → AreItems items → text ≡ items_text items → ⊥
other_items text written found is wrote other items h e =
    other (wrote ∙ ap compact_text (same_some _ _ (sym is ∙ (ap value_of e ∙ items_value items h))) ∙ sym e)

-- ---- calls

abbrev pub call_tree : List ℕ → List Tree → Tree
call_tree name args = list_tree (tree.text name ∷ args_tree args ∷ [])

pub call_data : (name : List ℕ) (args : List Tree) → data_of (call_tree name args) ≡ call_value name args
call_data name args = list_data (tree.text name ∷ args_tree args ∷ [])

pub call_datum : (name : List ℕ) (args : List Tree) → IsName name → AreArgs args → IsDatum (call_tree name args)
call_datum name args h g = all_data (tree.text name ∷ args_tree args ∷ []) (IsUtf16-IsName name h, (g.are, tt))

call_depth : (name : List ℕ) (args : List Tree) → AreArgs args → nesting (call_tree name args) ≤ 127
call_depth name args g =
    let low : depth (data_of (args_tree args)) ≤ 8 = g.shallow in
    let whole : depth (call_value name args) ≤ 127 = omega (arith, low) in
    subst (λ d. depth d ≤ 127) (sym (call_data name args)) whole

-- the text of a call is read as its pair
pub call_is_read : (name : List ℕ) (args : List Tree) → IsName name → AreArgs args → value_of (call_text name args) ≡ Some (call_value name args)
call_is_read name args h g =
    read_back (call_tree name args) _ (call_data name args) (call_datum name args h g) (call_depth name args g)

pub no_pair : (o : Option Data) (v : Data) → o ≡ Some v → ((first second : Data) → v ≡ list_of (first ∷ second ∷ []) → ⊥) → (name : List ℕ) (args : List Tree) → IsName name → AreArgs args → o ≡ Some (call_value name args) → ⊥
no_pair o v is none name args h g e = none (text_value name) (data_of (args_tree args)) (same_some v _ (sym is ∙ e))

heads : (a b c d : Data) → a ∷ b ∷ [] ≡ c ∷ d ∷ [] → (a ≡ c) × (b ≡ d)
heads a b c d e = (cc, cc)

parts : (o : Option Data) (v first second : Data) → o ≡ Some v → v ≡ list_of (first ∷ second ∷ []) → (name : List ℕ) (args : List Tree) → o ≡ Some (call_value name args) → (first ≡ text_value name) × (second ≡ data_of (args_tree args))
parts o v first second is listed name args e =
    heads first second _ _ (list_of-one (first ∷ second ∷ []) _ (sym listed ∙ same_some v _ (sym is ∙ e)))

pub no_name : (o : Option Data) (v first second : Data) → o ≡ Some v → v ≡ list_of (first ∷ second ∷ []) → ((name : List ℕ) → IsName name → first ≡ text_value name → ⊥) → (name : List ℕ) (args : List Tree) → IsName name → AreArgs args → o ≡ Some (call_value name args) → ⊥
no_name o v first second is listed none name args h g e = none name h (parts o v first second is listed name args e).0

pub no_args : (o : Option Data) (v first second : Data) → o ≡ Some v → v ≡ list_of (first ∷ second ∷ []) → ((args : List Tree) → AreArgs args → second ≡ data_of (args_tree args) → ⊥) → (name : List ℕ) (args : List Tree) → IsName name → AreArgs args → o ≡ Some (call_value name args) → ⊥
no_args o v first second is listed none name args h g e = none args g (parts o v first second is listed name args e).1

pub no_call : (text : List ℕ) → ((name : List ℕ) (args : List Tree) → IsName name → AreArgs args → value_of text ≡ Some (call_value name args) → ⊥) → (name : List ℕ) (args : List Tree) → IsName name → AreArgs args → text ≡ call_text name args → ⊥
no_call text none name args h g e = none name args h g (ap value_of e ∙ call_is_read name args h g)

pub other_call : (text written found : List ℕ) (trees : List Tree) → value_of text ≡ Some (call_value found trees) → written ≡ call_text found trees → (written ≡ text → ⊥) → (name : List ℕ) (args : List Tree) → IsName name → AreArgs args → text ≡ call_text name args → ⊥
other_call text written found trees is wrote other name args h g e =
    other (wrote ∙ ap compact_text (same_some _ _ (sym is ∙ (ap value_of e ∙ call_is_read name args h g))) ∙ sym e)

-- no two calls have one text
pub call_text-one : (name other : List ℕ) (args others : List Tree) → IsName name → IsName other → AreArgs args → AreArgs others → call_text name args ≡ call_text other others → (name ≡ other) × (args ≡ others)
call_text-one name other args others hn ho ha hs e =
    let same = one_value (call_tree name args) (call_tree other others) _ _ (call_data name args) (call_data other others) (call_datum name args hn ha) (call_datum other others ho hs) e in
    let both = heads (text_value name) (data_of (args_tree args)) (text_value other) (data_of (args_tree others)) (list_of-one _ _ same) in
    (one_text (text_value name) name other (IsUtf16-IsName name hn) (IsUtf16-IsName other ho) refl both.0, args_same args others ha hs both.1)

pub two_values : (d : Data) (vs : List Value) (a b : Value) → Some (items_view vs) ≡ as_array d → length vs ≡ 2 → a ≡ get_or vs 0 a → b ≡ get_or vs 1 b → d ≡ list_of (view a ∷ view b ∷ [])
two_values d [] a b listed two first second = absurd (omega arith)
two_values d (v ∷ []) a b listed two first second = absurd (omega arith)
two_values d (v ∷ w ∷ []) a b listed two first second =
    array_is d (v ∷ w ∷ []) listed ∙ ap₂ (λ x y. list_of (view x ∷ view y ∷ [])) (sym first) (sym second)
two_values d (v ∷ w ∷ x ∷ vs) a b listed two first second = absurd (omega arith)

pub not_two_values : (d : Data) (vs : List Value) → Some (items_view vs) ≡ as_array d → length vs ≢ 2 → (first second : Data) → d ≡ list_of (first ∷ second ∷ []) → ⊥
not_two_values d vs listed other first second e =
    other (sym (count_views vs) ∙ ap length (list_of-one (map view vs) (first ∷ second ∷ []) (sym (array_is d vs listed) ∙ e)))
