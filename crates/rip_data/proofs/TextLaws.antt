-- The canonical text is read as the data that it was written for, so no two data have one text.
use Rattle.std.proofs.Common.{◌≡◌, ◌≢◌, ℕ, suc, length, Result, Ok, Err, IfOk, IfErr, ◌≤◌, max, pos, negsuc, List, [], Option, Some, option_map, option_and_then, Less, Greater, refl, sym, ap, ap₂, ◌∙◌, arith, append-nil}
use Rattle.std.proofs.lemmas.Int.{ints}
use Rattle.std.specs.Prelude.{⊤}
use Rattle.std.specs.Ordering.{nat_cmp, ordering_reverse}
use Rattle.std.specs.Cmp.Lexicographic.{slice_cmp}
use Rattle.std.specs.Str.{IsUtf8, chars}
use Rattle.std.proofs.lemmas.Cmp.{nat_list_cmp_total}
use Rattle.json.specs.Token.{Token}
use Rattle.json.specs.Lex.{tokens}
use Rattle.json.specs.Json as json
use Rattle.json.specs.Tree as tree
use Rattle.json.proofs.Printed.Decimals.{IsNumber-decimal, IsNumber-signed_decimal}
use Rattle.json.proofs.Printed.Tokens.{tokens-print}
use Rattle.json.proofs.Printed.Trees.{value-json_tokens, ArePrintable-json_tokens}
use Rattle.serde_json.specs.Data as value
use Rattle.serde_json.specs.Data.{Data, Items, Members, no_members, member, put, depth, items_depth, members_depth}
use Rattle.serde_json.specs.Read.{of_json, of_items, of_members, read}
use Rattle.serde_json.specs.Written.{outline, items_outline, members_outline}
use Rattle.serde_json.proofs.Numbers.{number_of-decimal, number_of-negative}
use Rattle.serde_json.proofs.Texts.{print-outline}
use Rattle.rip_base.specs.Text.{IsUtf16, encode_utf16_all}
use Rattle.rip_base.proofs.TextLemmas.{IsSameText-units, IsSameText-chars}
use Rattle.rip_data.specs.Datum.{Tree, tree_of, null, boolean, number, text, array, object, Elements, no_elements, element, Fields, no_fields, field, utf8_of, data_of, items_of, members_of, canonical_text, nesting, IsBeforeAll, AreInOrder, IsDatum, AreData, HaveData}
use Rattle.rip_data.specs.Reading.{value_of, answer, answer_long}
use Rattle.rip_data.specs.declared.datum.Datum.{Datum}
use Rattle.rip_data.specs.declared.error.DataError.{DataError}
use Rattle.rip_data.specs.declared.error.DataError.TheVariants.{Syntax, NotWhole, TooDeep, DataTooLong, Memory}
use Rattle.rip_data.proofs.DataLemmas.{IsSameText-utf8_of}
use Rattle.rip_data.proofs.ReadLemmas.{value_of-some, answer_long-accepted, answer-short}

-- ---- the data of the text: each member is put behind those before it

abbrev snoc : Members → List ℕ → Data → Members
snoc no_members k d = member k d no_members
snoc (member l e ms) k d = member l e (snoc ms k d)

abbrev joined : Members → Members → Members
joined no_members ms = ms
joined (member l e found) ms = member l e (joined found ms)

abbrev IsAbove : List ℕ → Members → Type 0
IsAbove k no_members = ⊤
IsAbove k (member l e ms) = (slice_cmp nat_cmp k l ≡ Greater) × IsAbove k ms

abbrev AllAbove : Members → Members → Type 0
AllAbove found no_members = ⊤
AllAbove found (member k d ms) = IsAbove k found × AllAbove found ms

put-last : (k : List ℕ) (d : Data) (found : Members) → IsAbove k found → put k d found ≡ snoc found k d
put-last k d no_members h = refl
put-last k d (member l e ms) h = rw h.0 (ap (member l e) (put-last k d ms h.1))

joined-snoc : (found : Members) (k : List ℕ) (d : Data) (ms : Members) → joined (snoc found k d) ms ≡ joined found (member k d ms)
joined-snoc no_members k d ms = refl
joined-snoc (member l e found) k d ms = ap (member l e) (joined-snoc found k d ms)

joined-none : (found : Members) → found ≡ joined found no_members
joined-none no_members = refl
joined-none (member l e found) = ap (member l e) (joined-none found)

IsAbove-snoc : (m : List ℕ) (found : Members) (k : List ℕ) (d : Data) → IsAbove m found → slice_cmp nat_cmp m k ≡ Greater → IsAbove m (snoc found k d)
IsAbove-snoc m no_members k d h g = (g, tt)
IsAbove-snoc m (member l e ms) k d h g = (h.0, IsAbove-snoc m ms k d h.1 g)

above : (k m : List ℕ) → slice_cmp nat_cmp k m ≡ Less → slice_cmp nat_cmp m k ≡ Greater
above k m h = nat_list_cmp_total.antisymm m k ∙ ap ordering_reverse h

AllAbove-snoc : (found ms : Members) (k : List ℕ) (d : Data) → AllAbove found ms → IsBeforeAll k ms → AllAbove (snoc found k d) ms
AllAbove-snoc found no_members k d h g = tt
AllAbove-snoc found (member m e ms) k d h g = (IsAbove-snoc m found k d h.0 (above k m g.0), AllAbove-snoc found ms k d h.1 g.1)

all_above_none : (ms : Members) → AllAbove no_members ms
all_above_none no_members = tt
all_above_none (member k d ms) = (tt, all_above_none ms)

-- the tree's text, read as a tree of `json`, has the tree's data
mutual
  read_value : (t : Tree) → IsDatum t → of_json (outline (data_of t)) ≡ Some (data_of t)
  read_value null h = refl
  read_value (boolean b) h = refl
  read_value (number (pos n)) h = ap (option_map value.number) (number_of-decimal n (omega (arith, ints, h.1)))
  read_value (number (negsuc n)) h = ap (option_map value.number) (number_of-negative n (omega (arith, ints, h.0)))
  read_value (text u) h = refl
  read_value (array ts) h = ap (option_map value.array) (read_items ts h)
  read_value (object fs) h = ap (option_map value.object) (read_members fs no_members h.0 h.1 (all_above_none (members_of fs)))

  read_items : (ts : Elements) → AreData ts → of_items (items_outline (items_of ts)) ≡ Some (items_of ts)
  read_items no_elements h = refl
  read_items (element t ts) h =
      ap (option_and_then (λ d. option_map (value.item d) (of_items (items_outline (items_of ts))))) (read_value t h.0)
      ∙ ap (option_map (value.item (data_of t))) (read_items ts h.1)

  read_members : (fs : Fields) (found : Members) → HaveData fs → AreInOrder (members_of fs) → AllAbove found (members_of fs) → of_members (members_outline (members_of fs)) found ≡ Some (joined found (members_of fs))
  read_members no_fields found h o a = ap Some (joined-none found)
  read_members (field k t fs) found h o a =
      ap (option_and_then (λ e. of_members (members_outline (members_of fs)) (put (utf8_of k) e found))) (read_value t h.1)
      ∙ ap (of_members (members_outline (members_of fs))) (put-last (utf8_of k) (data_of t) found a.0)
      ∙ read_members fs (snoc found (utf8_of k) (data_of t)) h.2 o.1 (AllAbove-snoc found (members_of fs) (utf8_of k) (data_of t) a.1 o.0)
      ∙ ap Some (joined-snoc found (utf8_of k) (data_of t) (members_of fs))

-- its numbers are numbers of JSON
mutual
  numbers : (t : Tree) → IsDatum t → tree.HasNumbers (outline (data_of t))
  numbers null h = tt
  numbers (boolean b) h = tt
  numbers (number (pos n)) h = IsNumber-decimal n (omega (arith, ints, h.1))
  numbers (number (negsuc n)) h = IsNumber-signed_decimal (negsuc n) (omega (arith, ints, h.0))
  numbers (text u) h = tt
  numbers (array ts) h = item_numbers ts h
  numbers (object fs) h = member_numbers fs h.0

  item_numbers : (ts : Elements) → AreData ts → tree.ItemsHaveNumbers (items_outline (items_of ts))
  item_numbers no_elements h = tt
  item_numbers (element t ts) h = (numbers t h.0, item_numbers ts h.1)

  member_numbers : (fs : Fields) → HaveData fs → tree.MembersHaveNumbers (members_outline (members_of fs))
  member_numbers no_fields h = tt
  member_numbers (field k t fs) h = (numbers t h.1, member_numbers fs h.2)

-- it nests as deep
mutual
  same_depth : (d : Data) → tree.depth (outline d) ≡ depth d
  same_depth value.null = refl
  same_depth (value.boolean b) = refl
  same_depth (value.number n) = refl
  same_depth (value.string s) = refl
  same_depth (value.array ds) = ap suc (same_items_depth ds)
  same_depth (value.object ms) = ap suc (same_members_depth ms)

  same_items_depth : (ds : Items) → tree.items_depth (items_outline ds) ≡ items_depth ds
  same_items_depth value.no_items = refl
  same_items_depth (value.item d ds) = ap₂ max (same_depth d) (same_items_depth ds)

  same_members_depth : (ms : Members) → tree.members_depth (members_outline ms) ≡ members_depth ms
  same_members_depth no_members = refl
  same_members_depth (member k d ms) = ap₂ max (same_depth d) (same_members_depth ms)

-- its tokens are those of the tree
tokens-canonical_text : (t : Tree) → IsDatum t → tokens (canonical_text t) ≡ tree.json_tokens (outline (data_of t))
tokens-canonical_text t h =
    let ts = tree.json_tokens (outline (data_of t)) in
    ap tokens (sym (print-outline (data_of t))) ∙ tokens-print ts (ArePrintable-json_tokens (outline (data_of t)) (numbers t h))

-- the tree that the tokens are
tree-canonical_text : (t : Tree) (n : ℕ) → IsDatum t → nesting t ≤ n → json.value n (tokens (canonical_text t)) ≡ Some (outline (data_of t), [])
tree-canonical_text t n h shallow =
    let low : tree.depth (outline (data_of t)) ≤ n = rw (same_depth (data_of t)) shallow in
    ap (json.value n) (tokens-canonical_text t h ∙ sym (append-nil _)) ∙ value-json_tokens (outline (data_of t)) n [] low

abbrev whole : Option (json.Json × List Token) → Option Data
whole o = option_and_then of_json (option_and_then (λ p. json.if_last p.0 p.1) o)

-- the canonical text is read as the data of the tree
pub read-canonical_text : (t : Tree) → IsDatum t → nesting t ≤ 127 → read (canonical_text t) ≡ Some (data_of t)
read-canonical_text t h shallow = ap whole (tree-canonical_text t 127 h shallow) ∙ read_value t h

-- ---- the tree of the data

abbrev mutual
  tree_of_data : Data → Tree
  tree_of_data value.null = null
  tree_of_data (value.boolean b) = boolean b
  tree_of_data (value.number (value.unsigned n)) = number (pos n)
  tree_of_data (value.number (value.negative z)) = number z
  tree_of_data (value.number (value.float x)) = null
  tree_of_data (value.string s) = text (encode_utf16_all (chars s))
  tree_of_data (value.array ds) = array (elements_of_items ds)
  tree_of_data (value.object ms) = object (fields_of_members ms)

  elements_of_items : Items → Elements
  elements_of_items value.no_items = no_elements
  elements_of_items (value.item d ds) = element (tree_of_data d) (elements_of_items ds)

  fields_of_members : Members → Fields
  fields_of_members no_members = no_fields
  fields_of_members (member k d ms) = field (encode_utf16_all (chars k)) (tree_of_data d) (fields_of_members ms)

units_back : (u : List ℕ) → IsUtf16 u → encode_utf16_all (chars (utf8_of u)) ≡ u
units_back u h =
    let same = IsSameText-utf8_of u h in
    let utf8 : IsUtf8 (utf8_of u) = (same.characters, (same.are, same.in_bytes)) in
    IsSameText-units (utf8_of u) u _ same (IsSameText-chars (utf8_of u) _ utf8 refl)

mutual
  tree_back : (t : Tree) → IsDatum t → tree_of_data (data_of t) ≡ t
  tree_back null h = refl
  tree_back (boolean b) h = refl
  tree_back (number (pos n)) h = refl
  tree_back (number (negsuc n)) h = refl
  tree_back (text u) h = ap text (units_back u h)
  tree_back (array ts) h = ap array (elements_back ts h)
  tree_back (object fs) h = ap object (fields_back fs h.0)

  elements_back : (ts : Elements) → AreData ts → elements_of_items (items_of ts) ≡ ts
  elements_back no_elements h = refl
  elements_back (element t ts) h = ap₂ element (tree_back t h.0) (elements_back ts h.1)

  fields_back : (fs : Fields) → HaveData fs → fields_of_members (members_of fs) ≡ fs
  fields_back no_fields h = refl
  fields_back (field k t fs) h =
      ap (λ l. field l (tree_of_data (data_of t)) (fields_of_members (members_of fs))) (units_back k h.0) ∙ ap₂ (field k) (tree_back t h.1) (fields_back fs h.2)

-- the data of a tree is that of no other
pub data_of-one : (t u : Tree) → IsDatum t → IsDatum u → data_of t ≡ data_of u → t ≡ u
data_of-one t u h g e = sym (tree_back t h) ∙ ap tree_of_data e ∙ tree_back u g

-- no two trees have one text
pub canonical_text-one : (t u : Tree) → IsDatum t → IsDatum u → canonical_text t ≡ canonical_text u → t ≡ u
canonical_text-one t u h g e =
    let n = max (nesting t) (nesting u) in
    let one : Some (data_of t) ≡ Some (data_of u) =
    sym (ap whole (tree-canonical_text t n h (omega arith)) ∙ read_value t h)
    ∙ ap (λ s. whole (json.value n (tokens s))) e ∙ ap whole (tree-canonical_text u n g (omega arith)) ∙ read_value u g in
    let same : data_of t ≡ data_of u = cc in
    data_of-one t u h g same

-- ---- what is answered for it

pub value_of-canonical_text : (t : Tree) → IsDatum t → nesting t ≤ 127 → IsUtf8 (canonical_text t) → value_of (canonical_text t) ≡ Some (data_of t)
value_of-canonical_text t h shallow utf8 = value_of-some (canonical_text t) (data_of t) utf8 (read-canonical_text t h shallow)

pub answer_long-canonical_text : (t : Tree) → IsDatum t → nesting t ≤ 8 → IsUtf8 (canonical_text t) → answer_long (canonical_text t) ≡ Ok (data_of t)
answer_long-canonical_text t h shallow utf8 = answer_long-accepted (canonical_text t) t (value_of-canonical_text t h (omega arith) utf8) h shallow

pub answer-canonical_text : (t : Tree) → IsDatum t → nesting t ≤ 8 → length (canonical_text t) ≤ 16384 → IsUtf8 (canonical_text t) → answer (canonical_text t) ≡ Ok (data_of t)
answer-canonical_text t h shallow short utf8 = answer-short (canonical_text t) (data_of t) (answer_long-canonical_text t h shallow utf8) short

-- the datum of an answer is the tree's
pub same_answer : (r : Result Datum DataError) (a : Result Data DataError) (t : Tree) → IsDatum t → a ≡ Ok (data_of t)
    → IfOk r (λ d. a ≡ Ok (data_of (tree_of d))) → IfOk r (λ d. IsDatum (tree_of d)) → IfOk r (λ d. tree_of d ≡ t)
same_answer (Ok d) a t h is ok made =
    let same : data_of (tree_of d) ≡ data_of t = cc in
    data_of-one (tree_of d) t made h same
same_answer (Err e) a t h is ok made = tt

-- where the data is accepted, nothing but memory is refused
pub only_memory : (r : Result Datum DataError) (a : Result Data DataError) (t : Tree) → a ≡ Ok (data_of t) → IfErr r (λ e. e ≢ Memory → a ≡ Err e) → IfErr r (λ e. e ≡ Memory)
only_memory (Ok d) a t is refused = tt
only_memory (Err Syntax) a t is refused = let other : a ≡ Err Syntax = refused (λ e. cc) in cc
only_memory (Err NotWhole) a t is refused = let other : a ≡ Err NotWhole = refused (λ e. cc) in cc
only_memory (Err TooDeep) a t is refused = let other : a ≡ Err TooDeep = refused (λ e. cc) in cc
only_memory (Err DataTooLong) a t is refused = let other : a ≡ Err DataTooLong = refused (λ e. cc) in cc
only_memory (Err Memory) a t is refused = refl
