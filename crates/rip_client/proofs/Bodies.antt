-- The bodies of batches, by the sizes of their items.
use Rattle.std.proofs.Common.{◌≡◌, ℕ, suc, ◌+◌, ◌-◌, ◌<◌, ◌≤◌, ◌^◌, lit<, min, Bool, true, false, IsTrue, ◌↔◌, List, [], ◌∷◌, ◌++◌, length, map, sum, codes, decimal, refl, sym, ap, subst, ◌∙◌, arith, length-append}
use Rattle.std.proofs.lemmas.Fmt.{length-decimal-le}
use Rattle.std.proofs.lemmas.List.{length-map, map-append}
use Rattle.std.proofs.lemmas.List.Sums.{sum_by-cons}
use Rattle.json.specs.Print.{escape_byte, quoted}
use Rattle.serde_json.specs.View.{items_of}
use Rattle.serde_json.specs.Written.{compact_text}
use Rattle.serde_json.specs.Written as written
use Rattle.rip_client.specs.Cutting.{body_size}
use Rattle.rip_client.specs.Cutting as cutting
use Rattle.rip_wire.specs.Batches.{Contents, batch_text, items_text}
use Rattle.rip_wire.specs.Items.{Reported, event, call, reply, reported_of, item_value}
use Rattle.rip_wire.specs.declared.item.Item.{Item}
use Rattle.rip_wire.proofs.PartLemmas.{call_text-one}
use Rattle.rip_client.specs.declared.tale.Tale.{Tale}
use Rattle.rip_client.specs.declared.tale.Tale.TheVariants as tale
use Rattle.rip_client.specs.Truth.{Fits, IsReportOf, waiting_of}
use Rattle.rip_client.specs.Bytes.{HasBytes, size_of}
use Rattle.rip_client.specs.Sizes.{IsTold}

-- ---- lengths

-- items behind others, with the closing bracket
later_length : (items : List Reported) → length (written.items_text true (items_of (map item_value items))) ≡ sum (map size_of items) + (length items + 1)
later_length [] = refl
later_length (a ∷ items) =
    omega (arith, length-append (compact_text (item_value a)) (written.items_text true (items_of (map item_value items))), later_length items, sum_by-cons (λ (k : ℕ). k) (size_of a) (map size_of items))

-- and the first ones
first_length : (items : List Reported) → length (written.items_text false (items_of (map item_value items))) ≡ 1 + (sum (map size_of items) + (length items - 1))
first_length [] = refl
first_length (a ∷ items) =
    omega (arith, length-append (compact_text (item_value a)) (written.items_text true (items_of (map item_value items))), later_length items, sum_by-cons (λ (k : ℕ). k) (size_of a) (map size_of items))

batch_word : length (quoted (codes "batch")) ≡ 7
unfolding escape_byte
batch_word = refl

items_word : length (quoted (codes "items")) ≡ 7
unfolding escape_byte
items_word = refl

-- the body of a batch
pub body_length : (b : Contents) → length (batch_text b) ≡ body_size b.number (map size_of b.items)
body_length b =
    let list : List ℕ = written.items_text false (items_of (map item_value b.items)) in
    let behind : List ℕ = 44 ∷ (quoted (codes "items") ++ 58 ∷ (91 ∷ (list ++ 125 ∷ []))) in
    omega (arith, batch_word, items_word, length-append (quoted (codes "batch")) (58 ∷ (decimal b.number ++ behind)), length-append (decimal b.number) behind, length-append (quoted (codes "items")) (58 ∷ (91 ∷ (list ++ 125 ∷ []))), length-append list (125 ∷ []), first_length b.items, length-map b.items size_of)

-- the list of one item
pub one_size : (item : Reported) → length (items_text (item ∷ [])) ≡ size_of item + 2
one_size item = omega (arith, first_length (item ∷ []), sum_by-cons (λ (k : ℕ). k) (size_of item) [])

-- ---- room

sizes_push : (items : List Reported) (item : Reported) (size : ℕ) → size ≡ size_of item → map size_of (items ++ item ∷ []) ≡ map size_of items ++ size ∷ []
sizes_push items item size is = map-append size_of items (item ∷ []) ∙ ap (λ (k : ℕ). map size_of items ++ k ∷ []) (sym is)

fits_to : (b : Contents) → cutting.Fits b.number (map size_of b.items) → Fits b
fits_to b f = record { few = omega (arith, f.few, length-map b.items size_of); short = omega (arith, f.short, body_length b) }

fits_from : (b : Contents) → Fits b → cutting.Fits b.number (map size_of b.items)
fits_from b f = record { few = omega (arith, f.few, length-map b.items size_of); short = omega (arith, f.short, body_length b) }

pub room_is : (number : ℕ) (items : List Reported) (item : Reported) (size : ℕ) (r : Bool) → size ≡ size_of item → (IsTrue r ↔ cutting.Fits number (map size_of items ++ size ∷ [])) → IsTrue r ↔ Fits (record { number = number; items = items ++ item ∷ [] })
room_is number items item size r is h =
    let b : Contents = record { number = number; items = items ++ item ∷ [] } in
    let same = sizes_push items item size is in
    (λ t. fits_to b (subst (λ sizes. cutting.Fits number sizes) (sym same) (h.0 t)), λ f. h.1 (subst (λ sizes. cutting.Fits number sizes) same (fits_from b f)))

pub empty_bytes : (number bytes : ℕ) → number < 2 ^ 64 → bytes ≡ body_size number [] → HasBytes number [] bytes
empty_bytes number bytes low is = omega (arith, is, length-decimal-le 20 number (lit< tt) (omega (arith, low)) low)

pub grown_bytes : (number : ℕ) (items : List Item) (item : Item) (size bytes : ℕ) → size ≡ size_of (reported_of item) → bytes ≡ min (body_size number (map size_of (map reported_of items) ++ size ∷ [])) 18446744073709551615 → HasBytes number (items ++ item ∷ []) bytes
grown_bytes number items item size bytes is grown =
    grown ∙ ap (λ sizes. min (body_size number sizes) 18446744073709551615) (sym (sizes_push (map reported_of items) (reported_of item) size is) ∙ ap (map size_of) (sym (map-append reported_of items (item ∷ []))))

-- ---- items that tell the same

reports_same : (number : ℕ) (text : List ℕ) (back : Bool) (a b : Reported) → IsReportOf (record { number = number; text = text; calls_back = back }) a → IsReportOf (record { number = number; text = text; calls_back = back }) b → a ≡ b
reports_same number text back a b r s =
    let same = call_text-one r.name s.name r.args s.args r.is_name s.is_name r.are_args s.are_args (sym r.text ∙ s.text) in
    r.is ∙ ap (λ name. call number name r.args) same.0 ∙ ap (λ args. call number s.name args) same.1 ∙ sym s.is

pub told_same : (t : Tale) (a b : Reported) → IsTold t a → IsTold t b → a ≡ b
told_same (tale.Call c) a b r s = reports_same c.now.number c.now.text c.now.calls_back a b r s
told_same (tale.Reply k) a b r s = r ∙ sym s
told_same (tale.Event e) a b r s = r ∙ sym s
