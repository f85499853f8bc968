-- Scopes as their heads and the row of bindings show them, and as two rows of slots do: one more, and a binding written.
use Rattle.std.proofs.Common.{◌≡◌, ℕ, zero, suc, ◌+◌, ◌-◌, ◌<◌, ◌≤◌, List, [], ◌∷◌, ◌++◌, length, Option, None, Some, refl, sym, ap, ◌∙◌, subst, arith, take, drop, replicate, slice_get, slice_index_or}
use Rattle.std.specs.Prelude.{map, option_and_then, option_map, slice_range, slice_set}
use Rattle.std.proofs.Math.Seq.{take-set-lt}
use Rattle.std.proofs.lemmas.List.{drop-append-le, drop-set-add, drop-set-lt, drop_at, get_or-drop, get_or-take, get_or-map, length-append, length-drop, length-map, length-replicate, length-take-le, map-append, map-set, map_push, set-get_or, set_past, take-append-le, take-set-le, take_all}
use Rattle.std.proofs.lemmas.Option.{get_or_from_slice_get, same_Some, slice_get-get_or, slice_get-map, slice_get_past}
use Rattle.rip_base.specs.declared.value.Value.{Value}
use Rattle.rip_heap_region.specs.declared.pages.slot.Slot.{Slot}
use Rattle.rip_heap_region.specs.Pages.{Paged, no_slot, slot_at}
use Rattle.rip_heap.specs.declared.scope_slots.ScopeHead.{ScopeHead}
use Rattle.rip_heap.specs.ScopeSlots.{AreScopes, LieWithin, binding_in, binding_of, bound, parent_in, scope_head_in, scope_in, scopes_in, scopes_of, slot_of_scope, slot_of_value, value_of_parent}
use Rattle.rip_heap.specs.Scopes.{bindings_of, parent_of}
use Rattle.rip_heap.specs.World.{Scope}

-- PARTS OF A ROW

pub part-length : {X : Type 0} (row : List X) (at n : ℕ) → at + n ≤ length row → length (slice_range row at (at + n)) ≡ n
part-length row at n h =
    let size : at + n - at ≡ n = omega arith in
    length-take-le (at + n - at) (drop at row) (omega (arith, length-drop at row)) ∙ size

pub part-append : {X : Type 0} (row more : List X) (at n : ℕ) → at + n ≤ length row → slice_range (row ++ more) at (at + n) ≡ slice_range row at (at + n)
part-append row more at n h =
    ap (take (at + n - at)) (drop-append-le at row more (omega arith)) ∙ take-append-le (at + n - at) (drop at row) more (omega (arith, length-drop at row))

part-set-above : {X : Type 0} (row : List X) (at n k : ℕ) (x : X) → k < at → slice_range (slice_set row k x) at (at + n) ≡ slice_range row at (at + n)
part-set-above row at n k x h = ap (take (at + n - at)) (drop-set-lt at row k x h)

part-set-below : {X : Type 0} (row : List X) (at n k : ℕ) (x : X) → at + n ≤ k → slice_range (slice_set row k x) at (at + n) ≡ slice_range row at (at + n)
part-set-below row at n k x h =
    let place : k ≡ at + (k - at) = omega arith in
    ap (λ i. slice_range (slice_set row i x) at (at + n)) place
    ∙ ap (take (at + n - at)) (drop-set-add at row (k - at) x)
    ∙ take-set-le (at + n - at) (drop at row) (k - at) x (omega arith)

part-set : {X : Type 0} (row : List X) (at n i : ℕ) (x : X) → i < n → slice_range (slice_set row (at + i) x) at (at + n) ≡ slice_set (slice_range row at (at + n)) i x
part-set row at n i x h =
    ap (take (at + n - at)) (drop-set-add at row i x) ∙ take-set-lt (at + n - at) (drop at row) i x (omega arith)

part-get : {X : Type 0} (row : List X) (at n i : ℕ) (d : X) → at + n ≤ length row → i < n → slice_get (slice_range row at (at + n)) i ≡ Some (slice_index_or row (at + i) d)
part-get row at n i d h below =
    slice_get-get_or (slice_range row at (at + n)) i d (omega (arith, part-length row at n h))
    ∙ ap (λ x. Some x) (get_or-take (at + n - at) (drop at row) i d (omega arith) ∙ get_or-drop at row i d)

part-end : {X : Type 0} (row more : List X) → slice_range (row ++ more) (length row) (length row + length more) ≡ more
part-end row more =
    ap (take (length row + length more - length row)) (drop_at row more (length row) refl) ∙ take_all (length row + length more - length row) more (omega arith)

-- WHERE THE PARTS LIE

ends : (from to : ℕ) (heads : List ScopeHead) → LieWithin from to heads → from ≤ to
ends from to [] lie = lie
ends from to (head ∷ heads) lie = omega (arith, lie.0, ends (head.start + head.count) to heads lie.1)

pub lies : (from to : ℕ) (heads : List ScopeHead) (n : ℕ) (head : ScopeHead) → LieWithin from to heads → slice_get heads n ≡ Some head → (from ≤ head.start) × (head.start + head.count ≤ to)
lies from to [] n head lie e = cc
lies from to (x ∷ heads) zero head lie e =
    subst (λ h. (from ≤ h.start) × (h.start + h.count ≤ to)) (same_Some x head e) (lie.0, ends (x.start + x.count) to heads lie.1)
lies from to (x ∷ heads) (suc n) head lie e =
    let further = lies (x.start + x.count) to heads n head lie.1 e in
    (omega (arith, lie.0, further.0), further.1)

pub lie_added : (from to end : ℕ) (heads : List ScopeHead) (head : ScopeHead) → LieWithin from to heads → to ≤ head.start → head.start + head.count ≤ end → LieWithin from end (heads ++ head ∷ [])
lie_added from to end [] head lie behind within = (omega (arith, lie, behind), within)
lie_added from to end (x ∷ heads) head lie behind within = (lie.0, lie_added (x.start + x.count) to end heads head lie.1 behind within)

-- THE SCOPES

-- a longer row shows the same scopes
shown-append : (from : ℕ) (row more : List (Option Value)) (heads : List ScopeHead) → LieWithin from (length row) heads → scopes_in (row ++ more) heads ≡ scopes_in row heads
shown-append from row more [] lie = refl
shown-append from row more (head ∷ heads) lie =
    let within = ends (head.start + head.count) (length row) heads lie.1 in
    λ t. record { parent = head.parent; bindings = part-append row more head.start head.count within t } ∷ shown-append (head.start + head.count) row more heads lie.1 t

-- one scope more, with its bindings at the end of the row
pub shown_added : (row more : List (Option Value)) (heads : List ScopeHead) (head : ScopeHead) → LieWithin 0 (length row) heads → head.start ≡ length row → head.count ≡ length more
    → scopes_in (row ++ more) (heads ++ head ∷ []) ≡ scopes_in row heads ++ record { parent = head.parent; bindings = more } ∷ []
shown_added row more heads head lie start count =
    map_push (scope_in (row ++ more)) heads head
    ∙ (λ t. shown-append 0 row more heads lie t ++ record { parent = head.parent; bindings = new t } ∷ [])
  where
    new : slice_range (row ++ more) head.start (head.start + head.count) ≡ more
    new = (λ t. slice_range (row ++ more) (start t) (start t + count t)) ∙ part-end row more

-- a binding before them is written
shown-behind : (from to : ℕ) (row : List (Option Value)) (heads : List ScopeHead) (k : ℕ) (x : Option Value) → LieWithin from to heads → k < from → scopes_in (slice_set row k x) heads ≡ scopes_in row heads
shown-behind from to row [] k x lie h = refl
shown-behind from to row (head ∷ heads) k x lie h =
    let before : k < head.start = omega (arith, lie.0, h) in
    let more : k < head.start + head.count = omega (arith, before) in
    λ t. record { parent = head.parent; bindings = part-set-above row head.start head.count k x before t } ∷ shown-behind (head.start + head.count) to row heads k x lie.1 more t

-- a binding of one of them is written: that scope has it, and the others stay
pub shown-set : (from to : ℕ) (row : List (Option Value)) (heads : List ScopeHead) (n i : ℕ) (head : ScopeHead) (x : Option Value) → LieWithin from to heads → slice_get heads n ≡ Some head → i < head.count
    → scopes_in (slice_set row (head.start + i) x) heads ≡ slice_set (scopes_in row heads) n (record { parent = head.parent; bindings = slice_set (slice_range row head.start (head.start + head.count)) i x })
shown-set from to row [] n i head x lie e h = cc
shown-set from to row (y ∷ heads) zero i head x lie e h =
    subst
    (λ z. i < z.count → scopes_in (slice_set row (z.start + i) x) (y ∷ heads) ≡ record { parent = z.parent; bindings = slice_set (slice_range row z.start (z.start + z.count)) i x } ∷ scopes_in row heads)
    (same_Some y head e) here h
  where
    here : i < y.count → scopes_in (slice_set row (y.start + i) x) (y ∷ heads) ≡ record { parent = y.parent; bindings = slice_set (slice_range row y.start (y.start + y.count)) i x } ∷ scopes_in row heads
    here below =
        let before : y.start + i < y.start + y.count = omega (arith, below) in
        λ t. record { parent = y.parent; bindings = part-set row y.start y.count i x below t } ∷ shown-behind (y.start + y.count) to row heads (y.start + i) x lie.1 before t
shown-set from to row (y ∷ heads) (suc n) i head x lie e h =
    let behind = lies (y.start + y.count) to heads n head lie.1 e in
    let past : y.start + y.count ≤ head.start + i = omega (arith, behind.0) in
    λ t. record { parent = y.parent; bindings = part-set-below row y.start y.count (head.start + i) x past t } ∷ shown-set (y.start + y.count) to row heads n i head x lie.1 e h t

-- a write past the bindings of a scope
pub set-past : (row : List (Option Value)) (scopes : List Scope) (n i : ℕ) (head : ScopeHead) (x : Option Value) → head.start + head.count ≤ length row → slice_get scopes n ≡ Some (scope_in row head) → head.count ≤ i
    → slice_set scopes n (record { parent = head.parent; bindings = slice_set (slice_range row head.start (head.start + head.count)) i x }) ≡ scopes
set-past row scopes n i head x within e h =
    let size = part-length row head.start head.count within in
    let same = get_or_from_slice_get scopes n (scope_in row head) (scope_in row head) e in
    ap (λ bindings. slice_set scopes n (record { parent = head.parent; bindings = bindings })) (set_past (slice_range row head.start (head.start + head.count)) i x (omega (arith, size, h)))
    ∙ ap (λ s. slice_set scopes n s) (sym same)
    ∙ set-get_or scopes n (scope_in row head)

-- WHAT IS FOUND AT A NUMBER

shown-get : (row : List (Option Value)) (heads : List ScopeHead) (n : ℕ) (o : Option ScopeHead) → slice_get heads n ≡ o → slice_get (scopes_in row heads) n ≡ option_map (scope_in row) o
shown-get row heads n o e = slice_get-map (scope_in row) heads n ∙ ap (option_map (scope_in row)) e

pub names_none : (row : List (Option Value)) (heads : List ScopeHead) (n : ℕ) → slice_get heads n ≡ None → 0 ≡ length (bindings_of (slice_get (scopes_in row heads) n))
names_none row heads n e = sym (ap (λ o. length (bindings_of o)) (shown-get row heads n None e))

pub names_found : (row : List (Option Value)) (heads : List ScopeHead) (n : ℕ) (head : ScopeHead) → LieWithin 0 (length row) heads → slice_get heads n ≡ Some head
    → head.count ≡ length (bindings_of (slice_get (scopes_in row heads) n))
names_found row heads n head lie e =
    sym (ap (λ o. length (bindings_of o)) (shown-get row heads n (Some head) e) ∙ part-length row head.start head.count (lies 0 (length row) heads n head lie e).1)

pub binding_found : (row : List (Option Value)) (heads : List ScopeHead) (n place : ℕ) (head : ScopeHead) (d : Option Value) → LieWithin 0 (length row) heads → slice_get heads n ≡ Some head → place < head.count
    → binding_of (slice_get (scopes_in row heads) n) place ≡ slice_index_or row (head.start + place) d
binding_found row heads n place head d lie e h =
    ap (λ o. binding_of o place) (shown-get row heads n (Some head) e)
    ∙ ap (λ o. option_and_then (λ value. value) o) (part-get row head.start head.count place d (lies 0 (length row) heads n head lie e).1 h)

pub binding_past : (row : List (Option Value)) (heads : List ScopeHead) (n place : ℕ) (head : ScopeHead) → LieWithin 0 (length row) heads → slice_get heads n ≡ Some head → head.count ≤ place
    → binding_of (slice_get (scopes_in row heads) n) place ≡ None
binding_past row heads n place head lie e h =
    ap (λ o. binding_of o place) (shown-get row heads n (Some head) e)
    ∙ ap (λ o. option_and_then (λ value. value) o) (slice_get_past (slice_range row head.start (head.start + head.count)) place (omega (arith, part-length row head.start head.count (lies 0 (length row) heads n head lie e).1, h)))

pub bound_found : (row : List (Option Value)) (heads : List ScopeHead) (n place : ℕ) (head : ScopeHead) (v : Value) → LieWithin 0 (length row) heads → slice_get heads n ≡ Some head → place < head.count
    → scopes_in (slice_set row (head.start + place) (Some v)) heads ≡ bound (scopes_in row heads) n place v (slice_get (scopes_in row heads) n)
bound_found row heads n place head v lie e h =
    shown-set 0 (length row) row heads n place head (Some v) lie e h ∙ sym (ap (bound (scopes_in row heads) n place v) (shown-get row heads n (Some head) e))

pub bound_past : (row : List (Option Value)) (heads : List ScopeHead) (n place : ℕ) (head : ScopeHead) (v : Value) → LieWithin 0 (length row) heads → slice_get heads n ≡ Some head → head.count ≤ place
    → scopes_in row heads ≡ bound (scopes_in row heads) n place v (slice_get (scopes_in row heads) n)
bound_past row heads n place head v lie e h =
    let there = shown-get row heads n (Some head) e in
    sym (ap (bound (scopes_in row heads) n place v) there ∙ set-past row (scopes_in row heads) n place head (Some v) (lies 0 (length row) heads n head lie e).1 there h)

-- ROWS OF SLOTS

-- the head in the slot at this number
pub found : (p : Paged) (n : ℕ) (head : ScopeHead) → n < length p.scopes → head ≡ scope_head_in (slot_at p.scopes n) → slice_get (map scope_head_in p.scopes) n ≡ Some head
found p n head h is =
    slice_get-map scope_head_in p.scopes n ∙ ap (option_map scope_head_in) (slice_get-get_or p.scopes n no_slot h) ∙ ap (λ x. Some x) (sym is)

lie_in_row : (p : Paged) → AreScopes p → LieWithin 0 (length (map binding_in p.bindings)) (map scope_head_in p.scopes)
lie_in_row p are = subst (λ to. LieWithin 0 to (map scope_head_in p.scopes)) (sym (length-map p.bindings binding_in)) are

pub part_within : (p : Paged) (n : ℕ) (head : ScopeHead) → AreScopes p → slice_get (map scope_head_in p.scopes) n ≡ Some head → head.start + head.count ≤ length p.bindings
part_within p n head are e = (lies 0 (length p.bindings) (map scope_head_in p.scopes) n head are e).1

pub parent_found : (p : Paged) (n : ℕ) (head : ScopeHead) → slice_get (map scope_head_in p.scopes) n ≡ Some head → head.parent ≡ parent_of (slice_get (scopes_of p) n)
parent_found p n head e = sym (ap parent_of (shown-get (map binding_in p.bindings) (map scope_head_in p.scopes) n (Some head) e))

pub count_found : (p : Paged) (n : ℕ) (head : ScopeHead) → AreScopes p → slice_get (map scope_head_in p.scopes) n ≡ Some head → head.count ≡ length (bindings_of (slice_get (scopes_of p) n))
count_found p n head are e = names_found (map binding_in p.bindings) (map scope_head_in p.scopes) n head (lie_in_row p are) e

pub value_found : (p : Paged) (n place : ℕ) (head : ScopeHead) → AreScopes p → slice_get (map scope_head_in p.scopes) n ≡ Some head → place < head.count
    → binding_in (slot_at p.bindings (head.start + place)) ≡ binding_of (slice_get (scopes_of p) n) place
value_found p n place head are e h =
    let part = part_within p n head are e in
    let below : head.start + place < length p.bindings = omega (arith, part, h) in
    sym (binding_found (map binding_in p.bindings) (map scope_head_in p.scopes) n place head None (lie_in_row p are) e h ∙ get_or-map binding_in p.bindings (head.start + place) no_slot None below)

pub value_past : (p : Paged) (n place : ℕ) (head : ScopeHead) → AreScopes p → slice_get (map scope_head_in p.scopes) n ≡ Some head → head.count ≤ place → None ≡ binding_of (slice_get (scopes_of p) n) place
value_past p n place head are e h = sym (binding_past (map binding_in p.bindings) (map scope_head_in p.scopes) n place head (lie_in_row p are) e h)

pub scopes_bound : (p : Paged) (n place : ℕ) (head : ScopeHead) (v : Value) → AreScopes p → slice_get (map scope_head_in p.scopes) n ≡ Some head → place < head.count
    → scopes_of (record p { bindings = slice_set p.bindings (head.start + place) (slot_of_value v) }) ≡ bound (scopes_of p) n place v (slice_get (scopes_of p) n)
scopes_bound p n place head v are e h =
    ap (λ row. scopes_in row (map scope_head_in p.scopes)) (map-set binding_in p.bindings (head.start + place) (slot_of_value v))
    ∙ bound_found (map binding_in p.bindings) (map scope_head_in p.scopes) n place head v (lie_in_row p are) e h

pub scopes_unbound : (p : Paged) (n place : ℕ) (head : ScopeHead) (v : Value) → AreScopes p → slice_get (map scope_head_in p.scopes) n ≡ Some head → head.count ≤ place
    → scopes_of p ≡ bound (scopes_of p) n place v (slice_get (scopes_of p) n)
scopes_unbound p n place head v are e h = bound_past (map binding_in p.bindings) (map scope_head_in p.scopes) n place head v (lie_in_row p are) e h

-- ONE SCOPE MORE

parent_kept : (parent : Option ℕ) → parent_in (value_of_parent parent) ≡ parent
parent_kept None = refl
parent_kept (Some scope) = refl

head_kept : (head : ScopeHead) → scope_head_in (slot_of_scope head) ≡ head
head_kept head = ap (λ parent. record { parent = parent; start = head.start; count = head.count }) (parent_kept head.parent)

blanks : (n : ℕ) → map binding_in (replicate n no_slot) ≡ replicate n None
blanks zero = refl
blanks (suc n) = ap (λ row. None ∷ row) (blanks n)

heads_pushed : (slots : List Slot) (head : ScopeHead) → map scope_head_in (slots ++ slot_of_scope head ∷ []) ≡ map scope_head_in slots ++ head ∷ []
heads_pushed slots head = map_push scope_head_in slots (slot_of_scope head) ∙ ap (λ h. map scope_head_in slots ++ h ∷ []) (head_kept head)

row_pushed : (slots : List Slot) (names : ℕ) → map binding_in (slots ++ replicate names no_slot) ≡ map binding_in slots ++ replicate names None
row_pushed slots names = map-append binding_in slots (replicate names no_slot) ∙ ap (λ row. map binding_in slots ++ row) (blanks names)

-- the rows with one scope more, and its bindings
abbrev pub with_scope_slots : Paged → Option ℕ → ℕ → Paged
with_scope_slots p parent names = record p {
  scopes = p.scopes ++ slot_of_scope (record { parent = parent; start = length p.bindings; count = names }) ∷ [];
  bindings = p.bindings ++ replicate names no_slot;
}

pub scopes_pushed : (p : Paged) (parent : Option ℕ) (names : ℕ) → AreScopes p
    → scopes_of (with_scope_slots p parent names) ≡ scopes_of p ++ record { parent = parent; bindings = replicate names None } ∷ []
scopes_pushed p parent names are =
    (λ t. scopes_in (row_pushed p.bindings names t) (heads_pushed p.scopes head t))
    ∙ shown_added (map binding_in p.bindings) (replicate names None) (map scope_head_in p.scopes) head (lie_in_row p are) (sym (length-map p.bindings binding_in)) (sym (length-replicate names none))
  where
    none : Option Value
    none = None

    head : ScopeHead
    head = record { parent = parent; start = length p.bindings; count = names }

pub are_pushed : (p : Paged) (parent : Option ℕ) (names : ℕ) → AreScopes p → AreScopes (with_scope_slots p parent names)
are_pushed p parent names are =
    let size : length (p.bindings ++ replicate names no_slot) ≡ length p.bindings + names =
    length-append p.bindings (replicate names no_slot) ∙ ap (λ n. length p.bindings + n) (length-replicate names no_slot) in
    subst (λ heads. LieWithin 0 (length (p.bindings ++ replicate names no_slot)) heads)
    (sym (heads_pushed p.scopes head))
    (lie_added 0 (length p.bindings) (length (p.bindings ++ replicate names no_slot)) (map scope_head_in p.scopes) head are (omega arith) (omega (arith, size)))
  where
    head : ScopeHead
    head = record { parent = parent; start = length p.bindings; count = names }
