-- What the objects of a heap are, of which heads, properties and elements are kept beside each other: one of them, an edit,
-- and some more.
use Rattle.std.proofs.Common.{◌≡◌, ◌≢◌, ℕ, zero, suc, ◌+◌, ◌<◌, ◌⊎◌, inl, inr, List, [], ◌∷◌, ◌++◌, length, Option, None, Some, refl, sym, ap, ◌∙◌, subst, arith, append_assoc, slice_get, slice_index_or}
use Rattle.std.specs.Prelude.{option_and_then, option_map, slice_set}
use Rattle.std.proofs.lemmas.Bool.{cases_eq}
use Rattle.std.proofs.lemmas.List.{append-nil, get_or-set_other, get_or-set_same, length-map, length-set}
use Rattle.std.proofs.lemmas.Option.{get_or_from_slice_get, none-some, slice_get-get_or}
use Rattle.rip_base.specs.declared.value.Value.{Value}
use Rattle.rip_base.specs.declared.value.Span.{Span}
use Rattle.rip_values.specs.Pool.{Texts}
use Rattle.rip_heap_region.specs.declared.pages.property.Property.{Property}
use Rattle.rip_heap_region.specs.declared.pages.slot.Slot.{Slot}
use Rattle.rip_heap_region.specs.Chains.{properties_of as properties_in_chain}
use Rattle.rip_heap_region.specs.declared.segments.array.Array.{Array}
use Rattle.rip_heap_region.specs.Segments.{lists_from}
use Rattle.rip_heap.specs.declared.class.Class.TheVariants.{Array as ArrayClass, Plain}
use Rattle.rip_heap.specs.declared.stored.StoredObject.{StoredObject}
use Rattle.rip_heap.specs.Arrays.{elements_of}
use Rattle.rip_heap.specs.Growth.{KeepsObject}
use Rattle.rip_heap.specs.HeadSlots.{array_in, chain_in, head_in}
use Rattle.rip_heap.specs.NamedObjects.{IsArrayAt, KeepObjects, Named, edited, named_in, place_at, with_another, with_edit, with_more, with_paid_edit}
use Rattle.rip_heap.specs.Names.{place_of}
use Rattle.rip_heap.specs.Region.{Kept, Listed, arrays_in, chains_in, listed, with_bare, with_elements, with_properties}
use Rattle.rip_heap.specs.Rooms.{Rooms, spending}
use Rattle.rip_heap.specs.Stored.{all_stored, head_of, object_of, objects_of, properties_of, stored_with}
use Rattle.rip_heap.specs.World.{Object}

-- LISTS OF ONE LENGTH

-- each head has its properties and its elements
pub record AreEven (l : Listed) : Type 0 where
  pub properties : length l.properties ≡ length l.heads
  pub elements : length l.elements ≡ length l.heads

lists_count : (owner : ℕ) (arrays : List Array) (slots : List Slot) → length (lists_from owner arrays slots) ≡ length arrays
lists_count owner [] slots = refl
lists_count owner (array ∷ arrays) slots = ap suc (lists_count (owner + 1) arrays slots)

pub listed_even : (k : Kept) → AreEven (listed k)
listed_even k = record {
  properties = omega (arith, length-map (chains_in k.pages) (properties_in_chain k.pages.properties), length-map k.pages.objects chain_in, length-map k.pages.objects head_in);
  elements = omega (arith, lists_count 0 (arrays_in k.pages) k.pages.elements, length-map k.pages.objects array_in, length-map k.pages.objects head_in);
}

-- THE OBJECTS IN THE LISTS

objects_count : (heads : List StoredObject) (properties : List (List Property)) (elements : List (List Value))
    → length (objects_of (all_stored heads properties) elements) ≡ length heads
objects_count [] properties elements = refl
objects_count (h ∷ heads) [] [] = ap suc (objects_count heads [] [])
objects_count (h ∷ heads) [] (e ∷ elements) = ap suc (objects_count heads [] elements)
objects_count (h ∷ heads) (p ∷ properties) [] = ap suc (objects_count heads properties [])
objects_count (h ∷ heads) (p ∷ properties) (e ∷ elements) = ap suc (objects_count heads properties elements)

-- the head of one of them
head_at_place : (heads : List StoredObject) (properties : List (List Property)) (elements : List (List Value)) (at : ℕ)
    → option_map head_of (slice_get (objects_of (all_stored heads properties) elements) at) ≡ slice_get heads at
head_at_place [] properties elements at = refl
head_at_place (h ∷ heads) [] [] zero = refl
head_at_place (h ∷ heads) [] [] (suc at) = head_at_place heads [] [] at
head_at_place (h ∷ heads) [] (e ∷ elements) zero = refl
head_at_place (h ∷ heads) [] (e ∷ elements) (suc at) = head_at_place heads [] elements at
head_at_place (h ∷ heads) (p ∷ properties) [] zero = refl
head_at_place (h ∷ heads) (p ∷ properties) [] (suc at) = head_at_place heads properties [] at
head_at_place (h ∷ heads) (p ∷ properties) (e ∷ elements) zero = refl
head_at_place (h ∷ heads) (p ∷ properties) (e ∷ elements) (suc at) = head_at_place heads properties elements at

-- the properties of one of them are the list of its place
properties_at_place : (heads : List StoredObject) (properties : List (List Property)) (elements : List (List Value)) (at : ℕ) → length properties ≡ length heads
    → properties_of (slice_get (objects_of (all_stored heads properties) elements) at) ≡ slice_index_or properties at []
properties_at_place [] [] elements at same = refl
properties_at_place [] (p ∷ properties) elements at same = absurd (omega (arith, same))
properties_at_place (h ∷ heads) [] elements at same = absurd (omega (arith, same))
properties_at_place (h ∷ heads) (p ∷ properties) [] zero same = refl
properties_at_place (h ∷ heads) (p ∷ properties) [] (suc at) same = properties_at_place heads properties [] at (omega (arith, same))
properties_at_place (h ∷ heads) (p ∷ properties) (e ∷ elements) zero same = refl
properties_at_place (h ∷ heads) (p ∷ properties) (e ∷ elements) (suc at) same = properties_at_place heads properties elements at (omega (arith, same))

-- so are its elements
elements_at_place : (heads : List StoredObject) (properties : List (List Property)) (elements : List (List Value)) (at : ℕ) → length elements ≡ length heads
    → elements_of (slice_get (objects_of (all_stored heads properties) elements) at) ≡ slice_index_or elements at []
elements_at_place [] properties [] at same = refl
elements_at_place [] properties (e ∷ elements) at same = absurd (omega (arith, same))
elements_at_place (h ∷ heads) properties [] at same = absurd (omega (arith, same))
elements_at_place (h ∷ heads) [] (e ∷ elements) zero same = refl
elements_at_place (h ∷ heads) [] (e ∷ elements) (suc at) same = elements_at_place heads [] elements at (omega (arith, same))
elements_at_place (h ∷ heads) (p ∷ properties) (e ∷ elements) zero same = refl
elements_at_place (h ∷ heads) (p ∷ properties) (e ∷ elements) (suc at) same = elements_at_place heads properties elements at (omega (arith, same))

-- AN EDIT OF ONE OF THEM

edited-cons : (x : Object) (xs : List Object) (at : ℕ) (edit : Object → Object) (o : Option Object) → edited (x ∷ xs) (suc at) edit o ≡ x ∷ edited xs at edit o
edited-cons x xs at edit None = refl
edited-cons x xs at edit (Some o) = refl

properties_changed : (heads : List StoredObject) (properties : List (List Property)) (elements : List (List Value)) (at : ℕ) (change : List Property → List Property)
    → length properties ≡ length heads → length elements ≡ length heads
    → objects_of (all_stored heads (slice_set properties at (change (slice_index_or properties at [])))) elements
    ≡ edited (objects_of (all_stored heads properties) elements) at (λ o. record o { properties = change o.properties }) (slice_get (objects_of (all_stored heads properties) elements) at)
properties_changed [] properties elements at change same also = refl
properties_changed (h ∷ heads) [] elements at change same also = absurd (omega (arith, same))
properties_changed (h ∷ heads) (p ∷ properties) [] at change same also = absurd (omega (arith, also))
properties_changed (h ∷ heads) (p ∷ properties) (e ∷ elements) zero change same also = refl
properties_changed (h ∷ heads) (p ∷ properties) (e ∷ elements) (suc at) change same also =
    ap (λ xs. object_of (stored_with h p) e ∷ xs) (properties_changed heads properties elements at change (omega (arith, same)) (omega (arith, also)))
    ∙ sym (edited-cons (object_of (stored_with h p) e) (objects_of (all_stored heads properties) elements) at (λ o. record o { properties = change o.properties }) (slice_get (objects_of (all_stored heads properties) elements) at))

elements_changed : (heads : List StoredObject) (properties : List (List Property)) (elements : List (List Value)) (at : ℕ) (change : List Value → List Value)
    → length properties ≡ length heads → length elements ≡ length heads
    → objects_of (all_stored heads properties) (slice_set elements at (change (slice_index_or elements at [])))
    ≡ edited (objects_of (all_stored heads properties) elements) at (λ o. record o { elements = change o.elements }) (slice_get (objects_of (all_stored heads properties) elements) at)
elements_changed [] properties elements at change same also = refl
elements_changed (h ∷ heads) [] elements at change same also = absurd (omega (arith, same))
elements_changed (h ∷ heads) (p ∷ properties) [] at change same also = absurd (omega (arith, also))
elements_changed (h ∷ heads) (p ∷ properties) (e ∷ elements) zero change same also = refl
elements_changed (h ∷ heads) (p ∷ properties) (e ∷ elements) (suc at) change same also =
    ap (λ xs. object_of (stored_with h p) e ∷ xs) (elements_changed heads properties elements at change (omega (arith, same)) (omega (arith, also)))
    ∙ sym (edited-cons (object_of (stored_with h p) e) (objects_of (all_stored heads properties) elements) at (λ o. record o { elements = change o.elements }) (slice_get (objects_of (all_stored heads properties) elements) at))

-- one more behind the others
objects_behind : (heads : List StoredObject) (head : StoredObject) (properties : List (List Property)) (elements : List (List Value)) → length properties ≡ length heads → length elements ≡ length heads
    → objects_of (all_stored (heads ++ head ∷ []) (properties ++ [] ∷ [])) (elements ++ [] ∷ [])
    ≡ objects_of (all_stored heads properties) elements ++ object_of (stored_with head []) [] ∷ []
objects_behind [] head [] [] same also = refl
objects_behind [] head [] (e ∷ elements) same also = absurd (omega (arith, also))
objects_behind [] head (p ∷ properties) elements same also = absurd (omega (arith, same))
objects_behind (h ∷ heads) head [] elements same also = absurd (omega (arith, same))
objects_behind (h ∷ heads) head (p ∷ properties) [] same also = absurd (omega (arith, also))
objects_behind (h ∷ heads) head (p ∷ properties) (e ∷ elements) same also =
    ap (λ xs. object_of (stored_with h p) e ∷ xs) (objects_behind heads head properties elements (omega (arith, same)) (omega (arith, also)))

-- WHAT LIES IN THE ROWS, beside the texts

pub heads_count : (n : Named) (pool : Texts) (l : Listed) → named_in pool l ≡ n → length n.objects ≡ length l.heads
heads_count n pool l whole = sym (ap (λ (m : Named). length m.objects) whole) ∙ objects_count l.heads l.properties l.elements

pub heads_within : (n : Named) (pool : Texts) (l : Listed) (at : ℕ) → named_in pool l ≡ n → at < length n.objects → at < length l.heads
heads_within n pool l at whole within = omega (arith, within, heads_count n pool l whole)

pub head_here : (n : Named) (pool : Texts) (l : Listed) (at : ℕ) → named_in pool l ≡ n → option_map head_of (slice_get n.objects at) ≡ slice_get l.heads at
head_here n pool l at whole =
    sym (ap (λ (m : Named). option_map head_of (slice_get m.objects at)) whole) ∙ head_at_place l.heads l.properties l.elements at

pub properties_here : (n : Named) (pool : Texts) (l : Listed) (at : ℕ) → named_in pool l ≡ n → AreEven l → properties_of (slice_get n.objects at) ≡ slice_index_or l.properties at []
properties_here n pool l at whole even =
    sym (ap (λ (m : Named). properties_of (slice_get m.objects at)) whole) ∙ properties_at_place l.heads l.properties l.elements at even.properties

pub elements_here : (n : Named) (pool : Texts) (l : Listed) (at : ℕ) → named_in pool l ≡ n → AreEven l → elements_of (slice_get n.objects at) ≡ slice_index_or l.elements at []
elements_here n pool l at whole even =
    sym (ap (λ (m : Named). elements_of (slice_get m.objects at)) whole) ∙ elements_at_place l.heads l.properties l.elements at even.elements

-- the place of a property with a name
place_stands : (n : Named) (at : ℕ) (name : Span) (ps : List Property) → at < length n.objects → properties_of (slice_get n.objects at) ≡ ps
    → place_of n.pool name ps ≡ place_at n at name
place_stands n at name ps within is = by (slice_get n.objects at) (slice_get-get_or n.objects at none within) is
  where
    none : Object
    none = record { class = Plain; proto = None; code = None; properties = []; elements = [] }

    by : (found : Option Object) → found ≡ Some (slice_index_or n.objects at none) → properties_of found ≡ ps
        → place_of n.pool name ps ≡ option_and_then (λ (o : Object). place_of n.pool name o.properties) found
    by None there same = absurd (none-some (slice_index_or n.objects at none) there)
    by (Some o) there same = ap (place_of n.pool name) (sym same)

pub place_here : (n : Named) (pool : Texts) (l : Listed) (at : ℕ) (name : Span) → named_in pool l ≡ n → AreEven l → at < length n.objects
    → place_of pool name (slice_index_or l.properties at []) ≡ place_at n at name
place_here n pool l at name whole even within =
    ap (λ (m : Named). place_of m.pool name (slice_index_or l.properties at [])) whole
    ∙ place_stands n at name (slice_index_or l.properties at []) within (properties_here n pool l at whole even)

-- an array that stands there is one in the rows
class_here : (o : Option Object) → option_map (λ (h : StoredObject). h.class) (option_map head_of o) ≡ option_map (λ (x : Object). x.class) o
class_here None = refl
class_here (Some o) = refl

pub array_here : (n : Named) (pool : Texts) (l : Listed) (at : ℕ) → named_in pool l ≡ n → IsArrayAt n.objects at
    → option_map (λ (h : StoredObject). h.class) (slice_get l.heads at) ≡ Some ArrayClass
array_here n pool l at whole array =
    sym (ap (option_map (λ (h : StoredObject). h.class)) (head_here n pool l at whole)) ∙ class_here (slice_get n.objects at) ∙ array

pub properties_edited : (n : Named) (pool : Texts) (l l' : Listed) (at : ℕ) (change : List Property → List Property) (cost : Rooms → Rooms) → named_in pool l ≡ n → AreEven l
    → l' ≡ record (with_properties l at (change (slice_index_or l.properties at []))) { rooms = cost l.rooms }
    → named_in pool l' ≡ record (with_edit n at (λ o. record o { properties = change o.properties })) { rooms = cost n.rooms }
properties_edited n pool l l' at change cost whole even is =
    ap (named_in pool) is
    ∙ ap (λ objects. named objects) (properties_changed l.heads l.properties l.elements at change even.properties even.elements)
    ∙ ap (λ (m : Named). record (with_edit m at (λ o. record o { properties = change o.properties })) { rooms = cost m.rooms }) whole
  where
    named : List Object → Named
    named objects = record { pool = pool; objects = objects; scopes = l.scopes; rooms = cost l.rooms }

pub elements_edited : (n : Named) (pool : Texts) (l l' : Listed) (at : ℕ) (change : List Value → List Value) (cost : Rooms → Rooms) → named_in pool l ≡ n → AreEven l
    → l' ≡ record (with_elements l at (change (slice_index_or l.elements at []))) { rooms = cost l.rooms }
    → named_in pool l' ≡ record (with_edit n at (λ o. record o { elements = change o.elements })) { rooms = cost n.rooms }
elements_edited n pool l l' at change cost whole even is =
    ap (named_in pool) is
    ∙ ap (λ objects. named objects) (elements_changed l.heads l.properties l.elements at change even.properties even.elements)
    ∙ ap (λ (m : Named). record (with_edit m at (λ o. record o { elements = change o.elements })) { rooms = cost m.rooms }) whole
  where
    named : List Object → Named
    named objects = record { pool = pool; objects = objects; scopes = l.scopes; rooms = cost l.rooms }

pub another_stands : (n : Named) (pool : Texts) (l l' : Listed) (head : StoredObject) → named_in pool l ≡ n → AreEven l → l' ≡ with_bare l head
    → named_in pool l' ≡ with_another n (object_of (stored_with head []) []) 1
another_stands n pool l l' head whole even is =
    ap (named_in pool) is
    ∙ ap (λ objects. named objects) (objects_behind l.heads head l.properties l.elements even.properties even.elements)
    ∙ ap (λ (m : Named). with_another m (object_of (stored_with head []) []) 1) whole
  where
    named : List Object → Named
    named objects = record { pool = pool; objects = objects; scopes = l.scopes; rooms = spending 1 l.rooms }

-- an edit that keeps what never changes in an object keeps it in each
edit_keeps : (n n' : Named) (at : ℕ) (edit : Object → Object) → ((o : Object) → KeepsObject o (edit o)) → n' ≡ with_edit n at edit → KeepObjects n.objects n'.objects
edit_keeps n n' at edit keeps is = subst (λ (m : Named). KeepObjects n.objects m.objects) (sym is) (by (slice_get n.objects at) refl)
  where
    other : (o : Object) → slice_get n.objects at ≡ Some o → (i : ℕ) (d : Object) → i < length n.objects → (i ≡ at) ⊎ (i ≢ at)
        → KeepsObject (slice_index_or n.objects i d) (slice_index_or (slice_set n.objects at (edit o)) i d)
    other o there i d lt (inl here) =
        let within : at < length n.objects = omega (arith, lt, here) in
        let old : slice_index_or n.objects i d ≡ o = ap (λ k. slice_index_or n.objects k d) here ∙ get_or_from_slice_get n.objects at o d there in
        let new : slice_index_or (slice_set n.objects at (edit o)) i d ≡ edit o =
        ap (λ k. slice_index_or (slice_set n.objects at (edit o)) k d) here ∙ get_or-set_same n.objects at (edit o) d within in
        subst (λ x. KeepsObject x (slice_index_or (slice_set n.objects at (edit o)) i d)) (sym old) (subst (KeepsObject o) (sym new) (keeps o))
    other o there i d lt (inr apart) =
        subst (KeepsObject (slice_index_or n.objects i d)) (sym (get_or-set_other n.objects at i (edit o) d apart)) (refl, refl, refl)

    by : (found : Option Object) → slice_get n.objects at ≡ found → KeepObjects n.objects (edited n.objects at edit found)
    by None there = record { made = omega arith; objects = λ i d lt. (refl, refl, refl) }
    by (Some o) there = record {
      made = omega (arith, length-set n.objects at (edit o));
      objects = λ i d lt. other o there i d lt (cases_eq i at);
    }

pub cost_keeps : (n n' : Named) (at : ℕ) (edit : Object → Object) (cost : Rooms → Rooms) → ((o : Object) → KeepsObject o (edit o))
    → n' ≡ record (with_edit n at edit) { rooms = cost n.rooms } → KeepObjects n.objects n'.objects
cost_keeps n n' at edit cost keeps is =
    subst (λ objects. KeepObjects n.objects objects) (sym (ap (λ (m : Named). m.objects) is)) (edit_keeps n (with_edit n at edit) at edit keeps refl)

-- ONE EDIT BEHIND ANOTHER

spent_both : (a b : ℕ) (rooms : Rooms) → spending b (spending a rooms) ≡ spending (a + b) rooms
spent_both a b rooms =
    let sum : rooms.spent + a + b ≡ rooms.spent + (a + b) = omega arith in
    ap (λ spent. room spent) sum
  where
    room : ℕ → Rooms
    room spent = record { spent = spent; room = rooms.room }

edited-last : (xs : List Object) (o : Object) (edit : Object → Object) → edited (xs ++ o ∷ []) (length xs) edit (slice_get (xs ++ o ∷ []) (length xs)) ≡ xs ++ edit o ∷ []
edited-last [] o edit = refl
edited-last (x ∷ xs) o edit =
    edited-cons x (xs ++ o ∷ []) (length xs) edit (slice_get (xs ++ o ∷ []) (length xs)) ∙ ap (λ ys. x ∷ ys) (edited-last xs o edit)

-- the object that was put behind the others is changed
pub edit_last : (n : Named) (o : Object) (edit : Object → Object) (a b : ℕ) → with_paid_edit (with_another n o a) (length n.objects) edit b ≡ with_another n (edit o) (a + b)
edit_last n o edit a b = λ t. named (edited-last n.objects o edit t) (spent_both a b n.rooms t)
  where
    named : List Object → Rooms → Named
    named objects rooms = record { pool = n.pool; objects = objects; scopes = n.scopes; rooms = rooms }

edited-twice : (xs : List Object) (at : ℕ) (f g : Object → Object)
    → edited (edited xs at f (slice_get xs at)) at g (slice_get (edited xs at f (slice_get xs at)) at) ≡ edited xs at (λ o. g (f o)) (slice_get xs at)
edited-twice [] at f g = refl
edited-twice (x ∷ xs) zero f g = refl
edited-twice (x ∷ xs) (suc at) f g =
    (λ t. edited (edited-cons x xs at f (slice_get xs at) t) (suc at) g (slice_get (edited-cons x xs at f (slice_get xs at) t) (suc at)))
    ∙ edited-cons x (edited xs at f (slice_get xs at)) at g (slice_get (edited xs at f (slice_get xs at)) at)
    ∙ ap (λ ys. x ∷ ys) (edited-twice xs at f g)
    ∙ sym (edited-cons x xs at (λ o. g (f o)) (slice_get xs at))

-- the same object is changed again
pub edit_twice : (n : Named) (at : ℕ) (f g : Object → Object) (a b : ℕ) → with_paid_edit (with_paid_edit n at f a) at g b ≡ with_paid_edit n at (λ o. g (f o)) (a + b)
edit_twice n at f g a b = λ t. named (edited-twice n.objects at f g t) (spent_both a b n.rooms t)
  where
    named : List Object → Rooms → Named
    named objects rooms = record { pool = n.pool; objects = objects; scopes = n.scopes; rooms = rooms }

-- ELEMENTS BEHIND OTHERS

-- no elements are none
none_behind : (xs : List Object) (at : ℕ) → edited xs at (with_more []) (slice_get xs at) ≡ xs
none_behind [] at = refl
none_behind (x ∷ xs) zero = ap (λ items. record x { elements = items } ∷ xs) (append-nil x.elements)
none_behind (x ∷ xs) (suc at) = edited-cons x xs at (with_more []) (slice_get xs at) ∙ ap (λ ys. x ∷ ys) (none_behind xs at)

pub none_more : (n : Named) (at : ℕ) (items : List Value) (cells : ℕ) → items ≡ [] → cells ≡ 0 → n ≡ with_paid_edit n at (with_more items) cells
none_more n at items cells none free =
    let same : n.rooms.spent ≡ n.rooms.spent + cells = omega (arith, free) in
    (λ t. record n { objects = sym (none_behind n.objects at) t; rooms = record { spent = same t; room = n.rooms.room } })
    ∙ ap (λ xs. with_paid_edit n at (with_more xs) cells) (sym none)

-- one element more
pub one_more : (n now : Named) (at : ℕ) (items more : List Value) (item : Value) (cells : ℕ) → now ≡ with_paid_edit n at (with_more items) cells → items ++ item ∷ [] ≡ more
    → with_paid_edit now at (with_more (item ∷ [])) 1 ≡ with_paid_edit n at (with_more more) (cells + 1)
one_more n now at items more item cells is next =
    ap (λ (m : Named). with_paid_edit m at (with_more (item ∷ [])) 1) is
    ∙ edit_twice n at (with_more items) (with_more (item ∷ [])) cells 1
    ∙ (λ t. with_paid_edit n at (λ o. record o { elements = append_assoc o.elements items (item ∷ []) t }) (cells + 1))
    ∙ ap (λ xs. with_paid_edit n at (with_more xs) (cells + 1)) next

-- an array with more elements is one
array_edited : (xs : List Object) (at : ℕ) (items : List Value) → IsArrayAt xs at → IsArrayAt (edited xs at (with_more items) (slice_get xs at)) at
array_edited [] at items array = array
array_edited (x ∷ xs) zero items array = array
array_edited (x ∷ xs) (suc at) items array =
    subst (λ ys. IsArrayAt ys (suc at)) (sym (edited-cons x xs at (with_more items) (slice_get xs at))) (array_edited xs at items array)

pub array_kept : (n now : Named) (at : ℕ) (items : List Value) (cells : ℕ) → now ≡ with_paid_edit n at (with_more items) cells → IsArrayAt n.objects at → IsArrayAt now.objects at
array_kept n now at items cells is array = subst (λ (m : Named). IsArrayAt m.objects at) (sym is) (array_edited n.objects at items array)

pub array_behind : (n now : Named) (o : Object) (cells : ℕ) → now ≡ with_another n o cells → o.class ≡ ArrayClass → IsArrayAt now.objects (length n.objects)
array_behind n now o cells is array = subst (λ (m : Named). IsArrayAt m.objects (length n.objects)) (sym is) (by n.objects)
  where
    by : (xs : List Object) → IsArrayAt (xs ++ o ∷ []) (length xs)
    by [] = ap (λ class. Some class) array
    by (x ∷ xs) = by xs

-- the others stay as they are
other_edited : (xs : List Object) (at other : ℕ) (edit : Object → Object) → other < at → slice_get (edited xs at edit (slice_get xs at)) other ≡ slice_get xs other
other_edited xs zero other edit below = absurd (omega (arith, below))
other_edited [] (suc at) other edit below = refl
other_edited (x ∷ xs) (suc at) zero edit below = ap (λ ys. slice_get ys 0) (edited-cons x xs at edit (slice_get xs at))
other_edited (x ∷ xs) (suc at) (suc other) edit below =
    ap (λ ys. slice_get ys (suc other)) (edited-cons x xs at edit (slice_get xs at)) ∙ other_edited xs at other edit (omega (arith, below))

pub other_kept : (n now : Named) (at other : ℕ) (items : List Value) (cells : ℕ) → now ≡ with_paid_edit n at (with_more items) cells → other < at
    → slice_get now.objects other ≡ slice_get n.objects other
other_kept n now at other items cells is below =
    ap (λ (m : Named). slice_get m.objects other) is ∙ other_edited n.objects at other (with_more items) below

pub other_behind : (n now : Named) (o : Object) (cells other : ℕ) → now ≡ with_another n o cells → other < length n.objects → slice_get now.objects other ≡ slice_get n.objects other
other_behind n now o cells other is below = ap (λ (m : Named). slice_get m.objects other) is ∙ by n.objects other below
  where
    by : (xs : List Object) (i : ℕ) → i < length xs → slice_get (xs ++ o ∷ []) i ≡ slice_get xs i
    by [] i lt = absurd (omega (arith, lt))
    by (x ∷ xs) zero lt = refl
    by (x ∷ xs) (suc i) lt = by xs i (omega (arith, lt))
