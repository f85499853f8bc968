-- What the slots of an owner hold, and how many of them stand before a place.
use Rattle.std.proofs.Common.{◌≡◌, ◌≢◌, ℕ, zero, suc, ◌+◌, ◌<◌, ◌≤◌, eqb, Bool, true, false, List, [], ◌∷◌, ◌++◌, length, Option, Some, refl, sym, ap, ◌∙◌, arith, set, take, slice_get, replicate, add-zero}
use Rattle.std.proofs.lemmas.Bool.{eq-eqb, ne_eqb}
use Rattle.std.proofs.lemmas.List.{length-append, length-take-le, take-append-le, take_more}
use Rattle.std.proofs.lemmas.Option.{slice_get_within}
use Rattle.rip_base.specs.declared.value.Value.{Value}
use Rattle.rip_heap_region.specs.declared.pages.slot.Slot.{Slot}
use Rattle.rip_heap_region.specs.Pages.{no_slot, slot_at}
use Rattle.rip_heap_region.specs.Segments.{blank_of, rank, value_if, values_of}

-- A SLOT OF AN OWNER, AND ONE OF ANOTHER

own : (owner : ℕ) (s : Slot) (values : List Value) → s.link ≡ owner → value_if (eqb s.link owner) s values ≡ s.value ∷ values
own owner s values e = ap (λ b. value_if b s values) (eq-eqb s.link owner e)

not_own : (owner : ℕ) (s : Slot) (values : List Value) → s.link ≢ owner → value_if (eqb s.link owner) s values ≡ values
not_own owner s values apart = ap (λ b. value_if b s values) (ne_eqb s.link owner apart)

-- ONE VALUE BY ITS RANK

nth-if : (b : Bool) (s : Slot) (front all : List Value) (o : Option Value) → slice_get all (length front) ≡ o
    → slice_get (value_if b s all) (length (value_if b s front)) ≡ o
nth-if true s front all o h = h
nth-if false s front all o h = h

pub values-nth : (owner : ℕ) (slots : List Slot) (p : ℕ) → p < length slots → (slot_at slots p).link ≡ owner
    → slice_get (values_of owner slots) (rank owner slots p) ≡ Some (slot_at slots p).value
values-nth owner [] p lt e = absurd (omega (arith, lt))
values-nth owner (s ∷ slots) zero lt e = ap (λ vs. slice_get vs 0) (own owner s (values_of owner slots) e)
values-nth owner (s ∷ slots) (suc p) lt e =
    nth-if (eqb s.link owner) s (values_of owner (take p slots)) (values_of owner slots) (Some (slot_at slots p).value)
    (values-nth owner slots p (omega (arith, lt)) e)

pub rank-within : (owner : ℕ) (slots : List Slot) (p : ℕ) → p < length slots → (slot_at slots p).link ≡ owner → rank owner slots p < length (values_of owner slots)
rank-within owner slots p lt e = slice_get_within (values_of owner slots) (rank owner slots p) (slot_at slots p).value (values-nth owner slots p lt e)

-- A SLOT PUT IN THE PLACE OF ANOTHER

set-if : (b : Bool) (s : Slot) (front all new : List Value) (v : Value) → new ≡ set all (length front) v
    → value_if b s new ≡ set (value_if b s all) (length (value_if b s front)) v
set-if true s front all new v h = ap (λ vs. s.value ∷ vs) h
set-if false s front all new v h = h

pub values-set : (owner : ℕ) (slots : List Slot) (p : ℕ) (new : Slot) → p < length slots → (slot_at slots p).link ≡ owner → new.link ≡ owner
    → values_of owner (set slots p new) ≡ set (values_of owner slots) (rank owner slots p) new.value
values-set owner [] p new lt e same = absurd (omega (arith, lt))
values-set owner (s ∷ slots) zero new lt e same =
    own owner new (values_of owner slots) same ∙ sym (ap (λ vs. set vs 0 new.value) (own owner s (values_of owner slots) e))
values-set owner (s ∷ slots) (suc p) new lt e same =
    set-if (eqb s.link owner) s (values_of owner (take p slots)) (values_of owner slots) (values_of owner (set slots p new)) new.value
    (values-set owner slots p new (omega (arith, lt)) e same)

pub values-set_other : (owner : ℕ) (slots : List Slot) (p : ℕ) (new : Slot) → (slot_at slots p).link ≢ owner → new.link ≢ owner
    → values_of owner (set slots p new) ≡ values_of owner slots
values-set_other owner [] p new apart other = refl
values-set_other owner (s ∷ slots) zero new apart other = not_own owner new (values_of owner slots) other ∙ sym (not_own owner s (values_of owner slots) apart)
values-set_other owner (s ∷ slots) (suc p) new apart other =
    ap (λ vs. value_if (eqb s.link owner) s vs) (values-set_other owner slots p new apart other)

same-if : (b : Bool) (s new : Slot) (values : List Value) → new.value ≡ s.value → value_if b new values ≡ value_if b s values
same-if true s new values e = ap (λ v. v ∷ values) e
same-if false s new values e = refl

-- by one with the same value
pub values-set_same : (owner : ℕ) (slots : List Slot) (p : ℕ) (new : Slot) → new.link ≡ (slot_at slots p).link → new.value ≡ (slot_at slots p).value
    → values_of owner (set slots p new) ≡ values_of owner slots
values-set_same owner [] p new link value = refl
values-set_same owner (s ∷ slots) zero new link value =
    ap (λ o. value_if (eqb o owner) new (values_of owner slots)) link ∙ same-if (eqb s.link owner) s new (values_of owner slots) value
values-set_same owner (s ∷ slots) (suc p) new link value = ap (λ vs. value_if (eqb s.link owner) s vs) (values-set_same owner slots p new link value)

-- SLOTS BEHIND THE OTHERS

append-if : (b : Bool) (s : Slot) (all front back : List Value) → all ≡ front ++ back → value_if b s all ≡ value_if b s front ++ back
append-if true s all front back h = ap (λ vs. s.value ∷ vs) h
append-if false s all front back h = h

pub values-append : (owner : ℕ) (slots more : List Slot) → values_of owner (slots ++ more) ≡ values_of owner slots ++ values_of owner more
values-append owner [] more = refl
values-append owner (s ∷ slots) more =
    append-if (eqb s.link owner) s (values_of owner (slots ++ more)) (values_of owner slots) (values_of owner more) (values-append owner slots more)

-- slots that are all of others hold nothing
pub values-none : (owner : ℕ) (slots : List Slot) → ((k : ℕ) → k < length slots → (slot_at slots k).link ≢ owner) → values_of owner slots ≡ []
values-none owner [] h = refl
values-none owner (s ∷ slots) h =
    not_own owner s (values_of owner slots) (h zero (omega arith)) ∙ values-none owner slots (λ k lt. h (suc k) (omega (arith, lt)))

pub values-first : (owner : ℕ) (s : Slot) (more : List Slot) → s.link ≡ owner → values_of owner (s ∷ more) ≡ s.value ∷ values_of owner more
values-first owner s more e = own owner s (values_of owner more) e

pub count-replicate : (owner n : ℕ) → length (values_of owner (replicate n (blank_of owner))) ≡ n
count-replicate owner zero = refl
count-replicate owner (suc n) =
    ap length (own owner (blank_of owner) (values_of owner (replicate n (blank_of owner))) refl) ∙ ap suc (count-replicate owner n)

-- RANKS

length-more : (b : Bool) (s : Slot) (old new : List Value) → length new ≡ length old → length (value_if b s new) ≡ length (value_if b s old)
length-more true s old new h = ap suc h
length-more false s old new h = h

length-if : (b : Bool) (s new : Slot) (values : List Value) → length (value_if b new values) ≡ length (value_if b s values)
length-if true s new values = refl
length-if false s new values = refl

pub rank-set : (owner : ℕ) (slots : List Slot) (p : ℕ) (new : Slot) (at : ℕ) → new.link ≡ (slot_at slots p).link → rank owner (set slots p new) at ≡ rank owner slots at
rank-set owner [] p new at e = refl
rank-set owner (s ∷ slots) zero new zero e = refl
rank-set owner (s ∷ slots) (suc p) new zero e = refl
rank-set owner (s ∷ slots) zero new (suc at) e =
    ap (λ n. length (value_if (eqb n owner) new (values_of owner (take at slots)))) e
    ∙ length-if (eqb s.link owner) s new (values_of owner (take at slots))
rank-set owner (s ∷ slots) (suc p) new (suc at) e =
    length-more (eqb s.link owner) s (values_of owner (take at slots)) (values_of owner (take at (set slots p new))) (rank-set owner slots p new at e)

pub rank-append : (owner : ℕ) (slots more : List Slot) (at : ℕ) → at ≤ length slots → rank owner (slots ++ more) at ≡ rank owner slots at
rank-append owner slots more at le = ap (λ xs. length (values_of owner xs)) (take-append-le at slots more le)

pub rank-next : (owner : ℕ) (slots : List Slot) (at : ℕ) → at < length slots → (slot_at slots at).link ≡ owner → rank owner slots (at + 1) ≡ rank owner slots at + 1
rank-next owner slots at lt e =
    ap (λ xs. length (values_of owner xs)) (take_more slots at no_slot lt)
    ∙ ap length (values-append owner (take at slots) (slot_at slots at ∷ []))
    ∙ length-append (values_of owner (take at slots)) (values_of owner (slot_at slots at ∷ []))
    ∙ ap (λ vs. rank owner slots at + length vs) (own owner (slot_at slots at) [] e)

-- along slots of one owner
pub rank-along : (owner : ℕ) (slots : List Slot) (at k : ℕ) → at + k ≤ length slots → ((j : ℕ) → j < k → (slot_at slots (at + j)).link ≡ owner)
    → rank owner slots (at + k) ≡ rank owner slots at + k
rank-along owner slots at zero le h = ap (rank owner slots) (add-zero at) ∙ sym (add-zero (rank owner slots at))
rank-along owner slots at (suc k) le h =
    let next : at + suc k ≡ at + k + 1 = omega arith in
    let last : rank owner slots (at + k) + 1 ≡ rank owner slots at + suc k =
    omega (arith, rank-along owner slots at k (omega (arith, le)) (λ j lt. h j (omega (arith, lt)))) in
    ap (rank owner slots) next ∙ rank-next owner slots (at + k) (omega (arith, le)) (h k (omega arith)) ∙ last

length-most : (b : Bool) (s : Slot) (values : List Value) → length (value_if b s values) ≤ suc (length values)
length-most true s values = omega arith
length-most false s values = omega arith

pub values-most : (owner : ℕ) (slots : List Slot) → length (values_of owner slots) ≤ length slots
values-most owner [] = omega arith
values-most owner (s ∷ slots) = omega (arith, length-most (eqb s.link owner) s (values_of owner slots), values-most owner slots)

pub rank-most : (owner : ℕ) (slots : List Slot) (at : ℕ) → at ≤ length slots → rank owner slots at ≤ at
rank-most owner slots at le = omega (arith, values-most owner (take at slots), length-take-le at slots le)
