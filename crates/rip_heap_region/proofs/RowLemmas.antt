-- The rows one by one: what each has, when one of them gets another list or number.
use Rattle.std.proofs.Common.{◌≡◌, ◌≢◌, ℕ, zero, suc, ◌+◌, ◌<◌, ◌⊎◌, inl, inr, List, length, refl, sym, ap, ◌∙◌, arith}
use Rattle.rip_heap_region.specs.declared.pages.for_rows.ForRows.{ForRows}
use Rattle.rip_heap_region.specs.declared.pages.for_rows.Row.{Row}
use Rattle.rip_heap_region.specs.declared.pages.for_rows.Row.TheVariants.{Objects, Properties, Elements, Scopes, Bindings}
use Rattle.rip_heap_region.specs.declared.pages.slot.Slot.{Slot}
use Rattle.rip_heap_region.specs.Pages.{Paged, all_pages, filled, for_row, pages_of, place_in, row_from, row_of, rows_in, slot_at, with_number, with_row}

-- ONE ROW OR ANOTHER

pub same_row : (row other : Row) → (row ≡ other) ⊎ (row ≢ other)
same_row Objects Objects = inl refl
same_row Properties Properties = inl refl
same_row Elements Elements = inl refl
same_row Scopes Scopes = inl refl
same_row Bindings Bindings = inl refl
same_row row other = inr (λ e. cc)

-- rows are what each row has, and their room
pub rows_are : (p q : Paged) → p.room ≡ q.room → ((row : Row) → row_of row p ≡ row_of row q) → p ≡ q
rows_are p q e h = λ t. record { objects = h Objects t; properties = h Properties t; elements = h Elements t; scopes = h Scopes t; bindings = h Bindings t; room = e t }

pub room-with : (row : Row) (slots : List Slot) (p : Paged) → (with_row row slots p).room ≡ p.room
room-with Objects slots p = refl
room-with Properties slots p = refl
room-with Elements slots p = refl
room-with Scopes slots p = refl
room-with Bindings slots p = refl

pub with_same : (row : Row) (slots : List Slot) (p : Paged) → row_of row (with_row row slots p) ≡ slots
with_same Objects slots p = refl
with_same Properties slots p = refl
with_same Elements slots p = refl
with_same Scopes slots p = refl
with_same Bindings slots p = refl

pub with_other : (row other : Row) (slots : List Slot) (p : Paged) → other ≢ row → row_of other (with_row row slots p) ≡ row_of other p
with_other Objects Objects slots p ne = absurd (ne refl)
with_other Properties Properties slots p ne = absurd (ne refl)
with_other Elements Elements slots p ne = absurd (ne refl)
with_other Scopes Scopes slots p ne = absurd (ne refl)
with_other Bindings Bindings slots p ne = absurd (ne refl)
with_other row other slots p ne = refl

pub number_same : (row : Row) (n : ℕ) (lens : ForRows) → for_row row (with_number row n lens) ≡ n
number_same Objects n lens = refl
number_same Properties n lens = refl
number_same Elements n lens = refl
number_same Scopes n lens = refl
number_same Bindings n lens = refl

pub number_other : (row other : Row) (n : ℕ) (lens : ForRows) → other ≢ row → for_row other (with_number row n lens) ≡ for_row other lens
number_other Objects Objects n lens ne = absurd (ne refl)
number_other Properties Properties n lens ne = absurd (ne refl)
number_other Elements Elements n lens ne = absurd (ne refl)
number_other Scopes Scopes n lens ne = absurd (ne refl)
number_other Bindings Bindings n lens ne = absurd (ne refl)
number_other row other n lens ne = refl

-- so many pages more in one row
pub pages-with : (row : Row) (n : ℕ) (lens : ForRows) → all_pages (with_number row n lens) + pages_of (for_row row lens) ≡ all_pages lens + pages_of n
pages-with Objects n lens = omega arith
pages-with Properties n lens = omega arith
pages-with Elements n lens = omega arith
pages-with Scopes n lens = omega arith
pages-with Bindings n lens = omega arith

-- the numbers of all rows together
abbrev pub sum_of : ForRows → ℕ
sum_of lens = lens.objects + lens.properties + lens.elements + lens.scopes + lens.bindings

pub sum-more : (row : Row) (lens : ForRows) → sum_of (with_number row (for_row row lens + 1) lens) ≡ sum_of lens + 1
sum-more Objects lens = omega arith
sum-more Properties lens = omega arith
sum-more Elements lens = omega arith
sum-more Scopes lens = omega arith
sum-more Bindings lens = omega arith

-- WHAT LIES IN THE SLOTS

pub row-length : (slots : List Slot) (starts : List ForRows) (row : Row) (at n : ℕ) → length (row_from slots starts row at n) ≡ n
row-length slots starts row at zero = refl
row-length slots starts row at (suc n) = ap suc (row-length slots starts row (at + 1) n)

row-read_from : (slots : List Slot) (starts : List ForRows) (row : Row) (at n i : ℕ) → i < n
    → slot_at (row_from slots starts row at n) i ≡ slot_at slots (place_in starts row (at + i))
row-read_from slots starts row at zero i below = absurd (omega (arith, below))
row-read_from slots starts row at (suc n) zero below =
    let first : at + zero ≡ at = omega arith in
    ap (λ k. slot_at slots (place_in starts row k)) (sym first)
row-read_from slots starts row at (suc n) (suc i) below =
    let next : at + 1 + i ≡ at + suc i = omega arith in
    row-read_from slots starts row (at + 1) n i (omega (arith, below)) ∙ ap (λ k. slot_at slots (place_in starts row k)) next

pub row-read : (slots : List Slot) (starts : List ForRows) (row : Row) (n i : ℕ) → i < n
    → slot_at (row_from slots starts row 0 n) i ≡ slot_at slots (place_in starts row i)
row-read slots starts row n i below =
    let same : 0 + i ≡ i = omega arith in
    row-read_from slots starts row 0 n i below ∙ ap (λ k. slot_at slots (place_in starts row k)) same

pub row_in : (row : Row) (slots : List Slot) (starts : List ForRows) (lens : ForRows) (room : ℕ) → row_of row (rows_in slots starts lens room) ≡ row_from slots starts row 0 (for_row row lens)
row_in Objects slots starts lens room = refl
row_in Properties slots starts lens room = refl
row_in Elements slots starts lens room = refl
row_in Scopes slots starts lens room = refl
row_in Bindings slots starts lens room = refl

-- a row has as many slots as its number says
pub row-sized : (row : Row) (slots : List Slot) (starts : List ForRows) (lens : ForRows) (room : ℕ) → length (row_of row (rows_in slots starts lens room)) ≡ for_row row lens
row-sized row slots starts lens room = ap length (row_in row slots starts lens room) ∙ row-length slots starts row 0 (for_row row lens)

-- and each of them lies at its place
pub row-slot : (row : Row) (slots : List Slot) (starts : List ForRows) (lens : ForRows) (room at : ℕ) → at < for_row row lens
    → slot_at (row_of row (rows_in slots starts lens room)) at ≡ slot_at slots (place_in starts row at)
row-slot row slots starts lens room at below =
    ap (λ xs. slot_at xs at) (row_in row slots starts lens room)
    ∙ row-read slots starts row (for_row row lens) at below

-- the rows together
pub filled-sized : (slots : List Slot) (starts : List ForRows) (lens : ForRows) (room : ℕ) → filled (rows_in slots starts lens room) ≡ sum_of lens
filled-sized slots starts lens room = omega (
  arith,
  row-length slots starts Objects 0 lens.objects,
  row-length slots starts Properties 0 lens.properties,
  row-length slots starts Elements 0 lens.elements,
  row-length slots starts Scopes 0 lens.scopes,
  row-length slots starts Bindings 0 lens.bindings,
)
