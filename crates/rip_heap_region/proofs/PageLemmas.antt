-- The pages: where they begin, that no slot is of two places, and what a slot written or a page more changes.
use Rattle.std.proofs.Common.{◌≡◌, ◌≢◌, ℕ, ◌+◌, ◌*◌, ◌/◌, ◌%◌, ◌<◌, ◌≤◌, ◌⊎◌, inl, inr, List, [], ◌∷◌, ◌++◌, length, refl, sym, ap, ◌∙◌, subst, arith, set, length-append, length-set}
use Rattle.std.proofs.lemmas.Bool.{cases_eq, cases_lt}
use Rattle.std.proofs.lemmas.List.{ext_get_or, get_or-set_other, get_or-set_same, get_or_append_left, get_or_push}
use Rattle.rip_heap_region.specs.declared.pages.for_rows.ForRows.{ForRows}
use Rattle.rip_heap_region.specs.declared.pages.for_rows.Row.{Row}
use Rattle.rip_heap_region.specs.declared.pages.slot.Slot.{Slot}
use Rattle.rip_heap_region.specs.Pages.{AreLaid, ArePages, IsRoomMade, Paged, all_pages, filled, for_row, no_slot, pages_of, place_in, row_from, row_of, rows_in, slot_at, start_of, with_number, with_row}
use Rattle.rip_heap_region.proofs.RowLemmas.{number_other, number_same, pages-with, room-with, row-length, row-read, row-sized, row-slot, row_in, rows_are, same_row, sum-more, sum_of, with_other, with_same}

-- WHERE THE SLOTS OF A ROW LIE

page-known : (at len : ℕ) → at < len → at / 16 < pages_of len
page-known at len below = omega (arith, below)

pub place_known : (size : ℕ) (starts : List ForRows) (lens : ForRows) (row : Row) (at : ℕ) → AreLaid size starts lens → at < for_row row lens → at / 16 < length starts
place_known size starts lens row at laid below = laid.known row (at / 16) (page-known at (for_row row lens) below)

pub place_lies : (size : ℕ) (starts : List ForRows) (lens : ForRows) (row : Row) (at : ℕ) → AreLaid size starts lens → at < for_row row lens → place_in starts row at < size
place_lies size starts lens row at laid below =
    let lies = laid.lies row (at / 16) (page-known at (for_row row lens) below) in
    omega (arith, lies)

-- two numbers of pages, and of slots in them
quotients : (p q i j : ℕ) → p % 16 ≡ 0 → q % 16 ≡ 0 → p + i % 16 ≡ q + j % 16 → (p ≡ q) × (i % 16 ≡ j % 16)
quotients p q i j p_even q_even e = (omega (arith, p_even, q_even, e), omega (arith, p_even, q_even, e))

number_of : (i j : ℕ) → i / 16 ≡ j / 16 → i % 16 ≡ j % 16 → i ≡ j
number_of i j pages places = omega (arith, pages, places)

-- a slot is of one place alone
pub place_apart : (size : ℕ) (starts : List ForRows) (lens : ForRows) (row other : Row) (i j : ℕ) → AreLaid size starts lens → i < for_row row lens → j < for_row other lens
    → place_in starts row i ≡ place_in starts other j → (row ≡ other) × (i ≡ j)
place_apart size starts lens row other i j laid i_below j_below e =
    let i_known = page-known i (for_row row lens) i_below in
    let j_known = page-known j (for_row other lens) j_below in
    let parts = quotients (start_of starts row (i / 16)) (start_of starts other (j / 16)) i j (laid.even row (i / 16) i_known) (laid.even other (j / 16) j_known) e in
    let found = laid.apart row other (i / 16) (j / 16) i_known j_known parts.0 in
    (found.0, number_of i j found.1 parts.1)

-- ONE SLOT WRITTEN

-- the slot at the place is another, and that at every other place is as it was
set_read : (slots : List Slot) (starts : List ForRows) (lens : ForRows) (row other : Row) (at i : ℕ) (s : Slot) → AreLaid (length slots) starts lens
    → at < for_row row lens → i < for_row other lens → (other ≡ row → i ≡ at → ⊥)
    → slot_at (set slots (place_in starts row at) s) (place_in starts other i) ≡ slot_at slots (place_in starts other i)
set_read slots starts lens row other at i s laid at_below i_below apart =
    get_or-set_other slots (place_in starts row at) (place_in starts other i) s no_slot
    (λ e. let same = place_apart (length slots) starts lens other row i at laid i_below at_below e in apart same.0 same.1)

set_row : (slots : List Slot) (starts : List ForRows) (lens : ForRows) (row : Row) (at : ℕ) (s : Slot) → AreLaid (length slots) starts lens → at < for_row row lens
    → row_from (set slots (place_in starts row at) s) starts row 0 (for_row row lens) ≡ set (row_from slots starts row 0 (for_row row lens)) at s
set_row slots starts lens row at s laid below =
    ext_get_or no_slot after (set before at s)
    (row-length written starts row 0 len ∙ sym (length-set before at s ∙ row-length slots starts row 0 len))
    (λ i h. by i (omega (arith, h, row-length written starts row 0 len)) (cases_eq i at))
  where
    len : ℕ
    len = for_row row lens

    written : List Slot
    written = set slots (place_in starts row at) s

    before : List Slot
    before = row_from slots starts row 0 len

    after : List Slot
    after = row_from written starts row 0 len

    by : (i : ℕ) → i < len → (i ≡ at) ⊎ (i ≡ at → ⊥) → slot_at after i ≡ slot_at (set before at s) i
    by i h (inl e) =
        row-read written starts row len i h
        ∙ ap (λ k. slot_at written (place_in starts row k)) e
        ∙ get_or-set_same slots (place_in starts row at) s no_slot (place_lies (length slots) starts lens row at laid below)
        ∙ sym (get_or-set_same before at s no_slot (omega (arith, below, row-length slots starts row 0 len)))
        ∙ ap (slot_at (set before at s)) (sym e)
    by i h (inr ne) =
        row-read written starts row len i h
        ∙ set_read slots starts lens row row at i s laid below h (λ _ e. ne e)
        ∙ sym (row-read slots starts row len i h)
        ∙ sym (get_or-set_other before at i s no_slot ne)

set_other : (slots : List Slot) (starts : List ForRows) (lens : ForRows) (row other : Row) (at : ℕ) (s : Slot) → AreLaid (length slots) starts lens → at < for_row row lens → other ≢ row
    → row_from (set slots (place_in starts row at) s) starts other 0 (for_row other lens) ≡ row_from slots starts other 0 (for_row other lens)
set_other slots starts lens row other at s laid below ne =
    let len = for_row other lens in
    let written = set slots (place_in starts row at) s in
    ext_get_or no_slot (row_from written starts other 0 len) (row_from slots starts other 0 len)
    (row-length written starts other 0 len ∙ sym (row-length slots starts other 0 len))
    (λ i h.
    let within : i < for_row other lens = omega (arith, h, row-length (set slots (place_in starts row at) s) starts other 0 (for_row other lens)) in
    row-read written starts other len i within
    ∙ set_read slots starts lens row other at i s laid below within (λ e _. ne e)
    ∙ sym (row-read slots starts other len i within))

-- rows that have what they had, but one of them
rows_with : (row : Row) (xs : List Slot) (p q : Paged) → q.room ≡ p.room → row_of row q ≡ xs → ((other : Row) → other ≢ row → row_of other q ≡ row_of other p) → q ≡ with_row row xs p
rows_with row xs p q e same others = rows_are q (with_row row xs p) (e ∙ sym (room-with row xs p)) (λ other. by other (same_row other row))
  where
    by : (other : Row) → (other ≡ row) ⊎ (other ≢ row) → row_of other q ≡ row_of other (with_row row xs p)
    by other (inl e) = ap (λ r. row_of r q) e ∙ same ∙ sym (with_same row xs p) ∙ ap (λ r. row_of r (with_row row xs p)) (sym e)
    by other (inr ne) = others other ne ∙ sym (with_other row other xs p ne)

pub rows_set : (slots : List Slot) (starts : List ForRows) (lens : ForRows) (room : ℕ) (row : Row) (at : ℕ) (s : Slot) → AreLaid (length slots) starts lens → at < for_row row lens
    → rows_in (set slots (place_in starts row at) s) starts lens room ≡ with_row row (set (row_of row (rows_in slots starts lens room)) at s) (rows_in slots starts lens room)
rows_set slots starts lens room row at s laid below =
    let written = set slots (place_in starts row at) s in
    rows_with row (set (row_of row (rows_in slots starts lens room)) at s) (rows_in slots starts lens room) (rows_in written starts lens room) refl
    (row_in row written starts lens room ∙ set_row slots starts lens row at s laid below ∙ ap (λ xs. set xs at s) (sym (row_in row slots starts lens room)))
    (λ other ne. row_in other written starts lens room ∙ set_other slots starts lens row other at s laid below ne ∙ sym (row_in other slots starts lens room))

-- what calls need of it: the place is a slot, and the pages are as they were
pub set_call : (slots : List Slot) (starts : List ForRows) (lens : ForRows) (room : ℕ) (p : Paged) (row : Row) (at place : ℕ) → AreLaid (length slots) starts lens
    → rows_in slots starts lens room ≡ p → at < length (row_of row p) → place ≡ place_in starts row at
    → (at / 16 < length starts) × (place < length slots) × (slot_at slots place ≡ slot_at (row_of row p) at)
    × ((s : Slot) → rows_in (set slots place s) starts lens room ≡ with_row row (set (row_of row p) at s) p)
    × ((s : Slot) → AreLaid (length (set slots place s)) starts lens)
set_call slots starts lens room p row at place laid is within e =
    let below : at < for_row row lens = omega (arith, within, ap (λ q. length (row_of row q)) is, row-sized row slots starts lens room) in (
      place_known (length slots) starts lens row at laid below,
      subst (λ k. k < length slots) (sym e) (place_lies (length slots) starts lens row at laid below),
      ap (slot_at slots) e ∙ sym (row-slot row slots starts lens room at below) ∙ ap (λ q. slot_at (row_of row q) at) is,
      λ s. ap (λ k. rows_in (set slots k s) starts lens room) e
          ∙ rows_set slots starts lens room row at s laid below
          ∙ ap (λ q. with_row row (set (row_of row q) at s) q) is,
      λ s. subst (λ size. AreLaid size starts lens) (sym (length-set slots place s)) laid,
    )

-- what is kept of pages, with the same pages
pub still_pages : (slots written : List Slot) (starts : List ForRows) (lens : ForRows) (filled room slots_capacity starts_capacity : ℕ) → ArePages slots starts lens filled room slots_capacity starts_capacity
    → AreLaid (length written) starts lens → ArePages written starts lens filled room slots_capacity starts_capacity
still_pages slots written starts lens filled room slots_capacity starts_capacity are laid = record {
  counted = are.counted;
  within = are.within;
  most = are.most;
  laid = laid;
  slots_room = are.slots_room;
  starts_room = are.starts_room;
}

-- ONE SLOT MORE

-- a page of the rows with one slot more is the new one, or one that was there
page_cases : (lens : ForRows) (row other : Row) (len k : ℕ) → len ≡ for_row row lens → k < pages_of (for_row other (with_number row (len + 1) lens))
    → ((other ≡ row) × (k ≡ len / 16) × (len % 16 ≡ 0)) ⊎ ((other ≡ row → k < pages_of len) × (k < pages_of (for_row other lens)))
page_cases lens row other len k is below = by (same_row other row)
  where
    old : other ≡ row → for_row other lens ≡ len
    old e = ap (λ r. for_row r lens) e ∙ sym is

    new : other ≡ row → for_row other (with_number row (len + 1) lens) ≡ len + 1
    new e = ap (λ r. for_row r (with_number row (len + 1) lens)) e ∙ number_same row (len + 1) lens

    parted : other ≡ row → (k < pages_of len) ⊎ (pages_of len ≤ k)
        → ((other ≡ row) × (k ≡ len / 16) × (len % 16 ≡ 0)) ⊎ ((other ≡ row → k < pages_of len) × (k < pages_of (for_row other lens)))
    parted e (inl lt) = inr (λ _. lt, subst (λ n. k < pages_of n) (sym (old e)) lt)
    parted e (inr ge) =
        let most : k < pages_of (len + 1) = subst (λ n. k < pages_of n) (new e) below in
        inl (e, omega (arith, ge, most), omega (arith, ge, most))

    by : (other ≡ row) ⊎ (other ≢ row) → ((other ≡ row) × (k ≡ len / 16) × (len % 16 ≡ 0)) ⊎ ((other ≡ row → k < pages_of len) × (k < pages_of (for_row other lens)))
    by (inl e) = parted e (cases_lt k (pages_of len))
    by (inr ne) = inr (λ e. absurd (ne e), subst (λ n. k < pages_of n) (number_other row other (len + 1) lens ne) below)

-- a page more is laid behind the others
laid_more : (slots after : List Slot) (starts starts_after : List ForRows) (lens : ForRows) (row : Row) (len : ℕ) → AreLaid (length slots) starts lens → len ≡ for_row row lens
    → IsRoomMade slots after starts starts_after row len → AreLaid (length after) starts_after (with_number row (len + 1) lens)
laid_more slots after starts starts_after lens row len laid is made = record {
  sized = sized;
  known = λ other k below. known other k (page_cases lens row other len k is below);
  lies = λ other k below. lies other k (page_cases lens row other len k is below);
  even = λ other k below. even other k (page_cases lens row other len k is below);
  apart = λ one other k n k_below n_below. apart one other k n (page_cases lens row one len k is k_below) (page_cases lens row other len n is n_below);
}
  where
    Cases : Row → ℕ → Type 0
    Cases other k = ((other ≡ row) × (k ≡ len / 16) × (len % 16 ≡ 0)) ⊎ ((other ≡ row → k < pages_of len) × (k < pages_of (for_row other lens)))

    was : pages_of (for_row row lens) ≡ pages_of len
    was = ap pages_of (sym is)

    sized : length after ≡ 16 * all_pages (with_number row (len + 1) lens)
    sized = omega (arith, laid.sized, made.sized, was, pages-with row (len + 1) lens)

    -- where a new page begins
    fresh : (other : Row) (k : ℕ) → other ≡ row → k ≡ len / 16 → len % 16 ≡ 0 → start_of starts_after other k ≡ length slots
    fresh other k e at full = (λ t. start_of starts_after (e t) (at t)) ∙ made.begun full

    -- one page more has 16 slots
    longer : len % 16 ≡ 0 → length after ≡ length slots + 16
    longer full = omega (arith, made.sized, full)

    least : length slots ≤ length after
    least = omega (arith, made.sized)

    known : (other : Row) (k : ℕ) → Cases other k → k < length starts_after
    known other k (inl new) = omega (arith, new.1, made.known)
    known other k (inr old) = omega (arith, laid.known other k old.1, made.more)

    lies : (other : Row) (k : ℕ) → Cases other k → start_of starts_after other k + 16 ≤ length after
    lies other k (inl new) = omega (arith, fresh other k new.0 new.1 new.2, longer new.2)
    lies other k (inr old) = omega (arith, made.same other k old.0, laid.lies other k old.1, least)

    even : (other : Row) (k : ℕ) → Cases other k → start_of starts_after other k % 16 ≡ 0
    even other k (inl new) = omega (arith, fresh other k new.0 new.1 new.2, laid.sized)
    even other k (inr old) = ap (λ s. s % 16) (made.same other k old.0) ∙ laid.even other k old.1

    apart : (one other : Row) (k n : ℕ) → Cases one k → Cases other n → start_of starts_after one k ≡ start_of starts_after other n → (one ≡ other) × (k ≡ n)
    apart one other k n (inl new) (inl new2) e = (new.0 ∙ sym new2.0, new.1 ∙ sym new2.1)
    apart one other k n (inl new) (inr old) e =
        absurd (omega (arith, e, fresh one k new.0 new.1 new.2, made.same other n old.0, laid.lies other n old.1))
    apart one other k n (inr old) (inl new) e =
        absurd (omega (arith, e, fresh other n new.0 new.1 new.2, made.same one k old.0, laid.lies one k old.1))
    apart one other k n (inr old) (inr old2) e =
        laid.apart one other k n old.1 old2.1 (sym (made.same one k old.0) ∙ e ∙ made.same other n old2.0)

-- a slot that was there is read where it was
kept_read : (slots after : List Slot) (starts starts_after : List ForRows) (lens : ForRows) (row other : Row) (len i : ℕ) → AreLaid (length slots) starts lens → len ≡ for_row row lens
    → IsRoomMade slots after starts starts_after row len → i < for_row other lens → slot_at after (place_in starts_after other i) ≡ slot_at slots (place_in starts other i)
kept_read slots after starts starts_after lens row other len i laid is made below =
    ap (λ s. slot_at after (s + i % 16)) (made.same other (i / 16) (λ e. subst (λ n. i / 16 < pages_of n) (ap (λ r. for_row r lens) e ∙ sym is) (page-known i (for_row other lens) below)))
    ∙ made.kept (place_in starts other i) (place_lies (length slots) starts lens other i laid below)

-- a row has no fewer slots than before
number_most : (lens : ForRows) (row other : Row) (len i : ℕ) → len ≡ for_row row lens → i < for_row other lens → i < for_row other (with_number row (len + 1) lens)
number_most lens row other len i is below = by (same_row other row)
  where
    by : (other ≡ row) ⊎ (other ≢ row) → i < for_row other (with_number row (len + 1) lens)
    by (inl e) = omega (
      arith,
      below,
      is,
      ap (λ r. for_row r lens) e,
      ap (λ r. for_row r (with_number row (len + 1) lens)) e,
      number_same row (len + 1) lens,
    )
    by (inr ne) = omega (arith, below, number_other row other (len + 1) lens ne)

-- and it is read there when the slot behind them is written
pushed_read : (slots after : List Slot) (starts starts_after : List ForRows) (lens : ForRows) (row other : Row) (len i : ℕ) (s : Slot) → AreLaid (length slots) starts lens → len ≡ for_row row lens
    → IsRoomMade slots after starts starts_after row len → i < for_row other lens
    → slot_at (set after (place_in starts_after row len) s) (place_in starts_after other i) ≡ slot_at slots (place_in starts other i)
pushed_read slots after starts starts_after lens row other len i s laid is made below =
    set_read after starts_after (with_number row (len + 1) lens) row other len i s (laid_more slots after starts starts_after lens row len laid is made)
    (omega (arith, number_same row (len + 1) lens)) (number_most lens row other len i is below)
    (λ e same. absurd (omega (arith, below, same, is, ap (λ r. for_row r lens) e)))
    ∙ kept_read slots after starts starts_after lens row other len i laid is made below

pushed_row : (slots after : List Slot) (starts starts_after : List ForRows) (lens : ForRows) (row : Row) (len : ℕ) (s : Slot) → AreLaid (length slots) starts lens → len ≡ for_row row lens
    → IsRoomMade slots after starts starts_after row len
    → row_from (set after (place_in starts_after row len) s) starts_after row 0 (len + 1) ≡ row_from slots starts row 0 len ++ s ∷ []
pushed_row slots after starts starts_after lens row len s laid is made =
    ext_get_or no_slot now (before ++ s ∷ [])
    (omega (arith, row-length written starts_after row 0 (len + 1), old_length, length-append before (s ∷ [])))
    (λ i h. by i (omega (arith, h, row-length written starts_after row 0 (len + 1))) (cases_lt i len))
  where
    written : List Slot
    written = set after (place_in starts_after row len) s

    before : List Slot
    before = row_from slots starts row 0 len

    now : List Slot
    now = row_from written starts_after row 0 (len + 1)

    old_length : length before ≡ len
    old_length = row-length slots starts row 0 len

    laid_now : AreLaid (length after) starts_after (with_number row (len + 1) lens)
    laid_now = laid_more slots after starts starts_after lens row len laid is made

    by : (i : ℕ) → i < len + 1 → (i < len) ⊎ (len ≤ i) → slot_at now i ≡ slot_at (before ++ s ∷ []) i
    by i h (inl lt) =
        row-read written starts_after row (len + 1) i h
        ∙ pushed_read slots after starts starts_after lens row row len i s laid is made (omega (arith, lt, is))
        ∙ sym (row-read slots starts row len i lt)
        ∙ sym (get_or_append_left before (s ∷ []) no_slot i (omega (arith, lt, old_length)))
    by i h (inr ge) =
        let last : i ≡ len = omega (arith, h, ge) in
        row-read written starts_after row (len + 1) i h
        ∙ ap (λ k. slot_at written (place_in starts_after row k)) last
        ∙ get_or-set_same after (place_in starts_after row len) s no_slot
        (place_lies (length after) starts_after (with_number row (len + 1) lens) row len laid_now (omega (arith, number_same row (len + 1) lens)))
        ∙ sym (get_or_push before s no_slot i (old_length ∙ sym last))

pushed_other : (slots after : List Slot) (starts starts_after : List ForRows) (lens : ForRows) (row other : Row) (len : ℕ) (s : Slot) → AreLaid (length slots) starts lens → len ≡ for_row row lens
    → IsRoomMade slots after starts starts_after row len
    → row_from (set after (place_in starts_after row len) s) starts_after other 0 (for_row other lens) ≡ row_from slots starts other 0 (for_row other lens)
pushed_other slots after starts starts_after lens row other len s laid is made =
    let count = for_row other lens in
    let written = set after (place_in starts_after row len) s in
    ext_get_or no_slot (row_from written starts_after other 0 count) (row_from slots starts other 0 count)
    (row-length written starts_after other 0 count ∙ sym (row-length slots starts other 0 count))
    (λ i h.
    let below : i < for_row other lens = omega (arith, h, row-length (set after (place_in starts_after row len) s) starts_after other 0 (for_row other lens)) in
    row-read written starts_after other count i below
    ∙ pushed_read slots after starts starts_after lens row other len i s laid is made below
    ∙ sym (row-read slots starts other count i below))

pub rows_pushed : (slots after : List Slot) (starts starts_after : List ForRows) (lens : ForRows) (room : ℕ) (p : Paged) (row : Row) (len place : ℕ) (s : Slot) → AreLaid (length slots) starts lens
    → rows_in slots starts lens room ≡ p → len ≡ for_row row lens → IsRoomMade slots after starts starts_after row len → place ≡ place_in starts_after row len
    → rows_in (set after place s) starts_after (with_number row (len + 1) lens) room ≡ with_row row (row_of row p ++ s ∷ []) p
rows_pushed slots after starts starts_after lens room p row len place s laid view is made at =
    ap (λ k. rows_in (set after k s) starts_after lens_after room) at
    ∙ rows_with row (row_of row old ++ s ∷ []) old new refl own others
    ∙ ap (λ q. with_row row (row_of row q ++ s ∷ []) q) view
  where
    lens_after : ForRows
    lens_after = with_number row (len + 1) lens

    written : List Slot
    written = set after (place_in starts_after row len) s

    old : Paged
    old = rows_in slots starts lens room

    new : Paged
    new = rows_in written starts_after lens_after room

    own : row_of row new ≡ row_of row old ++ s ∷ []
    own =
        row_in row written starts_after lens_after room
        ∙ ap (row_from written starts_after row 0) (number_same row (len + 1) lens)
        ∙ pushed_row slots after starts starts_after lens row len s laid is made
        ∙ ap (λ n. row_from slots starts row 0 n ++ s ∷ []) is
        ∙ ap (λ xs. xs ++ s ∷ []) (sym (row_in row slots starts lens room))

    others : (other : Row) → other ≢ row → row_of other new ≡ row_of other old
    others other ne =
        row_in other written starts_after lens_after room
        ∙ ap (row_from written starts_after other 0) (number_other row other (len + 1) lens ne)
        ∙ pushed_other slots after starts starts_after lens row other len s laid is made
        ∙ sym (row_in other slots starts lens room)

-- what is kept of pages, with one slot more
pub pages_pushed : (slots after : List Slot) (starts starts_after : List ForRows) (lens : ForRows) (filled room slots_capacity starts_capacity slots_capacity_after starts_capacity_after : ℕ) (row : Row) (len place : ℕ) (s : Slot)
    → ArePages slots starts lens filled room slots_capacity starts_capacity → len ≡ for_row row lens → IsRoomMade slots after starts starts_after row len
    → filled < room → slots_capacity ≤ slots_capacity_after → starts_capacity_after ≡ starts_capacity
    → ArePages (set after place s) starts_after (with_number row (len + 1) lens) (filled + 1) room slots_capacity_after starts_capacity_after
pages_pushed slots after starts starts_after lens filled room slots_capacity starts_capacity slots_capacity_after starts_capacity_after row len place s are is made below slots_more starts_same =
    record {
      counted = omega (arith, are.counted, sum-more row lens, ap (λ n. sum_of (with_number row (n + 1) lens)) is);
      within = omega (arith, below);
      most = are.most;
      laid = subst (λ size. AreLaid size starts_after (with_number row (len + 1) lens)) (sym (length-set after place s)) (laid_more slots after starts starts_after lens row len are.laid is made);
      slots_room = omega (arith, are.slots_room, slots_more);
      starts_room = omega (arith, are.starts_room, starts_same);
    }

-- the pages that a row has are known
pub pages_known : (size : ℕ) (starts : List ForRows) (lens : ForRows) (row : Row) (len : ℕ) → AreLaid size starts lens → len ≡ for_row row lens → pages_of len ≤ length starts
pages_known size starts lens row len laid is = by (cases_lt (length starts) (pages_of len))
  where
    by : (length starts < pages_of len) ⊎ (pages_of len ≤ length starts) → pages_of len ≤ length starts
    by (inl lt) =
        let none = laid.known row (length starts) (subst (λ n. length starts < pages_of n) is lt) in
        absurd (omega (arith, none))
    by (inr le) = le
