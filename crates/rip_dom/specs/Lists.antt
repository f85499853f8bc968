-- Lists of numbered items, of which each stands in one list at most.
use Rattle.std.specs.Prelude.{ℕ, Bool, false, ◌==◌, if◌then◌else◌, Option, None, Some, List, [], ◌∷◌, slice_index_or}

-- the lists, each by its number, and of each item the list in which it stands
pub record Lists : Type 0 where
  pub limit : ℕ
  pub lists : List (List ℕ)
  pub owners : List (Option ℕ)

-- the list of this number; a number that is none of a list stands for the empty one
abbrev pub list_at : List (List ℕ) → ℕ → List ℕ
list_at lists p = slice_index_or lists p []

-- the list in which the item stands, or none
abbrev pub owner_at : List (Option ℕ) → ℕ → Option ℕ
owner_at owners n = slice_index_or owners n None

-- the list without this item
abbrev pub without : ℕ → List ℕ → List ℕ
without c [] = []
without c (n ∷ ns) = if n == c then without c ns else (n ∷ without c ns)

-- the item is the one at which something is put
abbrev pub is_place : Option ℕ → ℕ → Bool
is_place None n = false
is_place (Some r) n = n == r

-- the list with this item before the one at the place, or behind all where no place is given
abbrev pub with_item : ℕ → Option ℕ → List ℕ → List ℕ
with_item c at [] = c ∷ []
with_item c at (n ∷ ns) = if is_place at n then (c ∷ n ∷ ns) else (n ∷ with_item c at ns)

-- the first item of a list
abbrev pub first_of : List ℕ → Option ℕ
first_of [] = None
first_of (n ∷ ns) = Some n

-- the last item of a list, or x where it is empty
abbrev pub last_or : Option ℕ → List ℕ → Option ℕ
last_or x [] = x
last_or x (n ∷ ns) = last_or (Some n) ns

-- the item behind this one
abbrev pub item_behind : ℕ → List ℕ → Option ℕ
item_behind c [] = None
item_behind c (n ∷ ns) = if n == c then first_of ns else item_behind c ns

-- the item in front of this one, in a list behind the item `x`
abbrev pub item_in_front : Option ℕ → ℕ → List ℕ → Option ℕ
item_in_front x c [] = None
item_in_front x c (n ∷ ns) = if n == c then x else item_in_front (Some n) c ns
