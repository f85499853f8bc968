-- The busy sessions, and a walk over them.
use Rattle.std.specs.Prelude.{◌≡◌, ℕ, ◌==◌, ◌≤◌, ◌<◌, ◌||◌, Bool, List, [], ◌∷◌, ◌++◌, length, slice_index, take, drop, vec_len}
use Rattle.std.specs.List.{list_any}
use Rattle.rip_table.specs.declared.roll.busy.Busy.{Busy}

-- those that were passed and stay, and those that wait for their turn
abbrev pub passed : Busy → List ℕ
passed b = take b.kept b.list.items

abbrev pub waiting_in : Busy → List ℕ
waiting_in b = drop b.next b.list.items

-- all that are busy
abbrev pub all_in : Busy → List ℕ
all_in b = passed b ++ waiting_in b

-- a walk is within the list, and what stays is before what was passed
pub record IsWalk (b : Busy) : Type 0 where
  pub kept : b.kept ≤ b.next
  pub next : b.next ≤ vec_len b.list

-- no walk is under way
pub record IsResting (b : Busy) : Type 0 where
  pub kept : b.kept ≡ 0
  pub next : b.next ≡ 0

-- the numbers rise, from above this one on
abbrev pub Rises : ℕ → List ℕ → Type 0
Rises low [] = Unit {0}
Rises low (n ∷ ns) = (low < n) × Rises n ns

-- the number is among these
abbrev pub among : ℕ → List ℕ → Bool
among k ns = list_any (λ (n : ℕ). n == k) ns

-- a number is added to others
pub record IsAdded (n : ℕ) (xs ys : List ℕ) : Type 0 where
  pub rises : Rises 0 ys
  pub among : (k : ℕ) → among k ys ≡ (n == k || among k xs)

-- those before the place are smaller, and those from it on are greater
pub record IsPlaceFor (n : ℕ) (xs : List ℕ) (place : ℕ) : Type 0 where
  pub below : (k : ℕ) → k < place → slice_index xs k < n
  pub above : (k : ℕ) → place ≤ k → k < length xs → n < slice_index xs k
