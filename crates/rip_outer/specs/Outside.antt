-- What an object of the outside tells: lists that grow, where anything is told, and a count of faults.
use Rattle.std.specs.Prelude.{◌≡◌, ℕ, ◌+◌, ◌-◌, ◌^◌, min, List, [], ◌++◌, Option, Some, None, option_map}

-- one more, or the end of 64 bits
abbrev pub one_more : ℕ → ℕ
one_more n = min (n + 1) (2 ^ 64 - 1)

-- the count rose by one, or stands at its end: a count of 64 bits can't rise for ever
abbrev pub Rose : ℕ → ℕ → Type 0
Rose old new = new ≡ one_more old

-- what was told grows by xs, where it is told
abbrev pub also : {A : Type 0} → List A → Option (List A) → Option (List A)
also xs told = option_map (λ old. old ++ xs) told

-- what was left was xs, and then what is left now, where it is told
abbrev pub before : {A : Type 0} → List A → Option (List A) → Option (List A)
before xs left = option_map (λ rest. xs ++ rest) left

-- nothing is left, where it is told what is
abbrev pub IsOver : {A : Type 0} → Option (List A) → Type 0
IsOver None = Unit {0}
IsOver (Some rest) = rest ≡ []

-- a front of the bytes was added, and the rest of them was not
pub record Front (bytes : List ℕ) (old new : Option (List ℕ)) : Type 0 where
  pub front : List ℕ
  pub rest : List ℕ
  pub parts : bytes ≡ front ++ rest
  pub added : new ≡ also front old
