-- How the words of a line are written one by one, and the words of a command.
use Rattle.std.proofs.Common.{◌≡◌, ◌≤◌, drop, true, false, ℕ, List, [], ◌∷◌, ◌++◌, length, get_or, arith, append_assoc}
use Rattle.rip_script.specs.Lines.{line_text}

-- four words
pub four_words : (o w x y z : List ℕ)
    → (((((((o ++ w) ++ 32 ∷ []) ++ x) ++ 32 ∷ []) ++ y) ++ 32 ∷ []) ++ z) ++ 10 ∷ [] ≡ o ++ line_text (w ∷ x ∷ y ∷ z ∷ [])
four_words o w x y z = simp append_assoc

-- a list of two, by its elements
pub two : {X : Type 0} (xs : List X) (a b : X) → length xs ≡ 2 → a ≡ get_or xs 0 a → b ≡ get_or xs 1 b → xs ≡ a ∷ b ∷ []
two [] a b n e f = absurd (omega (arith, n))
two (x ∷ []) a b n e f = absurd (omega (arith, n))
two (x ∷ y ∷ []) a b n e f = cc
two (x ∷ y ∷ z ∷ xs) a b n e f = absurd (omega (arith, n))

-- a list of two and more, by its first elements and the others
pub behind_two : {X : Type 0} (xs : List X) (a b : X) → 2 ≤ length xs → a ≡ get_or xs 0 a → b ≡ get_or xs 1 b → xs ≡ a ∷ b ∷ drop 2 xs
behind_two [] a b n e f = absurd (omega (arith, n))
behind_two (x ∷ []) a b n e f = absurd (omega (arith, n))
behind_two (x ∷ y ∷ xs) a b n e f = cc

-- what is true is not false
pub not_both : true ≡ false → ⊥
not_both e = cc
