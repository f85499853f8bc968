-- Numerals at the front of words.
use Rattle.std.proofs.Common.{◌≡◌, ℕ, ◌<◌, ◌≤◌, ◌^◌, List, ◌∷◌, decimal, sym, ◌∙◌, arith}
use Rattle.std.proofs.lemmas.Fmt.{decimal_injective}

first_same : (v w : List ℕ) (a b : List (List ℕ)) → v ∷ a ≡ w ∷ b → v ≡ w
first_same v w a b e = cc

rest_same : (v w : List ℕ) (a b : List (List ℕ)) → v ∷ a ≡ w ∷ b → a ≡ b
rest_same v w a b e = cc

pub number_same : (m n : ℕ) (a b : List (List ℕ)) → m < 2 ^ 64 → n < 2 ^ 64 → decimal m ∷ a ≡ decimal n ∷ b → (m ≡ n) × (a ≡ b)
number_same m n a b hm hn e = (decimal_injective m n hm hn (first_same (decimal m) (decimal n) a b e), rest_same (decimal m) (decimal n) a b e)

pub large_number : (ws : List (List ℕ)) (n : ℕ) (rest : List (List ℕ)) → ws ≡ decimal n ∷ rest → n < 2 ^ 64 → 2 ^ 32 ≤ n → (m : ℕ) (others : List (List ℕ)) → m < 2 ^ 32 → ws ≡ decimal m ∷ others → ⊥
large_number ws n rest is hn large m others hm e = omega (arith, (number_same n m rest others hn (omega arith) (sym is ∙ e)).0)
