-- The numbers of built-ins are their places in the table.
use Rattle.std.proofs.Common.{◌≡◌, ℕ, zero, suc, ◌+◌, Bool, true, ◌&&◌, ◌==◌, Option, None, Some, List, [], ◌∷◌, refl, ◌∙◌, sym, subst, arith}
use Rattle.std.specs.Prelude.{IfSome, slice_get}
use Rattle.std.proofs.str.Laws.{both}
use Rattle.std.proofs.lemmas.Bool.{eqb-true}
use Rattle.rip_values.specs.declared.builtin.Builtin.{Builtin}
use Rattle.rip_values.specs.Builtins.{number_of, builtins}

are_numbered : ℕ → List Builtin → Bool
are_numbered k [] = true
are_numbered k (b ∷ bs) = number_of b == k && are_numbered (suc k) bs

builtins_numbered : are_numbered 0 builtins ≡ true
unfolding are_numbered builtins
builtins_numbered = refl

numbered_at : (k : ℕ) (bs : List Builtin) (n : ℕ) → are_numbered k bs ≡ true → IfSome (slice_get bs n) (λ b. number_of b ≡ k + n)
unfolding are_numbered
numbered_at k [] n e = tt
numbered_at k (b ∷ bs) zero e = eqb-true _ _ (both _ _ e).0 ∙ omega arith
numbered_at k (b ∷ bs) (suc n) e = moved (slice_get bs n) (numbered_at (suc k) bs n (both _ _ e).1)
  where
    moved : (o : Option Builtin) → IfSome o (λ c. number_of c ≡ suc k + n) → IfSome o (λ c. number_of c ≡ k + suc n)
    moved None h = tt
    moved (Some c) h = h ∙ omega arith

-- the built-in at a place has that number
pub IfSome-slice_get : (n : ℕ) (o : Option Builtin) → o ≡ slice_get builtins n → IfSome o (λ b. number_of b ≡ n)
IfSome-slice_get n o e = plain o (subst (λ r. IfSome r (λ b. number_of b ≡ 0 + n)) (sym e) (numbered_at 0 builtins n builtins_numbered))
  where
    plain : (r : Option Builtin) → IfSome r (λ b. number_of b ≡ 0 + n) → IfSome r (λ b. number_of b ≡ n)
    plain None h = tt
    plain (Some b) h = h ∙ omega arith
