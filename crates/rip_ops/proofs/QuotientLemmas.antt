-- The quotient that is computed is the whole number that times the divisor is the dividend.
use Rattle.std.proofs.Common.{◌≡◌, ◌≢◌, ℕ, zero, suc, ℤ, pos, negsuc, neg_ℤ, ◌*◌, ◌%◌, ◌*ℤ◌, ◌+ℤ◌, Bool, true, false, cond, Result, Ok, Err, refl, sym, ap, ◌∙◌, subst, arith, ◌==◌, unsigned_abs}
use Rattle.std.proofs.lemmas.Bool.Decides.{nat_tests}
use Rattle.std.proofs.lemmas.Bool.{both_ways}
use Rattle.std.proofs.lemmas.Int.{quot-rem}
use Rattle.std.proofs.Math.Nat.{mul-mod_left}
use lib.IntN.{+ℤ_idr}
use Rattle.std.specs.Prelude.{int_div, int_rem}
use Rattle.rip_base.specs.declared.value.Numeral.{Numeral}
use Rattle.rip_base.specs.declared.value.Numeral.TheVariants.{Num, NaN}
use Rattle.rip_base.specs.declared.value.Fault.{Fault}
use Rattle.rip_base.specs.declared.value.Fault.TheVariants.{NotWhole, Infinite}
use Rattle.rip_ops.specs.Arithmetic.{quotient, IsQuotient, IsQuotientOf}

zero-true : (z : ℤ) → (unsigned_abs z == 0) ≡ true → z ≡ pos 0
zero-true (pos n) e = ap pos (let h : n ≡ 0 = grind (arith, nat_tests) in h)
zero-true (negsuc n) e = absurd (let h : ⊥ = grind (arith, nat_tests) in h)

zero-false : (z : ℤ) → (unsigned_abs z == 0) ≡ false → z ≢ pos 0
zero-false z e = λ h. both_ways _ e (ap (λ x. unsigned_abs x == 0) h)

abs-neg : (n : ℕ) → unsigned_abs (neg_ℤ (pos n)) ≡ n
abs-neg zero = refl
abs-neg (suc n) = refl

abs-product : (x y : ℤ) → unsigned_abs (x *ℤ y) ≡ unsigned_abs x * unsigned_abs y
abs-product (pos a) (pos b) = refl
abs-product (pos a) (negsuc b) = abs-neg (a * suc b)
abs-product (negsuc a) (pos b) = abs-neg (suc a * b)
abs-product (negsuc a) (negsuc b) = refl

abs-rem : (x y : ℤ) → unsigned_abs (int_rem x y) ≡ unsigned_abs x % unsigned_abs y
abs-rem (pos a) y = refl
abs-rem (negsuc a) y = abs-neg (suc a % unsigned_abs y)

multiple : (k n : ℕ) → (k * n) % n ≡ 0
multiple k n = mul-mod_left k n

plus-zero : (z : ℤ) → z +ℤ pos 0 ≡ z
plus-zero z = +ℤ_idr z

exact : (x y : ℤ) → int_rem x y ≡ pos 0 → int_div x y *ℤ y ≡ x
exact x y e = sym (plus-zero (int_div x y *ℤ y)) ∙ sym (ap (λ r. int_div x y *ℤ y +ℤ r) e) ∙ quot-rem x y

none-exact : (x y : ℤ) → (unsigned_abs (int_rem x y) == 0) ≡ false → (q : ℤ) → q *ℤ y ≡ x → ⊥
none-exact x y e q h =
    zero-false (int_rem x y) e (zero-abs (int_rem x y) (abs-rem x y ∙ ap (λ a. a % unsigned_abs y) (sym (ap unsigned_abs h) ∙ abs-product q y) ∙ multiple (unsigned_abs q) (unsigned_abs y)))
  where
    zero-abs : (z : ℤ) → unsigned_abs z ≡ 0 → z ≡ pos 0
    zero-abs (pos n) e = ap pos e
    zero-abs (negsuc n) e = absurd (let h : ⊥ = omega (arith, e) in h)

of_numbers : (x y : ℤ) → IsQuotientOf x y (quotient (Num x) (Num y))
of_numbers x y = by (unsigned_abs y == 0) (unsigned_abs x == 0) (unsigned_abs (int_rem x y) == 0) refl refl refl
  where
    by : (a b c : Bool) → (unsigned_abs y == 0) ≡ a → (unsigned_abs x == 0) ≡ b → (unsigned_abs (int_rem x y) == 0) ≡ c
        → IsQuotientOf x y (cond a (cond b (Ok NaN) (Err Infinite)) (cond c (Ok (Num (int_div x y))) (Err NotWhole)))
    by true true c e f g = (zero-true y e, zero-true x f)
    by true false c e f g = (zero-true y e, zero-false x f)
    by false b true e f g = (zero-false y e, exact x y (zero-true (int_rem x y) g))
    by false b false e f g = (zero-false y e, none-exact x y g)

law : (a b : Numeral) → IsQuotient a b (quotient a b)
law (Num x) (Num y) = of_numbers x y
law (Num x) NaN = refl
law NaN (Num y) = refl
law NaN NaN = refl

pub quotient_law : (a b : Numeral) (r : Result Numeral Fault) → r ≡ quotient a b → IsQuotient a b r
quotient_law a b r e = subst (IsQuotient a b) (sym e) (law a b)
