-- Numbers that digits spell.
use Rattle.std.proofs.Common.{◌≡◌, ℕ, zero, suc, ◌+◌, ◌-◌, ◌*◌, ◌^◌, ◌<◌, ◌≤◌, List, [], ◌∷◌, length, drop, get_or, refl, sym, ap, ◌∙◌, arith, lit<, lit≤}
use Rattle.std.proofs.Math.Nat.{pow-le-pow_right}
use Rattle.std.proofs.lemmas.Grind.{pow_more}
use Rattle.std.proofs.Math.Seq.{drop-cons}
use Rattle.rip_forms.specs.Reports.{number_behind}

-- so many digits spell a number below this bound
pub record IsBounded (number i : ℕ) : Type 0 where
  pub bound : number + 65536 ≤ 65536 * 10 ^ i

pub bounded-none : IsBounded 0 0
bounded-none = record { bound = lit≤ tt }

pub bounded-more : (number i digit : ℕ) → IsBounded number i → digit < 65536 → IsBounded (10 * number + (digit - 48)) (i + 1)
bounded-more number i digit b h = record { bound = let p : 10 ^ (i + 1) ≡ 10 ^ i * 10 = pow_more 10 i in omega (arith, p, b.bound) }

pub bounded-small : (number i : ℕ) → IsBounded number i → i ≤ 8 → number ≤ 6553600000000
bounded-small number i b h =
    let p : 10 ^ i ≤ 10 ^ 8 = pow-le-pow_right {n = 10} (lit< tt) h in
    let q : 10 ^ 8 ≡ 100000000 = refl in
    omega (arith, p, q, b.bound)

-- a digit more
pub spells-more : (digits : List ℕ) (number i digit : ℕ) → i < length digits → digit ≡ get_or digits i 0 → number_behind number (drop i digits) ≡ number_behind (10 * number + (digit - 48)) (drop (i + 1) digits)
spells-more digits number i digit h e =
    let z : i + 1 ≡ suc i = omega arith in
    ap (number_behind number) (drop-cons digits i 0 h)
    ∙ ap (λ d. number_behind (10 * number + (d - 48)) (drop (suc i) digits)) (sym e)
    ∙ ap (λ k. number_behind (10 * number + (digit - 48)) (drop k digits)) (sym z)
