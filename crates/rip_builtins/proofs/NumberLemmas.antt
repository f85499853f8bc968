-- The extreme of numbers that are met one by one.
use Rattle.std.proofs.Common.{◌≡◌, List, ◌∷◌, Result, Ok, Err, refl, ap, ◌∙◌}
use Rattle.rip_base.specs.declared.value.Value.{Value}
use Rattle.rip_base.specs.declared.value.Numeral.{Numeral}
use Rattle.rip_base.specs.declared.value.Fault.{Fault}
use Rattle.rip_values.specs.Pool.{Texts}
use Rattle.rip_heap.specs.Conversions.{number_of}
use Rattle.rip_builtins.specs.Arguments.{then_tries}
use Rattle.rip_builtins.specs.declared.numbers.Extreme.{Extreme}
use Rattle.rip_builtins.specs.Numbers.{extreme_of, extreme_of_two, numbers_of, with_first}

-- the extreme of a number and those of the values behind it
abbrev pub extreme_from : Extreme → Texts → Numeral → List Value → Result Numeral Fault
extreme_from e pool best values = then_tries (numbers_of pool values) (λ numbers. extreme_of e (best ∷ numbers))

pub extreme_from-ok : (e : Extreme) (pool : Texts) (best n : Numeral) (v : Value) (values : List Value) → number_of pool v ≡ Ok n
    → extreme_from e pool best (v ∷ values) ≡ extreme_from e pool (extreme_of_two e best n) values
extreme_from-ok e pool best n v values h =
    ap (λ first. then_tries (with_first first (numbers_of pool values)) (λ numbers. extreme_of e (best ∷ numbers))) h ∙ by (numbers_of pool values)
  where
    by : (r : Result (List Numeral) Fault) → then_tries (with_first (Ok n) r) (λ numbers. extreme_of e (best ∷ numbers)) ≡ then_tries r (λ numbers. extreme_of e (extreme_of_two e best n ∷ numbers))
    by (Ok numbers) = refl
    by (Err fault) = refl

pub extreme_from-err : (e : Extreme) (pool : Texts) (best : Numeral) (f : Fault) (v : Value) (values : List Value) → number_of pool v ≡ Err f
    → extreme_from e pool best (v ∷ values) ≡ Err f
extreme_from-err e pool best f v values h = ap (λ first. then_tries (with_first first (numbers_of pool values)) (λ numbers. extreme_of e (best ∷ numbers))) h
