-- The number that rip_values gives for a sign and digits is the one that `ranged` says.
use Rattle.std.proofs.Common.{◌≡◌, ◌≤◌, ℤ, pos, negsuc, Bool, true, false, cond, Result, Ok, Err, refl, ap, arith, nat_le, unsigned_abs}
use Rattle.std.proofs.lemmas.Bool.Decides.{nat_tests}
use Rattle.std.proofs.lemmas.Int.{ints}
use Rattle.rip_base.specs.declared.value.Numeral.{Numeral}
use Rattle.rip_base.specs.declared.value.Numeral.TheVariants.{Num, NaN}
use Rattle.rip_base.specs.declared.value.Fault.{Fault}
use Rattle.rip_base.specs.declared.value.Fault.TheVariants.{NotWhole, Infinite, OutOfRange, Hole, NotInProfile, ObjectToPrimitive, BadArgument, LoneSurrogate, TextTooLong}
use Rattle.rip_base.specs.NumberScan.{IsRanged}
use Rattle.rip_base.specs.Whole.{IsWhole}
use Rattle.rip_heap.specs.Conversions.{ranged}

within_whole : (z : ℤ) → unsigned_abs z ≤ 9007199254740991 → IsWhole z
within_whole (pos n) h = (omega (arith, ints), omega (arith, ints))
within_whole (negsuc n) h = (omega (arith, ints), omega (arith, ints))

whole_within : (z : ℤ) → IsWhole z → unsigned_abs z ≤ 9007199254740991
whole_within (pos n) h = omega (arith, ints, h.1)
whole_within (negsuc n) h = omega (arith, ints, h.0)

-- of one whole number there is one answer
one : (z : ℤ) (b : Bool) (r : Result Numeral Fault) → nat_le (unsigned_abs z) 9007199254740991 ≡ b → IsRanged z r
    → r ≡ cond b (Ok (Num z)) (Err OutOfRange)
one z true (Ok (Num w)) e h = ap (λ n. Ok (Num n)) h.0
one z false (Ok (Num w)) e h = absurd (let l : unsigned_abs z ≤ 9007199254740991 = whole_within z h.1 in grind (arith, nat_tests))
one z true (Err OutOfRange) e h = absurd (h (within_whole z (grind (arith, nat_tests))))
one z false (Err OutOfRange) e h = refl
one z b (Ok NaN) e h = absurd h
one z b (Err NotWhole) e h = absurd h
one z b (Err Infinite) e h = absurd h
one z b (Err Hole) e h = absurd h
one z b (Err NotInProfile) e h = absurd h
one z b (Err ObjectToPrimitive) e h = absurd h
one z b (Err BadArgument) e h = absurd h
one z b (Err LoneSurrogate) e h = absurd h
one z b (Err TextTooLong) e h = absurd h

pub ranged_one : (z : ℤ) (r : Result Numeral Fault) → IsRanged z r → r ≡ ranged z
ranged_one z r h = one z (nat_le (unsigned_abs z) 9007199254740991) r refl h
