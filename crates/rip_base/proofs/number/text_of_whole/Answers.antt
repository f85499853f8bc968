use Rattle.std.proofs.Common.{arith}
use Rattle.std.proofs.lemmas.Fmt.{length-decimal-le}
use Rattle.rip_base.proofs.number.text_of_whole.Goals as goal

pub write_decimal-requires : goal.write_decimal-requires
write_decimal-requires c = omega (arith, length-decimal-le 16 c.magnitude_of-magnitude.result (omega arith) c.magnitude_of-magnitude.ensures.range (omega (arith, c.magnitude_of-magnitude.ensures.range)))

pub write_decimal-requires-else-is_negative : goal.write_decimal-requires-else-is_negative
write_decimal-requires-else-is_negative c = omega (arith, length-decimal-le 16 c.magnitude_of-magnitude.result (omega arith) c.magnitude_of-magnitude.ensures.range (omega (arith, c.magnitude_of-magnitude.ensures.range)))
