use Rattle.std.proofs.Common.{◌<◌, length, take, get_or, arith}
use Rattle.std.specs.Char.{digit_value}
use Rattle.std.specs.Str.Parse.{digits_value}
use Rattle.std.proofs.lemmas.Int.Digits.{digits_value_more}
use Rattle.rip_base.proofs.NumberLemmas.{capped_step}
use Rattle.rip_base.proofs.number.digits_value.Goals as goal

pub loop-digit-preserved : goal.loop-digit-preserved
loop-digit-preserved c =
    let within : c.loop-digit.digit-index < length c.args.digits.now = omega arith in
    let more = digits_value_more c.args.base c.args.digits.now c.loop-digit.digit-index within in
    let step = capped_step (digits_value c.args.base (take c.loop-digit.digit-index c.args.digits.now)) c.args.base (digit_value (get_or c.args.digits.now c.loop-digit.digit-index 0)) 9007199254740992 in
    cc
