use Rattle.std.proofs.Common.{◌<◌, ◌+◌, ◌/◌, ◌%◌, ◌++◌, length, take, drop, sym, ap, ◌∙◌, arith}
use Rattle.std.specs.Fmt.{decimal}
use Rattle.std.proofs.lemmas.Fmt.{decimal_digit, decimal_step}
use Rattle.rip_base.proofs.DecimalLemmas.{length-decimal_step, set-digit, set-last_digit}
use Rattle.rip_base.proofs.number.+write_decimal.Goals as goal

pub bounds-room-start : goal.bounds-room-start
bounds-room-start t c = omega (arith, ap length (decimal_digit c.args.number c.if-number-lt10.true))

pub returns-then-number-lt10-clause-text : goal.returns-then-number-lt10-clause-text
returns-then-number-lt10-clause-text t c =
    let small : c.args.number < 10 = c.if-number-lt10.true in
    let within : c.args.start < length c.args.room.now = omega (arith, ap length (decimal_digit c.args.number small)) in
    set-digit c.args.room.now c.args.start c.args.number within small

pub returns-then-number-lt10-clause-end : goal.returns-then-number-lt10-clause-end
returns-then-number-lt10-clause-end t c = omega (arith, ap length (decimal_digit c.args.number c.if-number-lt10.true))

pub write_decimal-last-requires : goal.write_decimal-last-requires
write_decimal-last-requires t c =
    (omega arith, omega (arith, length-decimal_step c.args.number c.if-number-lt10.false c.ranges.number.fits))

pub bounds-room-last : goal.bounds-room-last
bounds-room-last t c = omega (arith, length-decimal_step c.args.number c.if-number-lt10.false c.ranges.number.fits, c.write_decimal-last.ensures.end)

pub returns-clause-text : goal.returns-clause-text
returns-clause-text t c =
    let longer = length-decimal_step c.args.number c.if-number-lt10.false c.ranges.number.fits in
    set-last_digit c.args.room.now c.write_decimal-last.new.room (decimal (c.args.number / 10)) c.args.start c.write_decimal-last.result (48 + c.args.number % 10)
    c.write_decimal-last.ensures.text c.write_decimal-last.ensures.end (omega (arith, longer)) (omega (arith, longer, c.write_decimal-last.ensures.end))
    ∙ ap (λ ds. take c.args.start c.args.room.now ++ ds ++ drop (c.write_decimal-last.result + 1) c.args.room.now) (sym (decimal_step c.args.number c.if-number-lt10.false c.ranges.number.fits))

pub returns-clause-end : goal.returns-clause-end
returns-clause-end t c = omega (arith, length-decimal_step c.args.number c.if-number-lt10.false c.ranges.number.fits, c.write_decimal-last.ensures.end)
