use Rattle.std.proofs.Common.{◌-◌, cond, Ok, Err, length, sym, ap, ◌∙◌, arith}
use Rattle.rip_base.specs.declared.value.Fault.TheVariants.{LoneSurrogate}
use Rattle.rip_convert.proofs.Judging.{left_units}
use Rattle.rip_convert.proofs.Utf16.{are_units_of}
use Rattle.rip_convert.proofs.judge.spelled_left.Goals as goal

pub returns-then-has_unpaired_surrogate-clause-left : goal.returns-then-has_unpaired_surrogate-clause-left
returns-then-has_unpaired_surrogate-clause-left c =
    let units = c.args.units.now in
    sym (left_units units c.args.left c.if-units-left.false (are_units_of units (λ k. omega (arith, c.type_inv.units k)))
    ∙ ap (λ b. cond b (Err LoneSurrogate) (Ok (c.args.left - length units))) (sym c.has_unpaired_surrogate.ensures ∙ c.if-has_unpaired_surrogate.true))

pub returns-clause-left : goal.returns-clause-left
returns-clause-left c =
    let units = c.args.units.now in
    sym (left_units units c.args.left c.if-units-left.false (are_units_of units (λ k. omega (arith, c.type_inv.units k)))
    ∙ ap (λ b. cond b (Err LoneSurrogate) (Ok (c.args.left - length units))) (sym c.has_unpaired_surrogate.ensures ∙ c.if-has_unpaired_surrogate.false))
