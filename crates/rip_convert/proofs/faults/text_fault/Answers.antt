use Rattle.std.proofs.Common.{None, Some, cond, sym, ap, ◌∙◌, arith}
use Rattle.rip_base.specs.declared.value.Fault.TheVariants.{LoneSurrogate}
use Rattle.rip_convert.proofs.FirstFault.{fault_units}
use Rattle.rip_convert.proofs.Utf16.{are_units_of}
use Rattle.rip_convert.proofs.faults.text_fault.Goals as goal

pub returns-then-has_unpaired_surrogate : goal.returns-then-has_unpaired_surrogate
returns-then-has_unpaired_surrogate c =
    let units = c.args.units.now in
    sym (fault_units units (are_units_of units (λ k. omega (arith, c.type_inv.units k)))
    ∙ ap (λ b. cond b (Some LoneSurrogate) None) (sym c.has_unpaired_surrogate.ensures ∙ c.if-has_unpaired_surrogate.true))

pub returns : goal.returns
returns c =
    let units = c.args.units.now in
    sym (fault_units units (are_units_of units (λ k. omega (arith, c.type_inv.units k)))
    ∙ ap (λ b. cond b (Some LoneSurrogate) None) (sym c.has_unpaired_surrogate.ensures ∙ c.if-has_unpaired_surrogate.false))
