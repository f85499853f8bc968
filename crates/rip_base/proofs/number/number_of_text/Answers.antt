use Rattle.std.proofs.Common.{sym, subst, Ok}
use Rattle.rip_base.specs.declared.value.Numeral.TheVariants.{Num}
use Rattle.rip_base.specs.Blank.{trimmed}
use Rattle.rip_base.specs.Numbers.{IsNumberOf}
use Rattle.rip_base.proofs.NumberLaws.{IsNumberOf-one, IsNumberOf-signed_decimal}
use Rattle.rip_base.proofs.number.number_of_text.Goals as goal

pub returns-clause-only : goal.returns-clause-only
returns-clause-only c answer h =
    IsNumberOf-one (trimmed c.args.text.now) answer c.number_of_trimmed.result h
    (subst (λ t. IsNumberOf t c.number_of_trimmed.result) c.trim.ensures c.number_of_trimmed.ensures.value)

pub returns-clause-written : goal.returns-clause-written
returns-clause-written c number w e =
    sym (returns-clause-only c (Ok (Num number)) (subst (λ t. IsNumberOf (trimmed t) (Ok (Num number))) (sym e) (IsNumberOf-signed_decimal number w)))
