use Rattle.std.proofs.Common.{◌∙◌, sym, ap}
use Rattle.std.specs.Str.{chars}
use Rattle.rip_base.specs.Text.{encode_utf16_all}
use Rattle.rip_base.proofs.TextLemmas.{IsSameText-chars, IsSameText-units}
use Rattle.rip_base.proofs.text.List+u16.from_utf8.Goals as goal

pub returns-in_ok-units_of-in-Ok-clause-text : goal.returns-in_ok-units_of-in-Ok-clause-text
returns-in_ok-units_of-in-Ok-clause-text c =
    IsSameText-chars c.args.bytes.now c.from_vec.result c.in-Ok.ensures.cases.1
    (c.from_vec.ensures ∙ c.in_ok-units_of-in-Ok.ensures ∙ ap (λ bytes. encode_utf16_all (chars bytes)) c.in-Ok.ensures.cases.0)

pub returns-in_ok-units_of-in-Ok-clause-only : goal.returns-in_ok-units_of-in-Ok-clause-only
returns-in_ok-units_of-in-Ok-clause-only c units other =
    sym (IsSameText-units c.args.bytes.now c.from_vec.result units (returns-in_ok-units_of-in-Ok-clause-text c) other)
