use Rattle.std.proofs.Common.{true≢false, refl, sym, ◌∙◌}
use Rattle.rip_data.proofs.ReadLemmas.{value_of-some, value_of-none}
use Rattle.rip_data.proofs.read.read_value.Goals as goal

pub returns-in-Ok-clause-ok : goal.returns-in-Ok-clause-ok
returns-in-Ok-clause-ok c = value_of-some _ _ c.in-Ok.ensures.ok.0 c.in-Ok.ensures.ok.1

pub returns-in-Err-2-clause-err : goal.returns-in-Err-2-clause-err
returns-in-Err-2-clause-err c = λ _. (
  refl,
  value_of-none _ (c.in-Err.ensures.err (λ memory. true≢false (sym (c.is_memory.ensures.1 memory) ∙ c.if-is_memory.false))),
)
