use Rattle.std.proofs.Common.{◌∙◌, ap}
use Rattle.rip_values.specs.FixedSearch.{fixed_text}
use Rattle.rip_values.specs.Pool.{text_at}
use Rattle.rip_nodes.proofs.NameLemmas.{named-is}
use Rattle.rip_nodes.proofs.answer.member_named.Goals as goal

pub returns : goal.returns
returns c = named-is c.get.result.now c.of.result c.of.ensures.text c.of.ensures.only ∙ ap fixed_text c.get.ensures.text ∙ ap (λ p. fixed_text (text_at p c.args.name)) c.pool.ensures
