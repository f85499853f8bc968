use Rattle.rip_markup.specs.declared.token.Content.TheVariants.{Markup}
use Rattle.rip_markup.proofs.Unique.{one_reading}
use Rattle.rip_markup.proofs.tokenizer.tokens_are_one.Goals as goal

pub returns : goal.returns
returns c = λ text list others first second. one_reading 0 Markup text list others first second
