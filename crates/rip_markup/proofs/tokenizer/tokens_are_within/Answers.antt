use Rattle.rip_markup.proofs.Within.{text_within}
use Rattle.rip_markup.proofs.tokenizer.tokens_are_within.Goals as goal

pub returns : goal.returns
returns c = text_within
