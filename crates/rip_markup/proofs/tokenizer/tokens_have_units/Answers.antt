use Rattle.rip_markup.proofs.Counting.{units_counted}
use Rattle.rip_markup.proofs.tokenizer.tokens_have_units.Goals as goal

pub returns : goal.returns
returns c = units_counted
