use Rattle.rip_markup.proofs.Having.{text_tokens}
use Rattle.rip_markup.proofs.tokenizer.texts_have_tokens.Goals as goal

pub returns : goal.returns
returns c = text_tokens
