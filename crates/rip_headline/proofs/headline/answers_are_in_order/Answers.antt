use Rattle.rip_headline.proofs.HeadlineLemmas.{answers_are_in_order}
use Rattle.rip_headline.proofs.headline.answers_are_in_order.Goals as goal

pub returns : goal.returns
returns c = answers_are_in_order
