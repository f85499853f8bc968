use Rattle.rip_words.proofs.WordLemmas.{tasks}
use Rattle.rip_words.proofs.laws.words_are_one.Goals as goal

pub returns : goal.returns
returns c = tasks
