use Rattle.rip_wire.proofs.TreeLemmas.{answer_text-one}
use Rattle.rip_wire.proofs.laws.bodies_tell_answers.Goals as goal

pub returns : goal.returns
returns c = answer_text-one
