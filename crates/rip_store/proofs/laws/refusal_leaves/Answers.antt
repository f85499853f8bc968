use Rattle.rip_store.proofs.LawLemmas.{refusal_leaves}
use Rattle.rip_store.proofs.laws.refusal_leaves.Goals as goal

pub returns : goal.returns
returns c = refusal_leaves
