use Rattle.rip_history.proofs.SequenceLemmas.{ordinals_count, batches_count, identifiers_differ, ends_last}
use Rattle.rip_history.proofs.laws.sequences_count.Goals as goal

pub returns-clause-ordinals : goal.returns-clause-ordinals
returns-clause-ordinals c = ordinals_count

pub returns-clause-batches : goal.returns-clause-batches
returns-clause-batches c = batches_count

pub returns-clause-identifiers : goal.returns-clause-identifiers
returns-clause-identifiers c = identifiers_differ

pub returns-clause-last : goal.returns-clause-last
returns-clause-last c = ends_last
