use Rattle.rip_wire.proofs.LawLemmas.{text_spells}
use Rattle.rip_wire.proofs.laws.texts_spell_batches.Goals as goal

pub returns : goal.returns
returns c = text_spells
