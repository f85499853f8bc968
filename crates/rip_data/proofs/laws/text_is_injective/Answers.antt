use Rattle.rip_data.proofs.TextLaws.{canonical_text-one}
use Rattle.rip_data.proofs.laws.text_is_injective.Goals as goal

pub returns : goal.returns
returns c = canonical_text-one
