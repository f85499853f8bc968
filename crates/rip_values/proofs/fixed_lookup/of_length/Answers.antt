use Rattle.std.proofs.Common.{◌∙◌}
use Rattle.rip_values.proofs.FixedLemmas.{texts_by_length}
use Rattle.rip_values.proofs.fixed_lookup.of_length.Goals as goal

pub returns : goal.returns
returns c = c.texts_at.ensures ∙ texts_by_length c.args.length
