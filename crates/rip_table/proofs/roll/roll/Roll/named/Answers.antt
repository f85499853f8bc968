-- The place of an identifier tells the ordinal.
use Rattle.std.proofs.Common.{◌∙◌}
use Rattle.rip_table.proofs.TellLemmas.{named_told}
use Rattle.rip_table.proofs.roll.roll.Roll.named.Goals as goal

pub returns : goal.returns
returns g c = λ limit h k. c.ordinal.ensures ∙ named_told limit c.args.self.now h c.args.id k
