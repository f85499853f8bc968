use Rattle.std.proofs.Common.{sym}
use Rattle.rip_dom.proofs.NameLemmas.{small-length}
use Rattle.rip_dom.proofs.names.is_small.Goals as goal

pub returns-then-text-name : goal.returns-then-text-name
returns-then-text-name c = sym (small-length c.args.text.now c.args.name.now c.if-text-name.true)
