use Rattle.rip_script.proofs.Printing.{builtin_found}
use Rattle.rip_script.proofs.named.builtin_at.Goals as goal

pub returns : goal.returns
returns c = builtin_found c.args.number c.of.result c.of.ensures.number c.of.ensures.only
