use Rattle.rip_ops.proofs.BuiltinLemmas.{builtin_of-only}
use Rattle.rip_ops.proofs.access.calls.builtin_of.Goals as goal

pub returns : goal.returns
returns c = builtin_of-only c.args.number c.of.result c.of.ensures.number c.of.ensures.only
