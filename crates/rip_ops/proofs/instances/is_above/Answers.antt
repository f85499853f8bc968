use Rattle.std.proofs.Common.{refl, arith}
use Rattle.rip_ops.specs.Instances.{is_above}
use Rattle.rip_ops.proofs.instances.is_above.Goals as goal

pub loop-up-init : goal.loop-up-init
unfolding is_above
loop-up-init c = (c.args.object, omega arith, refl)
