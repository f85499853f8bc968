use Rattle.rip_script.specs.Given.{DrawsTree, RefusesTree}
use Rattle.rip_script.proofs.Settling.{stop_settles}
use Rattle.rip_script.proofs.top.settle_tree.Goals as goal

pub returns-in-Err-clause-settles : goal.returns-in-Err-clause-settles
returns-in-Err-clause-settles g c =
    stop_settles (DrawsTree c.args.bytes.now) (RefusesTree c.args.bytes.now) c.stop_at.result c.in-Err.stop _ _ c.in-Err.ensures.refused c.stop_at.ensures.put
