use Rattle.rip_script.proofs.Running.{run_settles}
use Rattle.rip_script.proofs.top.settle_run.Goals as goal

pub returns-in-Ok-evaluate-clause-settles : goal.returns-in-Ok-evaluate-clause-settles
returns-in-Ok-evaluate-clause-settles g c =
    let checked = c.in-Ok.ensures.checked in
    run_settles c.args.bytes.now c.args.limits checked.0 c.in-Ok.program c.in-Ok-evaluate.ended c.put_run-put.result c.status_after.result
    _ _ checked.1 checked.2 c.in-Ok-evaluate.ensures c.put_run-put.ensures.put c.status_after.ensures
