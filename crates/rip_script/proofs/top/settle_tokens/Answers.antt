use Rattle.rip_script.specs.Given.{ListsTokens, RefusesTokens}
use Rattle.rip_script.proofs.Settling.{stop_settles}
use Rattle.rip_script.proofs.top.settle_tokens.Goals as goal

pub returns-in-Err-clause-settles : goal.returns-in-Err-clause-settles
returns-in-Err-clause-settles g c =
    stop_settles (ListsTokens c.args.bytes.now) (RefusesTokens c.args.bytes.now) c.stop_at.result c.in-Err.stop _ _ c.in-Err.ensures.refused c.stop_at.ensures.put
