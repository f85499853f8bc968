use Rattle.std.proofs.Common.{refl}
use Rattle.rip_cli.specs.declared.input.Input.TheVariants.{Check}
use Rattle.rip_cli.proofs.FileLemmas.{app_cause}
use Rattle.rip_cli.proofs.SettleLemmas.{count_settles, refusal_settles}
use Rattle.rip_cli.proofs.top.settle_check.Goals as goal

pub returns-in-Ok-clause-settles : goal.returns-in-Ok-clause-settles
returns-in-Ok-clause-settles g c = λ rest.
    count_settles c.args.files.now rest _ _ _ _ c.put_count.result c.in-Ok.app c.requires c.in-Ok.ensures.loaded c.put_count.ensures.put c.put_count.ensures.counted

pub returns-in-Err-clause-settles : goal.returns-in-Err-clause-settles
returns-in-Err-clause-settles g c = λ rest.
    refusal_settles (Check c.args.files.now) rest _ _ _ _ c.refuse.result c.in-Err.refusal
    (app_cause (Check c.args.files.now) c.args.files.now c.in-Err.refusal refl c.requires c.in-Err.ensures.refused) c.refuse.ensures.put c.refuse.ensures.counted
