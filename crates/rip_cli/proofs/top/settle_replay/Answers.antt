use Rattle.std.proofs.Common.{refl}
use Rattle.rip_cli.specs.declared.input.Input.TheVariants.{Replay}
use Rattle.rip_cli.proofs.FileLemmas.{app_cause, trace_cause, is_app, has_trace}
use Rattle.rip_cli.proofs.SettleLemmas.{refusal_settles}
use Rattle.rip_cli.proofs.ServeLemmas.{replay_settles}
use Rattle.rip_cli.proofs.top.settle_replay.Goals as goal

pub returns-in-Err-clause-settles : goal.returns-in-Err-clause-settles
returns-in-Err-clause-settles g c = λ rest.
    let i = Replay c.args.files.now c.args.turns in
    refusal_settles i rest _ _ _ _ c.refuse.result c.in-Err.refusal (app_cause i c.args.files.now.app c.in-Err.refusal refl c.requires c.in-Err.ensures.refused) c.refuse.ensures.put c.refuse.ensures.counted

pub returns-in-Err-load_trace-clause-settles : goal.returns-in-Err-load_trace-clause-settles
returns-in-Err-load_trace-clause-settles g c = λ rest.
    let files = c.args.files.now in
    let turns = c.args.turns in
    let app = is_app (Replay files turns) files.app c.in-Ok.app refl c.requires c.in-Ok.ensures.loaded in
    refusal_settles (Replay files turns) rest _ _ _ _ c.refuse-in-Err-load_trace.result c.in-Err-load_trace.refusal
    (trace_cause files turns c.in-Ok.app c.in-Err-load_trace.refusal c.requires app c.in-Err-load_trace.ensures.refused)
    c.refuse-in-Err-load_trace.ensures.put c.refuse-in-Err-load_trace.ensures.counted

pub returns-in-Ok-replay-clause-settles : goal.returns-in-Ok-replay-clause-settles
returns-in-Ok-replay-clause-settles g c = λ rest.
    let files = c.args.files.now in
    let turns = c.args.turns in
    let app = is_app (Replay files turns) files.app c.in-Ok.app refl c.requires c.in-Ok.ensures.loaded in
    replay_settles c.in-Ok.app c.in-Ok-load_trace.trace turns c.in-Ok-replay.how _ _ _ _ c.of_stop.result files rest app
    (has_trace files turns c.in-Ok-load_trace.trace c.requires c.in-Ok-load_trace.ensures.read) c.of_stop.ensures c.in-Ok-replay.ensures.served
