use Rattle.std.proofs.Common.{refl}
use Rattle.rip_server.specs.Acts.{seen}
use Rattle.rip_server.specs.Turning.{outer, source}
use Rattle.rip_cli.specs.declared.input.Input.TheVariants.{Serve}
use Rattle.rip_cli.proofs.FileLemmas.{app_cause, is_app}
use Rattle.rip_cli.proofs.SettleLemmas.{refusal_settles}
use Rattle.rip_cli.proofs.ServeLemmas.{serve_settles}
use Rattle.rip_cli.proofs.top.settle_serve.Goals as goal

pub returns-in-Err-clause-settles : goal.returns-in-Err-clause-settles
returns-in-Err-clause-settles g c =
    let a = c.args in
    let rest = outer (seen (g.D.Door.sent a.door.now) (g.D.Door.knocks a.door.now) (g.D.Door.shuts a.door.now) (g.D.Door.asked a.door.now) (g.S.Sink.held a.out.now)) (source (g.C.Clock.told a.clock.now) (g.C.Clock.coming a.clock.now)) (source (g.W.Words.told a.random.now) (g.W.Words.coming a.random.now)) (g.D.Door.count a.door.now) (g.S.Sink.count a.out.now) in
    let i = Serve a.files.now a.turns in
    refusal_settles i rest _ _ _ _ c.refuse.result c.in-Err.refusal (app_cause i a.files.now c.in-Err.refusal refl c.requires c.in-Err.ensures.refused) c.refuse.ensures.put c.refuse.ensures.counted

pub returns-in-Ok-serve_app-clause-settles : goal.returns-in-Ok-serve_app-clause-settles
returns-in-Ok-serve_app-clause-settles g c =
    let a = c.args in
    serve_settles c.of_stop.result a.files.now a.turns c.in-Ok.app c.in-Ok-serve_app.how _ _
    (is_app (Serve a.files.now a.turns) a.files.now c.in-Ok.app refl c.requires c.in-Ok.ensures.loaded) c.of_stop.ensures c.in-Ok-serve_app.ensures.served
