use Rattle.std.proofs.Common.{◌≡◌, sym, subst, rules}
use Rattle.rip_server.specs.Acts.{seen}
use Rattle.rip_server.specs.Turning.{outer, source}
use Rattle.rip_cli.specs.Settling.{Settles, with_sink}
use Rattle.rip_cli.specs.declared.input.Input.{Input}
use Rattle.rip_cli.specs.declared.input.Input.TheVariants.{Check, Drive, Generate, Replay}
use Rattle.rip_cli.specs.declared.refusal.Refusal.TheVariants.{TooLong}
use Rattle.rip_cli.proofs.SettleLemmas.{counts_all, refusal_settles}
use Rattle.rip_cli.proofs.top.settle.Goals as goal

pub returns-in-Some-clause-settles : goal.returns-in-Some-clause-settles
returns-in-Some-clause-settles g c =
    let a = c.args in
    let rest = outer (seen (g.D.Door.sent a.door.now) (g.D.Door.knocks a.door.now) (g.D.Door.shuts a.door.now) (g.D.Door.asked a.door.now) (g.S.Sink.held a.out.now)) (source (g.C.Clock.told a.clock.now) (g.C.Clock.coming a.clock.now)) (source (g.W.Words.told a.random.now) (g.W.Words.coming a.random.now)) (g.D.Door.count a.door.now) (g.S.Sink.count a.out.now) in
    refusal_settles a.input.now rest _ _ _ _ c.refuse.result (TooLong c.in-Some.file) (sym c.in-Some.ensures) c.refuse.ensures.put c.refuse.ensures.counted

pub returns-in-Some-clause-counted : goal.returns-in-Some-clause-counted
returns-in-Some-clause-counted g c =
    let a = c.args in
    let rest = outer (seen (g.D.Door.sent a.door.now) (g.D.Door.knocks a.door.now) (g.D.Door.shuts a.door.now) (g.D.Door.asked a.door.now) (g.S.Sink.held a.out.now)) (source (g.C.Clock.told a.clock.now) (g.C.Clock.coming a.clock.now)) (source (g.W.Words.told a.random.now) (g.W.Words.coming a.random.now)) (g.D.Door.count a.door.now) (g.S.Sink.count a.out.now) in
    counts_all c.refuse.result rest _ _ _ _ c.refuse.ensures.counted

pub returns-in-Check-clause-settles : goal.returns-in-Check-clause-settles
returns-in-Check-clause-settles g c =
    let a = c.args in
    let rest = outer (seen (g.D.Door.sent a.door.now) (g.D.Door.knocks a.door.now) (g.D.Door.shuts a.door.now) (g.D.Door.asked a.door.now) (g.S.Sink.held a.out.now)) (source (g.C.Clock.told a.clock.now) (g.C.Clock.coming a.clock.now)) (source (g.W.Words.told a.random.now) (g.W.Words.coming a.random.now)) (g.D.Door.count a.door.now) (g.S.Sink.count a.out.now) in
    let held = g.S.Sink.held c.settle_check.new.out in
    let e : a.input.now ≡ Check c.in-Check.files = search rules in
    let P : Input → Type 0 = λ i. Settles c.settle_check.result i (with_sink rest (g.S.Sink.held a.out.now) (g.S.Sink.count a.out.now)) (with_sink rest held (g.S.Sink.count c.settle_check.new.out)) in
    subst P (sym e) (c.settle_check.ensures.settles rest)

pub returns-in-Check-clause-counted : goal.returns-in-Check-clause-counted
returns-in-Check-clause-counted g c =
    let a = c.args in
    let rest = outer (seen (g.D.Door.sent a.door.now) (g.D.Door.knocks a.door.now) (g.D.Door.shuts a.door.now) (g.D.Door.asked a.door.now) (g.S.Sink.held a.out.now)) (source (g.C.Clock.told a.clock.now) (g.C.Clock.coming a.clock.now)) (source (g.W.Words.told a.random.now) (g.W.Words.coming a.random.now)) (g.D.Door.count a.door.now) (g.S.Sink.count a.out.now) in
    counts_all c.settle_check.result rest _ _ _ _ c.settle_check.ensures.counted

pub returns-in-Replay-clause-settles : goal.returns-in-Replay-clause-settles
returns-in-Replay-clause-settles g c =
    let a = c.args in
    let rest = outer (seen (g.D.Door.sent a.door.now) (g.D.Door.knocks a.door.now) (g.D.Door.shuts a.door.now) (g.D.Door.asked a.door.now) (g.S.Sink.held a.out.now)) (source (g.C.Clock.told a.clock.now) (g.C.Clock.coming a.clock.now)) (source (g.W.Words.told a.random.now) (g.W.Words.coming a.random.now)) (g.D.Door.count a.door.now) (g.S.Sink.count a.out.now) in
    let held = g.S.Sink.held c.settle_replay.new.out in
    let e : a.input.now ≡ Replay c.in-Replay.files c.in-Replay.turns = search rules in
    let P : Input → Type 0 = λ i. Settles c.settle_replay.result i (with_sink rest (g.S.Sink.held a.out.now) (g.S.Sink.count a.out.now)) (with_sink rest held (g.S.Sink.count c.settle_replay.new.out)) in
    subst P (sym e) (c.settle_replay.ensures.settles rest)

pub returns-in-Replay-clause-counted : goal.returns-in-Replay-clause-counted
returns-in-Replay-clause-counted g c =
    let a = c.args in
    let rest = outer (seen (g.D.Door.sent a.door.now) (g.D.Door.knocks a.door.now) (g.D.Door.shuts a.door.now) (g.D.Door.asked a.door.now) (g.S.Sink.held a.out.now)) (source (g.C.Clock.told a.clock.now) (g.C.Clock.coming a.clock.now)) (source (g.W.Words.told a.random.now) (g.W.Words.coming a.random.now)) (g.D.Door.count a.door.now) (g.S.Sink.count a.out.now) in
    counts_all c.settle_replay.result rest _ _ _ _ c.settle_replay.ensures.counted

pub returns-in-Drive-clause-settles : goal.returns-in-Drive-clause-settles
returns-in-Drive-clause-settles g c =
    let a = c.args in
    let rest = outer (seen (g.D.Door.sent a.door.now) (g.D.Door.knocks a.door.now) (g.D.Door.shuts a.door.now) (g.D.Door.asked a.door.now) (g.S.Sink.held a.out.now)) (source (g.C.Clock.told a.clock.now) (g.C.Clock.coming a.clock.now)) (source (g.W.Words.told a.random.now) (g.W.Words.coming a.random.now)) (g.D.Door.count a.door.now) (g.S.Sink.count a.out.now) in
    let held = g.S.Sink.held c.settle_drive.new.out in
    let e : a.input.now ≡ Drive c.in-Drive.files = search rules in
    let P : Input → Type 0 = λ i. Settles c.settle_drive.result i (with_sink rest (g.S.Sink.held a.out.now) (g.S.Sink.count a.out.now)) (with_sink rest held (g.S.Sink.count c.settle_drive.new.out)) in
    subst P (sym e) (c.settle_drive.ensures.settles rest)

pub returns-in-Drive-clause-counted : goal.returns-in-Drive-clause-counted
returns-in-Drive-clause-counted g c =
    let a = c.args in
    let rest = outer (seen (g.D.Door.sent a.door.now) (g.D.Door.knocks a.door.now) (g.D.Door.shuts a.door.now) (g.D.Door.asked a.door.now) (g.S.Sink.held a.out.now)) (source (g.C.Clock.told a.clock.now) (g.C.Clock.coming a.clock.now)) (source (g.W.Words.told a.random.now) (g.W.Words.coming a.random.now)) (g.D.Door.count a.door.now) (g.S.Sink.count a.out.now) in
    counts_all c.settle_drive.result rest _ _ _ _ c.settle_drive.ensures.counted

pub returns-in-Generate-clause-settles : goal.returns-in-Generate-clause-settles
returns-in-Generate-clause-settles g c =
    let a = c.args in
    let rest = outer (seen (g.D.Door.sent a.door.now) (g.D.Door.knocks a.door.now) (g.D.Door.shuts a.door.now) (g.D.Door.asked a.door.now) (g.S.Sink.held a.out.now)) (source (g.C.Clock.told a.clock.now) (g.C.Clock.coming a.clock.now)) (source (g.W.Words.told a.random.now) (g.W.Words.coming a.random.now)) (g.D.Door.count a.door.now) (g.S.Sink.count a.out.now) in
    let held = g.S.Sink.held c.settle_generate.new.out in
    let e : a.input.now ≡ Generate c.in-Generate.n = search rules in
    let P : Input → Type 0 = λ i. Settles c.settle_generate.result i (with_sink rest (g.S.Sink.held a.out.now) (g.S.Sink.count a.out.now)) (with_sink rest held (g.S.Sink.count c.settle_generate.new.out)) in
    subst P (sym e) (c.settle_generate.ensures.settles rest)

pub returns-in-Generate-clause-counted : goal.returns-in-Generate-clause-counted
returns-in-Generate-clause-counted g c =
    let a = c.args in
    let rest = outer (seen (g.D.Door.sent a.door.now) (g.D.Door.knocks a.door.now) (g.D.Door.shuts a.door.now) (g.D.Door.asked a.door.now) (g.S.Sink.held a.out.now)) (source (g.C.Clock.told a.clock.now) (g.C.Clock.coming a.clock.now)) (source (g.W.Words.told a.random.now) (g.W.Words.coming a.random.now)) (g.D.Door.count a.door.now) (g.S.Sink.count a.out.now) in
    counts_all c.settle_generate.result rest _ _ _ _ c.settle_generate.ensures.counted
