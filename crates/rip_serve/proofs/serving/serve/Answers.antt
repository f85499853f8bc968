use Rattle.rip_server.specs.Acts.{seen}
use Rattle.rip_server.specs.Turning.{outer, source, site_of}
use Rattle.rip_serve.proofs.RunLemmas.{serves_idle, serves_spent, serves_halt}
use Rattle.rip_serve.proofs.serving.serve.Goals as goal

pub returns-in-Ok-Over : goal.returns-in-Ok-Over
returns-in-Ok-Over g c = record {
  serves = λ meant replies.
      let site = site_of (g.S.Sessions.meaning c.args.site.now.sessions.now) meant c.args.site.now.limit c.args.site.now.page.now in
      let old =
      outer (seen (g.D.Door.sent c.args.door.now) (g.D.Door.knocks c.args.door.now) (g.D.Door.shuts c.args.door.now) (g.D.Door.asked c.args.door.now) (g.K.Sink.held c.args.out.now))
      (source (g.C.Clock.told c.args.clock.now) (g.C.Clock.coming c.args.clock.now)) (source (g.W.Words.told c.args.words.now) (g.W.Words.coming c.args.words.now))
      (g.D.Door.count c.args.door.now) (g.K.Sink.count c.args.out.now) in
      let new =
      outer (seen (g.D.Door.sent c.run.new.door) (g.D.Door.knocks c.run.new.door) (g.D.Door.shuts c.run.new.door) (g.D.Door.asked c.run.new.door) (g.K.Sink.held c.run.new.out))
      (source (g.C.Clock.told c.run.new.clock) (g.C.Clock.coming c.run.new.clock)) (source (g.W.Words.told c.run.new.words) (g.W.Words.coming c.run.new.words))
      (g.D.Door.count c.run.new.door) (g.K.Sink.count c.run.new.out) in
      serves_idle site c.args.turns old new c.in-Ok-Over.field-0 c.in-Ok-Over.field-0-is (c.in-Ok-Over.ensures.runs meant replies) c.in-Ok-Over.ensures.faults;
}

pub returns-in-Ok-On : goal.returns-in-Ok-On
returns-in-Ok-On g c = record {
  serves = λ meant replies.
      let site = site_of (g.S.Sessions.meaning c.args.site.now.sessions.now) meant c.args.site.now.limit c.args.site.now.page.now in
      let old =
      outer (seen (g.D.Door.sent c.args.door.now) (g.D.Door.knocks c.args.door.now) (g.D.Door.shuts c.args.door.now) (g.D.Door.asked c.args.door.now) (g.K.Sink.held c.args.out.now))
      (source (g.C.Clock.told c.args.clock.now) (g.C.Clock.coming c.args.clock.now)) (source (g.W.Words.told c.args.words.now) (g.W.Words.coming c.args.words.now))
      (g.D.Door.count c.args.door.now) (g.K.Sink.count c.args.out.now) in
      let new =
      outer (seen (g.D.Door.sent c.run.new.door) (g.D.Door.knocks c.run.new.door) (g.D.Door.shuts c.run.new.door) (g.D.Door.asked c.run.new.door) (g.K.Sink.held c.run.new.out))
      (source (g.C.Clock.told c.run.new.clock) (g.C.Clock.coming c.run.new.clock)) (source (g.W.Words.told c.run.new.words) (g.W.Words.coming c.run.new.words))
      (g.D.Door.count c.run.new.door) (g.K.Sink.count c.run.new.out) in
      serves_spent site c.args.turns old new c.in-Ok-On.field-0 c.in-Ok-On.field-0-is (c.in-Ok-On.ensures.runs meant replies) c.in-Ok-On.ensures.faults;
}

pub returns-in-Err : goal.returns-in-Err
returns-in-Err g c = record {
  serves = λ meant replies.
      let site = site_of (g.S.Sessions.meaning c.args.site.now.sessions.now) meant c.args.site.now.limit c.args.site.now.page.now in
      let old =
      outer (seen (g.D.Door.sent c.args.door.now) (g.D.Door.knocks c.args.door.now) (g.D.Door.shuts c.args.door.now) (g.D.Door.asked c.args.door.now) (g.K.Sink.held c.args.out.now))
      (source (g.C.Clock.told c.args.clock.now) (g.C.Clock.coming c.args.clock.now)) (source (g.W.Words.told c.args.words.now) (g.W.Words.coming c.args.words.now))
      (g.D.Door.count c.args.door.now) (g.K.Sink.count c.args.out.now) in
      let new =
      outer (seen (g.D.Door.sent c.run.new.door) (g.D.Door.knocks c.run.new.door) (g.D.Door.shuts c.run.new.door) (g.D.Door.asked c.run.new.door) (g.K.Sink.held c.run.new.out))
      (source (g.C.Clock.told c.run.new.clock) (g.C.Clock.coming c.run.new.clock)) (source (g.W.Words.told c.run.new.words) (g.W.Words.coming c.run.new.words))
      (g.D.Door.count c.run.new.door) (g.K.Sink.count c.run.new.out) in
      serves_halt site c.args.turns old new c.in-Err.halt c.stop_of.result c.stop_of.ensures (c.in-Err.ensures.runs meant replies) c.in-Err.ensures.faults;
}
