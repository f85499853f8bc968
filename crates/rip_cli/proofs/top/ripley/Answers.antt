use Rattle.std.proofs.Common.{map, refl, inl}
use Rattle.std.specs.Prelude.{string_bytes}
use Rattle.rip_words.specs.Commands.{task_of}
use Rattle.rip_server.specs.Acts.{seen}
use Rattle.rip_server.specs.Turning.{outer, source}
use Rattle.rip_cli.proofs.RunLemmas.{usage_ran, settled_ran, stopped_reading}
use Rattle.rip_cli.proofs.WordLemmas.{none_form, other_input}
use Rattle.rip_cli.proofs.top.ripley.Goals as goal

pub returns-in_default-clause-ran : goal.returns-in_default-clause-ran
returns-in_default-clause-ran g c =
    let a = c.args in
    let rest = outer (seen (g.D.Door.sent a.door.now) (g.D.Door.knocks a.door.now) (g.D.Door.shuts a.door.now) (g.D.Door.asked a.door.now) (g.S.Sink.held a.out.now)) (source (g.C.Clock.told a.clock.now) (g.C.Clock.coming a.clock.now)) (source (g.W.Words.told a.random.now) (g.W.Words.coming a.random.now)) (g.D.Door.count a.door.now) (g.S.Sink.count a.out.now) in
    usage_ran (map string_bytes a.words.now) (g.F.Files.held a.files.now) (g.F.Files.asked a.files.now) (g.F.Files.count a.files.now) rest _ _ _ _ c.put_line.result (none_form (map string_bytes a.words.now) (c.in_default.ensures.other refl)) c.put_line.ensures.put c.put_line.ensures.counted

pub returns-in-Ok-clause-ran : goal.returns-in-Ok-clause-ran
returns-in-Ok-clause-ran g c =
    settled_ran c.settle.result _ _ _ c.in-Ok.input
    (record {
      task = task_of c.in-Some.command;
      form = c.in-Some.ensures.form;
      contents = c.in-Ok.ensures.input;
      asked = c.in-Ok.ensures.asked;
    })
    c.in-Ok.ensures.counted c.settle.ensures.settles c.settle.ensures.counted

pub returns-in-Ok-clause-alone : goal.returns-in-Ok-clause-alone
returns-in-Ok-clause-alone g c = λ none.
    c.settle.ensures.alone
    (other_input (map string_bytes c.args.words.now) (task_of c.in-Some.command) (g.F.Files.held c.args.files.now) c.in-Ok.input c.in-Some.ensures.form c.in-Ok.ensures.input none)

pub returns-in-Err-Failed-clause-ran : goal.returns-in-Err-Failed-clause-ran
returns-in-Err-Failed-clause-ran g c = inl (
  rw c.in-Err-Failed.field-0-is at c.in-Err-Failed.ensures.counted,
  record { door = refl; sink = refl },
  stopped_reading _ _ _ (task_of c.in-Some.command) c.in-Some.ensures.form c.in-Err-Failed.ensures.asked refl,
)

pub returns-in-Err-Memory-clause-ran : goal.returns-in-Err-Memory-clause-ran
returns-in-Err-Memory-clause-ran g c = (
  (rw c.in-Err-Memory.field-0-is at c.in-Err-Memory.ensures.counted, record { door = refl; sink = refl }),
  inl (stopped_reading _ _ _ (task_of c.in-Some.command) c.in-Some.ensures.form c.in-Err-Memory.ensures.asked refl),
)
