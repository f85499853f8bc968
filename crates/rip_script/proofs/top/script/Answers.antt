use Rattle.std.proofs.Common.{◌≡◌, ◌∷◌, [], ℕ, List, Err, ap, subst}
use Rattle.rip_outer.specs.Outside.{also}
use Rattle.rip_outer.specs.Reading.{IsContents, IsTooLong}
use Rattle.rip_script.specs.Given.{AnswersBytes, RefusesBytes}
use Rattle.rip_script.specs.Steps.{Settles}
use Rattle.rip_script.specs.Words.{task_of}
use Rattle.rip_script.proofs.Runs.{settled_ran, too_long_ran}
use Rattle.rip_script.proofs.top.script.Goals as goal

pub returns-in-Ok : goal.returns-in-Ok
returns-in-Ok g c =
    let task = task_of c.in-Some.command in
    record {
      ran = settled_ran c.settle.result _ _ _ task c.in-Ok.bytes
          (record {
            form = c.in-Some.ensures.form;
            asked = subst (λ (n : List ℕ). g.F.Files.asked c.read_all.new.self ≡ also (n ∷ []) (g.F.Files.asked c.args.files.now)) c.file.ensures c.in-Ok.ensures.asked;
          })
          (record {
            contents = subst (λ (n : List ℕ). IsContents (g.F.Files.held c.args.files.now) n c.in-Ok.bytes) c.file.ensures c.in-Ok.ensures.contents;
            fits = c.in-Ok.ensures.fits;
          })
          c.in-Ok.ensures.counted
          (subst (λ (bytes : List ℕ). Settles (AnswersBytes task bytes) (RefusesBytes task bytes) c.settle.result (g.S.Sink.held c.args.sink.now) (g.S.Sink.held c.settle.new.out)) c.as_slice.ensures c.settle.ensures.settles)
          c.settle.ensures.counted;
    }

pub returns-in-Err-TooLong : goal.returns-in-Err-TooLong
returns-in-Err-TooLong g c =
    let task = task_of c.in-Some.command in
    let asked : g.F.Files.asked c.read_all.new.self ≡ also (c.file.result.now ∷ []) (g.F.Files.asked c.args.files.now) = rw c.in-Err-TooLong.field-0-is at c.in-Err-TooLong.ensures.asked in
    let long : IsTooLong (g.F.Files.held c.args.files.now) c.file.result.now = c.in-Err-TooLong.ensures.too_long (ap Err c.in-Err-TooLong.field-0-is) in
    record {
      ran = too_long_ran c.refuse.result _ _ _ task
          (record {
            form = c.in-Some.ensures.form;
            asked = subst (λ (n : List ℕ). g.F.Files.asked c.read_all.new.self ≡ also (n ∷ []) (g.F.Files.asked c.args.files.now)) c.file.ensures asked;
          })
          (subst (λ (n : List ℕ). IsTooLong (g.F.Files.held c.args.files.now) n) c.file.ensures long)
          (rw c.in-Err-TooLong.field-0-is at c.in-Err-TooLong.ensures.counted)
          c.refuse.ensures.put c.refuse.ensures.counted;
    }
