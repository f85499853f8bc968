use Rattle.std.proofs.Common.{◌∙◌, ℕ, List, None, false, refl, sym, ap}
use Rattle.std.specs.Prelude.{Ok}
use Rattle.rip_log.specs.Entries.{done, entry_text}
use Rattle.rip_outer.proofs.Composing.{Front-whole}
use Rattle.rip_history.specs.Answering.{batch_answer}
use Rattle.rip_server.specs.Acts.{seen}
use Rattle.rip_server.specs.Links.{there_of}
use Rattle.rip_server.proofs.TellLemmas.{answered_so, answered_err, answered_not}
use Rattle.rip_server.proofs.turn.advance.finish.Goals as goal

pub returns-in_err-put_entry-clause-finished : goal.returns-in_err-put_entry-clause-finished
returns-in_err-put_entry-clause-finished g c = λ site limit h page kept so.
    answered_not site c.args.turn c.args.done.session c.args.done.batch c.args.done.how h c.from_residual.result _ _ _ _ c.from_residual.ensures.0 c.in_err-put_entry.ensures.put

pub returns-in_err-answer-clause-finished : goal.returns-in_err-answer-clause-finished
returns-in_err-answer-clause-finished g c = λ site limit h page kept so.
    answered_not site c.args.turn c.args.done.session c.args.done.batch c.args.done.how h c.from_residual-in_err-answer.result _ _ _ _ c.from_residual-in_err-answer.ensures.0
    (Front-whole (entry_text (done c.args.turn c.args.done.session c.args.done.batch c.args.done.how)) _ _ c.in_ok-put_entry.ensures.put)

pub returns-in_err-answer-2-clause-finished : goal.returns-in_err-answer-2-clause-finished
returns-in_err-answer-2-clause-finished g c = λ site limit h page kept so.
    let there = there_of c.args.connections.now.list.items in
    let same =
    c.in_ok-answer.ensures limit h c.args.done.how kept so c.reason_in-ended.ensures
    ∙ ap (λ (p : List ℕ). batch_answer p c.args.done.session c.args.done.batch c.args.done.how h false) (sym page) in
    answered_err site c.args.turn c.args.done.session c.args.done.batch c.args.done.how h c.from_residual-in_err-answer-2.result there (there_of c.answer.new.self.list.items)
    (seen (g.D.Door.sent c.args.door.now) (g.D.Door.knocks c.args.door.now) (g.D.Door.shuts c.args.door.now) (g.D.Door.asked c.args.door.now) (g.K.Sink.held c.args.out.now))
    (seen (g.D.Door.sent c.args.door.now) (g.D.Door.knocks c.args.door.now) (g.D.Door.shuts c.args.door.now) (g.D.Door.asked c.args.door.now) None)
    (seen (g.D.Door.sent c.answer.new.door) (g.D.Door.knocks c.answer.new.door) (g.D.Door.shuts c.answer.new.door) (g.D.Door.asked c.answer.new.door) None)
    (g.K.Sink.held c.put_entry.new.out) c.in_ok-answer.answer c.from_residual-in_err-answer-2.ensures.0 c.in_err-answer-2.ensures.acted same c.in_ok-put_entry.ensures.put refl

pub returns-clause-finished : goal.returns-clause-finished
returns-clause-finished g c = λ site limit h page kept so.
    let there = there_of c.args.connections.now.list.items in
    let same =
    c.in_ok-answer.ensures limit h c.args.done.how kept so c.reason_in-ended.ensures
    ∙ ap (λ (p : List ℕ). batch_answer p c.args.done.session c.args.done.batch c.args.done.how h false) (sym page) in
    answered_so site c.args.turn c.args.done.session c.args.done.batch c.args.done.how h (Ok tt) c.in_ok-answer-2.field-0 there (there_of c.answer.new.self.list.items)
    (seen (g.D.Door.sent c.args.door.now) (g.D.Door.knocks c.args.door.now) (g.D.Door.shuts c.args.door.now) (g.D.Door.asked c.args.door.now) (g.K.Sink.held c.args.out.now))
    (seen (g.D.Door.sent c.args.door.now) (g.D.Door.knocks c.args.door.now) (g.D.Door.shuts c.args.door.now) (g.D.Door.asked c.args.door.now) None)
    (seen (g.D.Door.sent c.answer.new.door) (g.D.Door.knocks c.answer.new.door) (g.D.Door.shuts c.answer.new.door) (g.D.Door.asked c.answer.new.door) None)
    (g.K.Sink.held c.put_entry.new.out) c.in_ok-answer.answer refl c.in_ok-answer-2.ensures.after c.in_ok-answer-2.ensures.acted same c.in_ok-put_entry.ensures.put refl
