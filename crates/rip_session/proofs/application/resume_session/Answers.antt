use Rattle.std.proofs.Common.{sym, subst, true≢false}
use Rattle.rip_tree.specs.Program.{Code}
use Rattle.rip_machine.specs.Plans.{evaluation}
use Rattle.rip_host.specs.Answers.{answers}
use Rattle.rip_session.specs.Application.{doing_of}
use Rattle.rip_law_replica.specs.AtStage.{IsAtStage}
use Rattle.rip_session.specs.declared.work.items.PageItems.{PageItems}
use Rattle.rip_session.specs.Plans.{left_of_work, work_plan}
use Rattle.rip_session.specs.Serving.{may_serve}
use Rattle.rip_session.proofs.SessionLemmas.{done_by, of_nodes, resume_stands, roomed_at, served-stays}
use Rattle.rip_session.proofs.Staying.{steps_stay}
use Rattle.rip_session.proofs.application.resume_session.Goals as goal

pub returns-clause-resumed : goal.returns-clause-resumed
returns-clause-resumed g c = λ st replies calls at undone served.
    let code = c.program-program.result.now in
    resume_stands c.args.app.now code st replies calls c.args.slice.now c.args.made.now c.resume-progress.new.made c.resume-progress.result
    c.args.session.now.replica c.resume-progress.new.replica (g.V.Service.replies_as c.resume-progress.new.service replies) c.program-program.ensures
    (λ x y. c.resume-progress.ensures.resumed (doing_of c.args.app.now) st replies calls (done_by c.args.app.now) x y served
    (roomed_at c.args.app.now code st c.args.session.now.replica c.program-program.ensures at undone (λ h. absurd (true≢false (sym h)))))
    (record {
      rooms = λ rooms.
          c.resume-progress.ensures.rooms (record { steps = steps_stay of_nodes code; served = served-stays of_nodes; never = λ h. absurd (true≢false (sym h)); rooms = rooms });
      number = c.resume-progress.ensures.page;
      depth = λ x y nests within.
          c.resume-progress.ensures.depth (doing_of c.args.app.now) st replies calls c.args.app.now.manifest.limits.depth (done_by c.args.app.now) x y served nests within;
      passes = record { nodes = c.is_page_within.ensures.nodes; waiting = c.is_page_within.ensures.waiting; replies = c.is_page_within.ensures.replies };
    })
    c.resume-progress.ensures.grows c.is_within.ensures.cells c.is_within.ensures.units at undone

pub returns-clause-memory : goal.returns-clause-memory
returns-clause-memory g c = λ st replies calls at undone served.
    let app = c.args.app.now in
    let code = c.program-program.result.now in
    let A : Code → Type 0 = λ p. IsAtStage (evaluation answers p) (doing_of app) (λ (items : PageItems). work_plan items.batches.batch) left_of_work may_serve c.args.session.now.replica st in
    c.resume-progress.ensures.memory (doing_of app) st replies calls (done_by app) (subst A (sym c.program-program.ensures) at.stage) undone served
    (roomed_at app code st c.args.session.now.replica c.program-program.ensures at undone (λ h. absurd (true≢false (sym h))))
