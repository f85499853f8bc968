use Rattle.rip_drive.specs.Actors.{page_session}
use Rattle.rip_gen.specs.Forms.{GivesForm, IsTraceOfForm, OpensForm}
use Rattle.rip_gen.specs.Work.{AreLinesOf}
use Rattle.rip_gen.specs.Working.{sessions_by}
use Rattle.rip_gen.proofs.FormLemmas.{trace_so}
use Rattle.rip_gen.proofs.Results.{on_ok}
use Rattle.rip_gen.proofs.generate.forms.trace_of.Goals as goal

pub returns : goal.returns
returns c =
    on_ok (AreLinesOf (sessions_by page_session OpensForm GivesForm) c.args.plan.now) (IsTraceOfForm c.args.plan.now) c.lines_of.result (λ text are. trace_so c.args.plan.now text are) c.lines_of.ensures
