use Rattle.rip_gen.specs.Form.{IsForm}
use Rattle.rip_gen.proofs.generate.page.load_form.Goals as goal

pub returns-in-Ok : goal.returns-in-Ok
unfolding IsForm
returns-in-Ok c = c.in-Ok.ensures.loaded
