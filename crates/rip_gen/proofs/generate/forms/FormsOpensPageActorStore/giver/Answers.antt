use Rattle.rip_gen.proofs.FormLemmas.{gives_so}
use Rattle.rip_gen.proofs.generate.forms.FormsOpensPageActorStore.giver.Goals as goal

pub returns : goal.returns
returns c = gives_so c.in_ok-app.app c.functions.result.now c.make.result c.in_ok-app.ensures c.functions.ensures c.make.ensures.functions c.make.ensures.empty c.make.ensures.kept
