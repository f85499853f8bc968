use Rattle.rip_gen.proofs.FormLemmas.{opens_so}
use Rattle.rip_gen.proofs.generate.forms.FormsOpensPageActorStore.open.Goals as goal

pub returns : goal.returns
returns c =
    opens_so c.in_ok-app.app c.args.place c.in_ok-actor.actor c.open.new.self c.args.store.now c.open.new.store c.in_ok-over.over c.in_ok-app.ensures c.in_ok-actor.ensures.0 c.in_ok-actor.ensures.1
    c.in_ok-over.ensures
