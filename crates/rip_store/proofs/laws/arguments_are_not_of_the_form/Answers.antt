use Rattle.rip_store.proofs.ErrorLemmas.{arguments_are_not_of_the_form}
use Rattle.rip_store.proofs.laws.arguments_are_not_of_the_form.Goals as goal

pub returns : goal.returns
returns c = arguments_are_not_of_the_form
