use Rattle.rip_forms.proofs.LawLemmas.{clicks-undone}
use Rattle.rip_forms.proofs.laws.clicks_are_undone.Goals as goal

pub returns : goal.returns
returns c = clicks-undone
