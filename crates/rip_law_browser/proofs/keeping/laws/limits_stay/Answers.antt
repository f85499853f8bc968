use Rattle.rip_law_browser.proofs.KeepsAnswers.{limits_stay}
use Rattle.rip_law_browser.proofs.keeping.laws.limits_stay.Goals as goal

pub returns : goal.returns
returns c = limits_stay
