use Rattle.rip_law_browser.proofs.CountingLemmas.{counts}
use Rattle.rip_law_browser.proofs.counting.laws.machines_count.Goals as goal

pub returns : goal.returns
returns g c = λ h code m. counts h code m
