use Rattle.rip_law_browser.proofs.KeepsCalls.{calls_stay_in_range}
use Rattle.rip_law_browser.proofs.keeping.laws.calls_stay_in_range.Goals as goal

pub returns : goal.returns
returns c = calls_stay_in_range
