use Rattle.rip_headline.proofs.Ended.{pages_have_limits}
use Rattle.rip_headline.proofs.pages.pages_have_limits.Goals as goal

pub returns : goal.returns
returns c = pages_have_limits
