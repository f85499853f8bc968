use Rattle.rip_headline.proofs.Rises.{applications_rise}
use Rattle.rip_headline.proofs.broken.applications_rise.Goals as goal

pub returns : goal.returns
returns c = applications_rise
