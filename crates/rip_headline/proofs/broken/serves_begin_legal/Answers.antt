use Rattle.rip_headline.proofs.Begins.{serves_begin_legal}
use Rattle.rip_headline.proofs.broken.serves_begin_legal.Goals as goal

pub returns : goal.returns
returns c = serves_begin_legal
