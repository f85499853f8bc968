use Rattle.rip_store.proofs.LawLemmas.{put_is_got}
use Rattle.rip_store.proofs.laws.put_is_got.Goals as goal

pub returns : goal.returns
returns c = put_is_got
