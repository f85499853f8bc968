use Rattle.rip_dom.proofs.OrderLemmas.{way-from}
use Rattle.rip_dom.proofs.dom.Dom.steps_go_in_order.Goals as goal

pub returns : goal.returns
returns c = λ r. way-from c.args.self.now r c.grows.ensures
