use Rattle.rip_dom.proofs.Calls.{items-listed}
use Rattle.rip_dom.proofs.lists.LinkedLists.are_listed.Goals as goal

pub returns : goal.returns
returns c = rw (← c.self.view_is) (items-listed c.self.inside.ends.items c.self.inside.items.items c.self.inside.limit _ _ c.self.invariant)
