use Rattle.rip_dom.proofs.Calls.{item-next, item-alone}
use Rattle.rip_dom.proofs.lists.LinkedLists.next.Goals as goal

pub returns-in-Some : goal.returns-in-Some
returns-in-Some c = rw (← c.self.view_is) (item-next _ _ _ _ _ c.args.item _ _ c.self.invariant c.item_at-found.ensures c.in-Some.is)

pub returns-in-None : goal.returns-in-None
returns-in-None c = rw (← c.self.view_is) (item-alone _ c.args.item _ _ c.item_at-found.ensures c.in-None.is)
