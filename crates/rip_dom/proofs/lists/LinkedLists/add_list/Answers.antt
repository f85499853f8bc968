use Rattle.std.proofs.Common.{length, ◌<◌, subst, sym}
use Rattle.rip_dom.specs.Lists.{Lists}
use Rattle.rip_dom.proofs.Calls.{list-added, same-view}
use Rattle.rip_dom.proofs.lists.LinkedLists.add_list.Goals as goal

pub invariant_of-self : goal.invariant_of-self
invariant_of-self c =
    let few = subst (λ (v : Lists). length v.lists < v.limit) (sym c.self.view_is) c.requires in
    (list-added _ _ _ _ _ _ _ c.self.invariant c.push_reserved.ensures.items c.push_reserved.ensures.capacity few).are

pub returns : goal.returns
returns c =
    let few = subst (λ (v : Lists). length v.lists < v.limit) (sym c.self.view_is) c.requires in
    let s = list-added _ _ _ _ _ _ _ c.self.invariant c.push_reserved.ensures.items c.push_reserved.ensures.capacity few in
    rw (← c.self.view_is) (same-view _ _ _ _ _ s.lists s.owners)
