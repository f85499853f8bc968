use Rattle.std.proofs.Common.{length, ◌<◌, subst, sym}
use Rattle.rip_dom.specs.Lists.{Lists}
use Rattle.rip_dom.proofs.Calls.{item-added, items-known, same-view}
use Rattle.rip_dom.proofs.lists.LinkedLists.add_item.Goals as goal

pub invariant_of-self : goal.invariant_of-self
invariant_of-self c =
    let few = subst (λ (v : Lists). length v.owners < v.limit) (sym c.self.view_is) c.requires in
    (item-added _ _ _ _ _ _ _ c.self.invariant c.push_reserved.ensures.items c.push_reserved.ensures.capacity few).are

pub returns-clause-more : goal.returns-clause-more
returns-clause-more c =
    let few = subst (λ (v : Lists). length v.owners < v.limit) (sym c.self.view_is) c.requires in
    let s = item-added _ _ _ _ _ _ _ c.self.invariant c.push_reserved.ensures.items c.push_reserved.ensures.capacity few in
    rw (← c.self.view_is) (same-view _ _ _ _ _ s.lists s.owners)

pub returns-clause-known : goal.returns-clause-known
returns-clause-known c = rw (← c.self.view_is) (items-known c.self.inside.ends.items c.self.inside.items.items c.self.inside.limit _ _ c.self.invariant)
