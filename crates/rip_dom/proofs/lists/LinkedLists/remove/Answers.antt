use Rattle.std.proofs.Common.{◌∙◌}
use Rattle.rip_dom.proofs.Calls.{item-removed, item-not-removed, owner-list, item-front, item-behind, same-view}
use Rattle.rip_dom.proofs.lists.LinkedLists.remove.Goals as goal

pub join-requires-clause-list : goal.join-requires-clause-list
join-requires-clause-list c = owner-list _ _ c.args.item _ _ _ _ _ c.self.invariant c.item_at-found.ensures c.in-Some.is

pub join-requires-clause-front : goal.join-requires-clause-front
join-requires-clause-front c = item-front _ _ c.args.item _ _ _ _ _ c.self.invariant c.item_at-found.ensures c.in-Some.is

pub join-requires-clause-behind : goal.join-requires-clause-behind
join-requires-clause-behind c = item-behind _ _ c.args.item _ _ _ _ _ c.self.invariant c.item_at-found.ensures c.in-Some.is

pub invariant_of-self : goal.invariant_of-self
invariant_of-self c =
    (item-removed _ _ _ _ _ c.args.item _ _ _ _ _ _ _ c.self.invariant c.item_at-found.ensures c.in-Some.is c.join.ensures.ends c.join.ensures.items c.set_owner.ensures.set
    c.join.ensures.ends_room (c.set_owner.ensures.room ∙ c.join.ensures.items_room)).are

pub returns-in-Some : goal.returns-in-Some
returns-in-Some c =
    let s = item-removed _ _ _ _ _ c.args.item _ _ _ _ _ _ _ c.self.invariant c.item_at-found.ensures c.in-Some.is c.join.ensures.ends c.join.ensures.items c.set_owner.ensures.set
    c.join.ensures.ends_room (c.set_owner.ensures.room ∙ c.join.ensures.items_room) in
    rw (← c.self.view_is) (same-view _ _ _ _ _ s.lists s.owners)

pub returns-in-None : goal.returns-in-None
returns-in-None c = rw (← c.self.view_is) (item-not-removed _ _ c.args.item _ _ _ _ c.self.invariant c.item_at-found.ensures c.in-None.is)
