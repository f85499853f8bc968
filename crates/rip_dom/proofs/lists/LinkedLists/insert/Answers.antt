use Rattle.std.proofs.Common.{◌≡◌, ◌∙◌, ◌<◌, length, None, Some, sym, subst}
use Rattle.std.specs.Prelude.{IfSome}
use Rattle.rip_dom.specs.Lists.{Lists, owner_at}
use Rattle.rip_dom.proofs.Calls.{item-inserted, front-is-within, same-view}
use Rattle.rip_dom.proofs.lists.LinkedLists.insert.Goals as goal

pub join-requires-clause-front : goal.join-requires-clause-front
join-requires-clause-front c =
    let at = subst (λ (v : Lists). IfSome c.args.at (λ r. owner_at v.owners r ≡ Some c.args.list)) (sym c.self.view_is) c.requires.at in
    front-is-within _ _ c.args.list c.args.at _ _ _ _ c.self.invariant at c.in_front-front.ensures

pub invariant_of-self : goal.invariant_of-self
invariant_of-self c =
    let list = subst (λ (v : Lists). c.args.list < length v.lists) (sym c.self.view_is) c.requires.list in
    let item = subst (λ (v : Lists). c.args.item < length v.owners) (sym c.self.view_is) c.requires.item in
    let free = subst (λ (v : Lists). owner_at v.owners c.args.item ≡ None) (sym c.self.view_is) c.requires.free in
    let at = subst (λ (v : Lists). IfSome c.args.at (λ r. owner_at v.owners r ≡ Some c.args.list)) (sym c.self.view_is) c.requires.at in
    (item-inserted _ _ _ _ _ _ _ c.args.list c.args.item c.args.at _ _ _ _ _ _ c.self.invariant list item free at c.in_front-front.ensures
    c.join.ensures.ends c.join.ensures.items c.join-2.ensures.ends c.join-2.ensures.items c.set_owner.ensures.set
    (c.join-2.ensures.ends_room ∙ c.join.ensures.ends_room) (c.set_owner.ensures.room ∙ c.join-2.ensures.items_room ∙ c.join.ensures.items_room)).are

pub returns : goal.returns
returns c =
    let list = subst (λ (v : Lists). c.args.list < length v.lists) (sym c.self.view_is) c.requires.list in
    let item = subst (λ (v : Lists). c.args.item < length v.owners) (sym c.self.view_is) c.requires.item in
    let free = subst (λ (v : Lists). owner_at v.owners c.args.item ≡ None) (sym c.self.view_is) c.requires.free in
    let at = subst (λ (v : Lists). IfSome c.args.at (λ r. owner_at v.owners r ≡ Some c.args.list)) (sym c.self.view_is) c.requires.at in
    let s = item-inserted _ _ _ _ _ _ _ c.args.list c.args.item c.args.at _ _ _ _ _ _ c.self.invariant list item free at c.in_front-front.ensures
    c.join.ensures.ends c.join.ensures.items c.join-2.ensures.ends c.join-2.ensures.items c.set_owner.ensures.set
    (c.join-2.ensures.ends_room ∙ c.join.ensures.ends_room) (c.set_owner.ensures.room ∙ c.join-2.ensures.items_room ∙ c.join.ensures.items_room) in
    rw (← c.self.view_is) (same-view _ _ _ _ _ s.lists s.owners)
