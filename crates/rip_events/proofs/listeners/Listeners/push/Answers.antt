use Rattle.std.proofs.Common.{◌≤◌, ◌∙◌, length, subst, sym, ap}
use Rattle.rip_events.specs.declared.listeners.Ends.{Ends}
use Rattle.rip_events.specs.Listed.{Listed, HasRoom}
use Rattle.rip_events.proofs.Pushed.{put, last-within}
use Rattle.rip_events.proofs.listeners.Listeners.push.Goals as goal

pub set_link-requires : goal.set_link-requires
set_link-requires c = last-within _ _ _ _ _ c.args.listener.node _ c.self.invariant.0 c.ends_at-last.ensures

pub invariant_of-self : goal.invariant_of-self
invariant_of-self c =
    let room = subst (λ (v : Listed). HasRoom v c.args.listener.node) (sym c.self.view_is) c.requires in (
      put _ _ _ _ _ _ _ _ _ _ _ c.args.listener _ _ c.self.invariant.0 c.reach.ensures.same c.reach.ensures.reached room.0
          (c.count-count.ensures.registered ∙ ap (λ (v : Listed). length v.registered) (sym c.self.view_is)) (ap (λ (e : Ends). e.last) c.ends_at-last.ensures)
          c.put_behind.ensures.put c.set_link.ensures.set c.push_reserved.ensures.items c.push_reserved-2.ensures.items c.push_reserved-3.ensures.items,
      record {
        all_reserved = subst (λ k. c.self.inside.limit ≤ k) (sym c.push_reserved-2.ensures.capacity) c.self.invariant.1.all_reserved;
        standing_reserved = subst (λ k. c.self.inside.limit ≤ k) (sym c.push_reserved-3.ensures.capacity) c.self.invariant.1.standing_reserved;
        links_reserved = subst (λ k. c.self.inside.limit ≤ k) (sym (c.push_reserved.ensures.capacity ∙ c.set_link.ensures.room)) c.self.invariant.1.links_reserved;
        ends_reserved = subst (λ k. c.self.inside.nodes ≤ k) (sym (c.put_behind.ensures.room ∙ c.reach.ensures.room)) c.self.invariant.1.ends_reserved;
      },
    )
