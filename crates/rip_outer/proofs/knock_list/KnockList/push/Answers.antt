use Rattle.std.proofs.Common.{◌≡◌, ap, ◌∙◌, sym, subst, map, true}
use Rattle.rip_outer.specs.Connections.{knocked}
use Rattle.rip_outer.specs.KnockLists.{MayFollow, allows}
use Rattle.rip_outer.proofs.Marks.{follows_allowed, allowed_follows, marks_more, reaches}
use Rattle.rip_outer.proofs.knock_list.KnockList.push.Goals as goal

pub returns-then-not-may_follow-clause-refused : goal.returns-then-not-may_follow-clause-refused
returns-then-not-may_follow-clause-refused c = λ e m.
    let i = c.self.inside in
    let old = subst (λ ks. MayFollow (map knocked ks) c.args.knock) (sym c.self.view_is) m in
    let allowed = allowed_follows i.knocks.items i.gone.items c.args.knock c.self.invariant old in
    let t : c.may_follow.result ≡ true = c.may_follow.ensures ∙ ap (λ marks. allows marks c.args.knock) c.deref.ensures.value ∙ allowed in
    cc (c.if-not-may_follow.true, t)

pub mark-requires-clause-opened : goal.mark-requires-clause-opened
mark-requires-clause-opened c =
    let i = c.self.inside in
    let e : allows i.gone.items c.args.knock ≡ true = cc (c.may_follow.ensures, c.deref.ensures.value, c.if-not-may_follow.false) in
    rw c.reserve-else-is_err.ensures.items (reaches i.gone.items c.args.knock e)

pub invariant_of-self-2 : goal.invariant_of-self-2
invariant_of-self-2 c =
    let i = c.self.inside in
    let e : allows i.gone.items c.args.knock ≡ true = cc (c.may_follow.ensures, c.deref.ensures.value, c.if-not-may_follow.false) in
    rw (c.push_reserved.ensures.items, c.reserve.ensures.items, c.mark.ensures, c.reserve-else-is_err.ensures.items)
    (marks_more i.knocks.items i.gone.items c.args.knock c.self.invariant (follows_allowed i.knocks.items i.gone.items c.args.knock c.self.invariant e))

pub returns-clause-allowed : goal.returns-clause-allowed
returns-clause-allowed c =
    let i = c.self.inside in
    let e : allows i.gone.items c.args.knock ≡ true = cc (c.may_follow.ensures, c.deref.ensures.value, c.if-not-may_follow.false) in
    subst (λ ks. MayFollow (map knocked ks) c.args.knock) c.self.view_is (follows_allowed i.knocks.items i.gone.items c.args.knock c.self.invariant e)
