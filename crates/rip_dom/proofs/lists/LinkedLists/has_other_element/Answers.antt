use Rattle.std.proofs.Common.{◌≡◌, ◌-◌, ◌+◌, ◌∙◌, sym, ap, length, rules}
use Rattle.std.specs.List.{list_any}
use Rattle.rip_dom.specs.declared.lists.Item.{Item}
use Rattle.rip_dom.specs.Linked.{walk}
use Rattle.rip_dom.specs.Walks.{is_other_element}
use Rattle.rip_dom.proofs.WalkLemmas.{walk-start, walk-step}
use Rattle.rip_dom.proofs.lists.LinkedLists.has_other_element.Goals as goal

pub loop-i-init : goal.loop-i-init
loop-i-init c =
    let n : c.len-i-end.result ≡ length c.self.inside.items.items = search rules in (
      n,
      walk-start (is_other_element c.args.records.now.items c.args.child c.args.old) c.self.inside.ends.items c.self.inside.items.items c.args.list c.len-i-end.result c.ends_at-at.result c.ends_at-at.ensures n,
    )

pub loop-i-preserved : goal.loop-i-preserved
loop-i-preserved c = (
  c.loop-i.invariant.0,
  ap (λ (i : Item). list_any (is_other_element c.args.records.now.items c.args.child c.args.old) (walk (c.len-i-end.result - (c.loop-i._i + 1)) c.self.inside.items.items i.next)) c.item_at-at.ensures
      ∙ sym (walk-step (is_other_element c.args.records.now.items c.args.child c.args.old) c.self.inside.items.items c.len-i-end.result c.loop-i._i c.in-Some.n c.loop-i.at
      c.loop-i-test.true c.in-Some.is (sym c.is_other_element.ensures ∙ c.if-is_other_element.false))
      ∙ c.loop-i.invariant.1,
)
