use Rattle.std.proofs.Common.{◌≡◌, ◌-◌, ◌+◌, ◌∙◌, sym, ap, length, rules}
use Rattle.std.specs.Prelude.{find}
use Rattle.rip_dom.specs.declared.lists.Item.{Item}
use Rattle.rip_dom.specs.Linked.{walk}
use Rattle.rip_dom.specs.Names.{is_named}
use Rattle.rip_dom.proofs.NameLemmas.{find-start, find-here, find-on, find-none, find-end}
use Rattle.rip_dom.proofs.lists.LinkedLists.find_named.Goals as goal

pub loop-i-init : goal.loop-i-init
loop-i-init c =
    let n : c.len-i-end.result ≡ length c.self.inside.items.items = search rules in
    (n, find-start (is_named c.args.pool.now c.args.pairs.now.items c.args.name.now) c.self.inside.ends.items c.self.inside.items.items c.args.list c.len-i-end.result c.ends_at-at.result c.ends_at-at.ensures n)

pub loop-i-preserved : goal.loop-i-preserved
loop-i-preserved c = (
  c.loop-i.invariant.0,
  ap (λ (i : Item). find (is_named c.args.pool.now c.args.pairs.now.items c.args.name.now) (walk (c.len-i-end.result - (c.loop-i._i + 1)) c.self.inside.items.items i.next)) c.item_at-at.ensures
      ∙ sym (find-on (is_named c.args.pool.now c.args.pairs.now.items c.args.name.now) c.self.inside.items.items c.len-i-end.result c.loop-i._i c.in-Some.n c.loop-i.at c.loop-i-test.true c.in-Some.is (sym c.is_named.ensures ∙ c.if-is_named.false))
      ∙ c.loop-i.invariant.1,
)

pub returns-then-is_named : goal.returns-then-is_named
returns-then-is_named c =
    rw (← c.self.view_is) (sym (find-here (is_named c.args.pool.now c.args.pairs.now.items c.args.name.now) c.self.inside.items.items c.len-i-end.result c.loop-i._i c.in-Some.n c.loop-i.at c.loop-i-test.true c.in-Some.is (sym c.is_named.ensures ∙ c.if-is_named.true)) ∙ c.loop-i.invariant.1)

pub returns-in-None : goal.returns-in-None
returns-in-None c = rw (← c.self.view_is) (sym (find-none (is_named c.args.pool.now c.args.pairs.now.items c.args.name.now) c.self.inside.items.items (c.len-i-end.result - c.loop-i._i) c.loop-i.at c.in-None.is) ∙ c.loop-i.invariant.1)

pub returns : goal.returns
returns c = rw (← c.self.view_is) (sym (find-end (is_named c.args.pool.now c.args.pairs.now.items c.args.name.now) c.self.inside.items.items c.len-i-end.result c.loop-i._i c.loop-i.at c.loop-i-test.false) ∙ c.loop-i.invariant.1)
