use Rattle.std.proofs.Common.{◌-◌}
use Rattle.std.specs.Prelude.{slice_get}
use Rattle.rip_dom.specs.Lists.{list_at}
use Rattle.rip_dom.specs.Linked.{lists_of}
use Rattle.rip_dom.proofs.WalkLemmas.{place-start, place-more, place-none, place-end}
use Rattle.rip_dom.proofs.lists.LinkedLists.at_place.Goals as goal

pub loop-i-init : goal.loop-i-init
loop-i-init c = place-start c.self.inside.ends.items c.self.inside.items.items c.args.list c.args.place c.self.inside.limit _ _ c.ends_at-at.result c.self.invariant c.ends_at-at.ensures

pub loop-i-preserved : goal.loop-i-preserved
loop-i-preserved c = place-more c.self.inside.ends.items c.self.inside.items.items c.args.list c.args.place c.loop-i._i c.in-Some.n c.loop-i.at (slice_get (list_at (lists_of c.self.inside.ends.items c.self.inside.items.items) c.args.list) c.args.place) c.item_at-at.result c.loop-i.invariant c.loop-i-test.true c.in-Some.is c.item_at-at.ensures

pub returns-in-None : goal.returns-in-None
returns-in-None c = rw (← c.self.view_is) (place-none c.self.inside.ends.items c.self.inside.items.items c.args.list (c.args.place - c.loop-i._i) c.loop-i.at (slice_get (list_at (lists_of c.self.inside.ends.items c.self.inside.items.items) c.args.list) c.args.place) c.loop-i.invariant c.in-None.is)

pub returns : goal.returns
returns c = rw (← c.self.view_is) (place-end c.self.inside.ends.items c.self.inside.items.items c.args.list c.args.place c.loop-i._i c.loop-i.at (slice_get (list_at (lists_of c.self.inside.ends.items c.self.inside.items.items) c.args.list) c.args.place) c.loop-i.invariant c.loop-i-test.false)
