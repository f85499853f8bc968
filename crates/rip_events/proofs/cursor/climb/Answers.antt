use Rattle.std.proofs.Common.{◌≡◌, ◌+◌, ◌-◌, length, ◌∙◌, sym, ap}
use Rattle.std.proofs.lemmas.List.{length_push}
use Rattle.rip_events.proofs.Climbs.{climbs, climbed, sums}
use Rattle.rip_events.proofs.cursor.climb.Goals as goal

pub returns-in-None-clause-put : goal.returns-in-None-clause-put
returns-in-None-clause-put c =
    sym (climbed c.args.dom.now c.args.phase c.loop-i.stations.items (c.made-i-end.result - c.loop-i._i) c.loop-i.at c.in-None.is) ∙ c.loop-i.invariant.1

pub loop-i-preserved : goal.loop-i-preserved
loop-i-preserved c =
    let count : length c.push_reserved.new.self.items ≡ length c.args.stations.now.items + (c.loop-i._i + 1) = ap length c.push_reserved.ensures.items ∙ length_push c.loop-i.stations.items _ ∙ ap (λ k. k + 1) c.loop-i.invariant.2 ∙ sums (length c.args.stations.now.items) c.loop-i._i in (
      c.loop-i.invariant.0,
      climbs c.args.dom.now c.args.phase c.loop-i.stations.items c.push_reserved.new.self.items c.made-i-end.result c.loop-i._i c.in-Some.n c.loop-i.at c.parent-at-in-Some.result c.loop-i-test.true c.in-Some.is c.push_reserved.ensures.items c.parent-at-in-Some.ensures
          ∙ c.loop-i.invariant.1,
      count,
      c.push_reserved.ensures.capacity ∙ c.loop-i.invariant.3,
    )
