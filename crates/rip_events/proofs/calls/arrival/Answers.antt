use Rattle.std.proofs.Common.{◌<◌, length, ◌∙◌, ap, refl, rules}
use Rattle.std.proofs.lemmas.Option.{slice_get_read}
use Rattle.rip_events.specs.Flow.{called_at}
use Rattle.rip_events.proofs.Steps.{arrives}
use Rattle.rip_events.proofs.calls.arrival.Goals as goal

pub returns-in-Some-clause-next : goal.returns-in-Some-clause-next
returns-in-Some-clause-next c =
    let inside : c.loop-i.i < length c.args.stations.now.items = search rules in (
      c.loop-i.invariant.1
          ∙ arrives c.args.pool.now c.args.kind c.args.all.now c.args.stations.now.items c.index-station.result.now c.loop-i.i c.in-Some.n c.called_at.result inside c.index-station.ensures
          (c.called_at.ensures.called ∙ ap (λ m. called_at c.args.pool.now c.args.kind c.args.all.now 0 m c.index-station.result.now) c.count-count.ensures.registered) c.in-Some.is,
      slice_get_read c.args.stations.now.items (length c.args.stations.now.items) c.loop-i.i c.index-station.result.now refl inside c.index-station.ensures,
    )
