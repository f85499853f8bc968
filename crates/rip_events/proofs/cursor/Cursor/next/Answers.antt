use Rattle.std.proofs.Common.{◌≡◌, ◌+◌, drop, None, Some, refl, sym, ap, ◌∙◌}
use Rattle.rip_values.specs.Pool.{Texts}
use Rattle.rip_events.specs.declared.station.Place.{Place}
use Rattle.rip_events.specs.Flow.{Course, called_here, next_arrival, next_call}
use Rattle.rip_events.specs.Reached.{last_of}
use Rattle.rip_events.proofs.Steps.{goes}
use Rattle.rip_events.proofs.cursor.Cursor.next.Goals as goal

pub returns-in-Some-arrival : goal.returns-in-Some-arrival
returns-in-Some-arrival c =
    let S = c.self.inside.stations.items in
    let v : Course = record { nodes = c.self.inside.nodes; kind = c.self.inside.kind; here = last_of S c.self.inside.reached; ahead = drop c.self.inside.reached S; next = c.self.inside.next; mark = c.self.inside.mark } in
    let u : Course = c.args.self.now in
    let a = c.in-Some-arrival in
    let none : called_here c.args.heap.now.pool v.kind c.args.all.now v.next v.mark v.here ≡ None =
    ap (λ (u : Course). called_here c.args.heap.now.pool u.kind c.args.all.now u.next u.mark u.here) c.self.view_is
    ∙ ap (λ (p : Texts). called_here p u.kind c.args.all.now u.next u.mark u.here) (sym c.pool.ensures) ∙ sym c.next_here.ensures.next ∙ c.in-None.is in
    ap (λ (p : Place). (Some p, record v { here = last_of S (a.i + 1); ahead = drop (a.i + 1) S; next = a.n + 1; mark = c.count-count.result })) c.call_at-in-Some-arrival.ensures
    ∙ goes c.args.heap.now.pool c.args.all.now c.args.stopped v S c.self.inside.reached a.i a.n c.count-count.result a.station none c.if-not-stopped.true refl
    (ap (λ (p : Texts). next_arrival p v.kind c.args.all.now (drop c.self.inside.reached S)) (sym c.pool-then-not-stopped.ensures) ∙ a.ensures.next.0) a.ensures.next.1 c.count-count.ensures.registered
    ∙ ap (next_call c.args.heap.now.pool c.args.all.now c.args.stopped) c.self.view_is
