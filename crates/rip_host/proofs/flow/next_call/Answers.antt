use Rattle.std.proofs.Common.{◌<◌, ◌^◌, length, arith, Some, None}
use Rattle.rip_host.proofs.EventFits.{fits-reached, place-below}
use Rattle.rip_host.proofs.FlowLemmas.{next-fewer, next-plan, next-room}
use Rattle.rip_host.proofs.flow.next_call.Goals as goal

pub event_at-requires : goal.event_at-requires
event_at-requires c = place-below c.args.heap.now.pool c.args.browser.now.listeners c.stopped-stopped.result c.args.cursor.now c.next.new.self c.in-Some.place c.requires.listeners_on_nodes c.in-Some.ensures

pub returns-in-Some-clause-plan : goal.returns-in-Some-clause-plan
returns-in-Some-clause-plan c = λ item done.
    next-plan item c.args.event c.args.cursor.now c.next.new.self done c.args.heap.now c.args.browser.now c.event_at.new.self (Some c.in-Some.place) c.stopped-stopped.result
    c.stopped-stopped.ensures c.in-Some.ensures c.event_at.ensures

pub returns-in-Some-clause-fewer : goal.returns-in-Some-clause-fewer
returns-in-Some-clause-fewer c =
    let few : length c.args.browser.now.listeners.registered < 2 ^ 64 = omega (arith, c.count-count.ensures, c.count-count.type_inv) in
    next-fewer (2 ^ 64) c.args.heap.now.pool c.args.browser.now.listeners c.stopped-stopped.result c.args.cursor.now c.next.new.self c.in-Some.place few c.in-Some.ensures

pub returns-in-Some-clause-fits : goal.returns-in-Some-clause-fits
returns-in-Some-clause-fits c =
    fits-reached c.args.browser.now c.event_at.new.self c.args.heap.now c.args.event _ c.event_at.ensures c.requires
    (place-below c.args.heap.now.pool c.args.browser.now.listeners c.stopped-stopped.result c.args.cursor.now c.next.new.self c.in-Some.place c.requires.listeners_on_nodes c.in-Some.ensures)

pub returns-in-None-clause-plan : goal.returns-in-None-clause-plan
returns-in-None-clause-plan c = λ item done.
    next-plan item c.args.event c.args.cursor.now c.next.new.self done c.args.heap.now c.args.browser.now c.event_at-in-None.new.self None c.stopped-stopped.result
    c.stopped-stopped.ensures c.in-None.ensures c.event_at-in-None.ensures

pub returns-in-None-clause-fits : goal.returns-in-None-clause-fits
returns-in-None-clause-fits c = fits-reached c.args.browser.now c.event_at-in-None.new.self c.args.heap.now c.args.event None c.event_at-in-None.ensures c.requires tt

pub returns-in-Some-clause-node : goal.returns-in-Some-clause-node
returns-in-Some-clause-node c = place-below c.args.heap.now.pool c.args.browser.now.listeners c.stopped-stopped.result c.args.cursor.now c.next.new.self c.in-Some.place c.requires.listeners_on_nodes c.in-Some.ensures

pub returns-in-Some-clause-room : goal.returns-in-Some-clause-room
returns-in-Some-clause-room c = next-room c.args.heap.now.pool c.args.browser.now.listeners c.stopped-stopped.result c.args.cursor.now c.next.new.self (Some c.in-Some.place) c.in-Some.ensures

pub returns-in-None-clause-room : goal.returns-in-None-clause-room
returns-in-None-clause-room c = next-room c.args.heap.now.pool c.args.browser.now.listeners c.stopped-stopped.result c.args.cursor.now c.next.new.self None c.in-None.ensures
