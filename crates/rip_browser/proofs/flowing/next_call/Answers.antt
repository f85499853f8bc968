use Rattle.std.proofs.Common.{◌≤◌, arith}
use Rattle.rip_browser.specs.Events.{settling}
use Rattle.rip_browser.proofs.FlowingLemmas.{calls-next, ends-settled}
use Rattle.rip_browser.proofs.flowing.next_call.Goals as goal

pub invariant_of-flow : goal.invariant_of-flow
invariant_of-flow c = record { room = omega (arith, c.args.flow.now.room, c.next_call.ensures.room) }

pub invariant_of-flow-in-None : goal.invariant_of-flow-in-None
invariant_of-flow-in-None c = record { room = omega (arith, c.args.flow.now.room, c.next_call.ensures.room) }

pub returns-in-Some-clause-plan : goal.returns-in-Some-clause-plan
returns-in-Some-clause-plan c = λ item next.
    calls-next c.args.flow.now.over c.args.flow.now.event c.args.flow.now.cursor c.next_call.new.cursor c.args.flow.now.turned item next c.args.heap.now
    c.args.browser.now c.next_call.new.browser c.in-Some.place c.if-flow.false
    (c.in-Some.ensures.plan item (settling c.args.flow.now.turned next c.args.flow.now.event))

pub returns-in-None-clause-plan : goal.returns-in-None-clause-plan
returns-in-None-clause-plan c = λ item next.
    ends-settled c.args.flow.now.over c.args.flow.now.event c.args.flow.now.cursor c.next_call.new.cursor c.args.flow.now.turned item next c.args.heap.now
    c.args.browser.now c.next_call.new.browser c.settle.new.browser c.if-flow.false
    (c.in-None.ensures.plan item (settling c.args.flow.now.turned next c.args.flow.now.event)) c.settle.ensures.settled
