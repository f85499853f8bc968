use Rattle.std.proofs.Common.{refl}
use Rattle.rip_browser.proofs.OpeningLemmas.{load-refused, load-unmade}
use Rattle.rip_browser.proofs.opening.StartItems.load_step.Goals as goal

pub returns-in-Err-Limit-clause-plan : goal.returns-in-Err-Limit-clause-plan
returns-in-Err-Limit-clause-plan c = λ start.
    load-refused c.begin_load.result c.in-Err-Limit.field-0 c.in-Err-Limit.limit c.args.browser.now.body c.args.number c.in-Some.body c.args.heap.now c.begin_load.new.heap
    c.args.browser.now c.begin_load.new.browser c.begin_load.new.self c.in-Err-Limit.is c.in-Err-Limit.field-0-is c.in-Some.is (c.begin_load.ensures.plan c.args.number)

pub returns-in-Err-Memory-clause-memory : goal.returns-in-Err-Memory-clause-memory
returns-in-Err-Memory-clause-memory c =
    let h = load-unmade c.begin_load.result c.in-Err-Memory.field-0 c.args.number c.in-Some.body c.args.heap.now c.begin_load.new.heap
    c.args.browser.now c.begin_load.new.browser c.begin_load.new.self c.in-Err-Memory.is c.in-Err-Memory.field-0-is (c.begin_load.ensures.plan c.args.number) in
    (refl, h.0, h.1)
