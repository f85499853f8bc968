use Rattle.std.proofs.Common.{arith}
use Rattle.rip_events.specs.Listed.{HasRoom}
use Rattle.rip_host.proofs.browser.Browser.register.Goals as goal

pub returns-in-Err-Memory-clause-answer : goal.returns-in-Err-Memory-clause-answer
returns-in-Err-Memory-clause-answer c =
    let f = c.requires.fits in
    let room : HasRoom c.args.self.now.listeners c.args.node =
    (omega (arith, f.listeners_charged, f.listener_room, c.free_cells-free.ensures.within), omega (arith, c.requires.node, c.made-made.ensures.within, f.listener_nodes)) in
    let refused = rw c.in-Err-Memory.field-0-is at c.in-Err-Memory.ensures.registers in
    absurd (refused.1 room)

pub returns-in-Err-Memory-clause-keeps : goal.returns-in-Err-Memory-clause-keeps
returns-in-Err-Memory-clause-keeps c =
    let f = c.requires.fits in
    let room : HasRoom c.args.self.now.listeners c.args.node =
    (omega (arith, f.listeners_charged, f.listener_room, c.free_cells-free.ensures.within), omega (arith, c.requires.node, c.made-made.ensures.within, f.listener_nodes)) in
    let refused = rw c.in-Err-Memory.field-0-is at c.in-Err-Memory.ensures.registers in
    absurd (refused.1 room)
