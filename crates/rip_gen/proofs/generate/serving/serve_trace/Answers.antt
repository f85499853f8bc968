use Rattle.std.proofs.Common.{refl}
use Rattle.rip_gen.specs.Served.{told_by}
use Rattle.rip_gen.proofs.ServeLemmas.{log_of}
use Rattle.rip_gen.proofs.generate.serving.serve_trace.Goals as goal

pub returns-in-Idle : goal.returns-in-Idle
returns-in-Idle c =
    let n = c.serve_app.new in
    let b = c.in_ok-brought.brought in
    log_of c.args.app.now c.args.trace.now (told_by b.door b.clock b.words b.sink) (told_by n.door n.clock n.random n.out) n.out.bytes n.door.told c.in_ok-how.how
    c.in_ok-brought.ensures c.in-Idle.is c.in_ok-how.ensures.served refl refl
