use Rattle.std.proofs.Common.{arith}
use Rattle.rip_script.specs.Evaluation.{IsStarted}
use Rattle.rip_script.proofs.Evaluating.{over, ran_to_end}
use Rattle.rip_script.proofs.evaluate.evaluate.Goals as goal

pub end_of-requires : goal.end_of-requires
end_of-requires c =
    let started : IsStarted c.args.limits c.args.program.now c.begin.new.heap c.begin.new.machine = c.in-Ok.ensures in
    over _ _ c.begin.new.machine _ _ _ c.resume-turned.new.self _ _ _ (omega (arith, started.starts.2.1, c.from-fuel.ensures)) c.resume-turned.ensures.law

pub returns-in_ok-end-in-Ok : goal.returns-in_ok-end-in-Ok
returns-in_ok-end-in-Ok c =
    ran_to_end c.args.limits c.args.program.now _ _ _ c.resume-turned.new.self _ _ _ _ _ _ c.begin.ensures c.in-Ok.is c.from-fuel.ensures c.resume-turned.ensures.law c.in_ok-end-in-Ok.ensures.end
    c.spent.ensures
