use Rattle.std.proofs.Common.{◌<◌, ◌^◌, length, arith}
use Rattle.rip_browser.proofs.StepLemmas.{few-begun}
use Rattle.rip_browser.proofs.flow.Flow.begin_load.Goals as goal

pub returns-in-Ok-clause-steps : goal.returns-in-Ok-clause-steps
returns-in-Ok-clause-steps c =
    let few : length c.open_event.new.self.dom.nodes < 2 ^ 32 = omega (arith, c.made-made.ensures.made, c.made-made.type_inv) in
    few-begun c.open_event.new.self.dom c.span-kind.result c.args.body c.bubbles-bubbling.result c.args.self.now.cursor c.begin.new.self few c.begin.ensures
