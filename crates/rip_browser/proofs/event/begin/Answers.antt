use Rattle.std.proofs.Common.{◌<◌, ◌^◌, length, arith}
use Rattle.rip_browser.proofs.StepLemmas.{few-begun}
use Rattle.rip_browser.proofs.event.begin.Goals as goal

pub returns-clause-steps : goal.returns-clause-steps
returns-clause-steps c =
    let few : length c.args.browser.now.dom.nodes < 2 ^ 32 = omega (arith, c.made-made.ensures.made, c.made-made.type_inv) in
    few-begun c.args.browser.now.dom c.span-kind.result c.args.report.now.node c.bubbles-bubbling.result c.args.flow.now.cursor c.begin.new.self few c.begin.ensures
