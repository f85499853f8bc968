use Rattle.std.proofs.Common.{◌≡◌, ◌<◌, ◌≤◌, length, arith}
use Rattle.rip_replica.specs.Standing.{spot}
use Rattle.rip_replica.proofs.TurnLemmas.{between_busy, between_done}
use Rattle.rip_replica.proofs.WithinLemmas.{item_begun}
use Rattle.rip_replica.proofs.replica.Replica.next_item.Goals as goal

pub returns-then-self-len-clause-turns : goal.returns-then-self-len-clause-turns
returns-then-self-len-clause-turns g c = λ program d may batch next from base spent ahead stands.
    let all : length c.args.self.now.runner.planner.batch.items ≤ c.args.self.now.runner.planner.begun = omega (arith, c.len.ensures, c.if-self-len.true) in
    between_done (g.E.Evaluator.evaluation program) d may batch next (spot g.I.Items.item_plan g.I.Items.under_way c.args.self.now) c.args.n from base spent ahead c.requires all stands

pub returns-then-n-eq0-clause-turns : goal.returns-then-n-eq0-clause-turns
returns-then-n-eq0-clause-turns g c = λ program d may batch next from base spent ahead stands.
    let less : c.args.self.now.runner.planner.begun < length c.args.self.now.runner.planner.batch.items = omega (arith, c.len.ensures, c.if-self-len.false) in
    let none : c.args.n ≡ 0 = grind (arith, c.if-n-eq0.true) in
    between_busy (g.E.Evaluator.evaluation program) d may batch next (spot g.I.Items.item_plan g.I.Items.under_way c.args.self.now) c.args.n from base spent ahead c.requires less none stands

pub returns-clause-turns : goal.returns-clause-turns
returns-clause-turns g c = λ program d may batch next from base spent ahead stands.
    let less : c.args.self.now.runner.planner.begun < length c.args.self.now.runner.planner.batch.items = omega (arith, c.len.ensures, c.if-self-len.false) in
    let some : 1 ≤ c.args.n = grind (arith, c.if-n-eq0.false) in
    item_begun (g.E.Evaluator.evaluation program) d may batch next (spot g.I.Items.item_plan g.I.Items.under_way c.args.self.now) c.args.n from base spent ahead
    (g.I.Items.item_plan c.begin.new.self) (g.I.Items.under_way c.begin.new.self) c.requires less some c.begin.ensures.item_plan c.begin.ensures.under_way stands
