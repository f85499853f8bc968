use Rattle.std.proofs.Common.{arith, subst}
use Rattle.rip_replica.specs.declared.replica.Place.{Place}
use Rattle.rip_replica.specs.Standing.{Left, spot}
use Rattle.rip_replica.proofs.TurnLemmas.{first_busy, first_on}
use Rattle.rip_replica.proofs.replica.Replica.turn.Goals as goal

pub returns-in-First-clause-turns : goal.returns-in-First-clause-turns
returns-in-First-clause-turns g c = λ d may batch next from base spent ahead stands.
    first_busy (g.E.Evaluator.evaluation c.args.program.now) d may batch next (spot g.I.Items.item_plan g.I.Items.under_way c.args.self.now) c.args.n from base spent ahead c.in-First.is (grind (arith, c.if-n-eq0.true)) stands

pub returns-in-First-2-clause-turns : goal.returns-in-First-2-clause-turns
returns-in-First-2-clause-turns g c = λ d may batch next from base spent ahead stands.
    first_on (g.E.Evaluator.evaluation c.args.program.now) d may batch next (spot g.I.Items.item_plan g.I.Items.under_way c.args.self.now) c.args.n from base spent ahead c.in-First-2.is (grind (arith, c.if-n-eq0.false)) stands

pub returns-in-Idle-clause-turns : goal.returns-in-Idle-clause-turns
returns-in-Idle-clause-turns g c = λ d may batch next from base spent ahead stands.
    let at = spot g.I.Items.item_plan g.I.Items.under_way c.args.self.now in
    let L : Place → Type 0 = λ p. Left (g.E.Evaluator.evaluation c.args.program.now) d batch next at p base spent ahead in
    absurd (subst L c.in-Idle.is stands.left)

pub returns-in-Between-clause-turns : goal.returns-in-Between-clause-turns
returns-in-Between-clause-turns g c = c.next_item.ensures.turns c.args.program.now
