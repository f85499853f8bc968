use Rattle.std.proofs.Common.{ap, subst, sym}
use Rattle.rip_replica.specs.Going.{going}
use Rattle.rip_replica.specs.declared.replica.Place.{Place}
use Rattle.rip_replica.specs.declared.replica.Place.TheVariants.{Idle}
use Rattle.rip_replica.specs.declared.replica.Turn.{Turn}
use Rattle.rip_replica.specs.declared.replica.Turn.TheVariants.{Busy, Calls, Lacks}
use Rattle.rip_replica.specs.Numbers.{HasNumber, StandsIdle}
use Rattle.rip_replica.specs.Rooms.{HasNoLack}
use Rattle.rip_replica.specs.Standing.{Spot, Turns, place_behind, planned, spot, turn_behind}
use Rattle.rip_replica.proofs.NumberLemmas.{closed_idle, closed_keeps, steps_keep}
use Rattle.rip_replica.proofs.RoomLemmas.{closed_lacks_none, rests_neither}
use Rattle.rip_replica.proofs.WithinLemmas.{kept_spot, within_awaits, within_busy, within_closed, within_lacks}
use Rattle.rip_replica.proofs.replica.Replica.within.Goals as goal

pub returns-in-Busy-clause-turns : goal.returns-in-Busy-clause-turns
returns-in-Busy-clause-turns g c = λ d may batch next from base spent ahead stands.
    let e = g.E.Evaluator.evaluation c.args.program.now in
    let at = spot g.I.Items.item_plan g.I.Items.under_way c.args.self.now in
    let run = c.resume-rested in
    let r = going (planned g.I.Items.under_way) run.new.self in
    let T : Spot _ _ _ → Type 0 = λ to. Turns e d may batch next to from base spent c.args.n ahead Busy in
    kept_spot T at r c.args.self.now.place run.new.heap run.new.host (g.I.Items.item_plan run.new.self.planner.items) run.new.self.planner.batch.items run.new.self.planner.begun
    run.ensures.kept.2 (ap (λ b. b.items) run.ensures.kept.0) run.ensures.kept.1
    (within_busy e d may batch next at c.args.n from base spent ahead r run.new.heap run.new.host c.requires.within run.ensures.keeps c.in-Busy.ensures.law stands)

pub returns-in-Awaits-clause-turns : goal.returns-in-Awaits-clause-turns
returns-in-Awaits-clause-turns g c = λ d may batch next from base spent ahead stands.
    let e = g.E.Evaluator.evaluation c.args.program.now in
    let at = spot g.I.Items.item_plan g.I.Items.under_way c.args.self.now in
    let run = c.resume-rested in
    let r = going (planned g.I.Items.under_way) run.new.self in
    let T : Spot _ _ _ → Type 0 = λ to. Turns e d may batch next to from base spent c.args.n ahead (Calls c.in-Awaits.left) in
    kept_spot T at r c.args.self.now.place run.new.heap run.new.host (g.I.Items.item_plan run.new.self.planner.items) run.new.self.planner.batch.items run.new.self.planner.begun
    run.ensures.kept.2 (ap (λ b. b.items) run.ensures.kept.0) run.ensures.kept.1
    (within_awaits e d may batch next at c.args.n c.in-Awaits.left from base spent ahead r run.new.heap run.new.host c.requires.within run.ensures.keeps c.in-Awaits.ensures.law c.in-Awaits.ensures.within stands)

pub returns-in-Finished-clause-turns : goal.returns-in-Finished-clause-turns
returns-in-Finished-clause-turns g c = λ d may batch next from base spent ahead stands.
    let e = g.E.Evaluator.evaluation c.args.program.now in
    let at = spot g.I.Items.item_plan g.I.Items.under_way c.args.self.now in
    let run = c.resume-rested in
    let r = going (planned g.I.Items.under_way) run.new.self in
    let close = c.in-Finished.close in
    let ip = g.I.Items.item_plan run.new.self.planner.items in
    let all = run.new.self.planner.batch.items in
    let begun = run.new.self.planner.begun in
    let T : Spot _ _ _ → Type 0 = λ to. Turns e d may batch next to from base spent c.args.n ahead (turn_behind close c.in-Finished.left) in
    let P : Place → Type 0 = λ p. T (record { going = r; item_plan = ip; all = all; begun = begun; place = p; world = run.new.heap; page = run.new.host }) in
    let W : Turn → Type 0 = λ turn. Turns e d may batch next (record { going = r; item_plan = ip; all = all; begun = begun; place = c.place_behind-self.result; world = run.new.heap; page = run.new.host }) from base spent c.args.n ahead turn in
    subst W (sym c.turn_behind.ensures) (subst P (sym c.place_behind-self.ensures)
    (kept_spot T at r (place_behind close) run.new.heap run.new.host ip all begun
    run.ensures.kept.2 (ap (λ b. b.items) run.ensures.kept.0) run.ensures.kept.1
    (within_closed e d may batch next at c.args.n c.in-Finished.left from base spent ahead r run.new.heap run.new.host close c.requires.within run.ensures.keeps c.in-Finished.ensures.law c.in-Finished.ensures.within stands)))

pub returns-in-Unplanned-clause-turns : goal.returns-in-Unplanned-clause-turns
returns-in-Unplanned-clause-turns g c = λ d may batch next from base spent ahead stands.
    let e = g.E.Evaluator.evaluation c.args.program.now in
    let at = spot g.I.Items.item_plan g.I.Items.under_way c.args.self.now in
    let run = c.resume-rested in
    let r = going (planned g.I.Items.under_way) run.new.self in
    let T : Spot _ _ _ → Type 0 = λ to. Turns e d may batch next to from base spent c.args.n ahead Lacks in
    kept_spot T at r Idle run.new.heap run.new.host (g.I.Items.item_plan run.new.self.planner.items) run.new.self.planner.batch.items run.new.self.planner.begun
    run.ensures.kept.2 (ap (λ b. b.items) run.ensures.kept.0) run.ensures.kept.1
    (within_lacks e d may batch next at c.args.n from base spent ahead r run.new.heap run.new.host Idle c.requires.within stands)

pub returns-in-Busy-clause-page : goal.returns-in-Busy-clause-page
returns-in-Busy-clause-page g c = λ number keeps. c.in-Busy.ensures.number number (steps_keep (g.E.Evaluator.evaluation c.args.program.now) g.I.Items.under_way number keeps)

pub returns-in-Awaits-clause-page : goal.returns-in-Awaits-clause-page
returns-in-Awaits-clause-page g c = λ number keeps. c.in-Awaits.ensures.number number (steps_keep (g.E.Evaluator.evaluation c.args.program.now) g.I.Items.under_way number keeps)

pub returns-in-Finished-clause-page : goal.returns-in-Finished-clause-page
returns-in-Finished-clause-page g c = λ number keeps.
    let P : Turn → Type 0 = λ turn. HasNumber turn (number c.args.self.now.host) (number c.resume-rested.new.host) in
    subst P (sym c.turn_behind.ensures) (closed_keeps c.in-Finished.close c.in-Finished.left (number c.args.self.now.host) (number c.resume-rested.new.host)
    (c.in-Finished.ensures.number number (steps_keep (g.E.Evaluator.evaluation c.args.program.now) g.I.Items.under_way number keeps)))

pub returns-in-Finished-clause-idle : goal.returns-in-Finished-clause-idle
returns-in-Finished-clause-idle g c =
    let P : Turn → Type 0 = λ turn. StandsIdle turn c.place_behind-self.result in
    let Q : Place → Type 0 = λ place. StandsIdle (turn_behind c.in-Finished.close c.in-Finished.left) place in
    subst P (sym c.turn_behind.ensures) (subst Q (sym c.place_behind-self.ensures) (closed_idle c.in-Finished.close c.in-Finished.left))

pub returns-in-Busy-clause-memory : goal.returns-in-Busy-clause-memory
returns-in-Busy-clause-memory g c = λ keeps none rooms.
    c.in-Busy.ensures.memory (steps_keep (g.E.Evaluator.evaluation c.args.program.now) g.I.Items.under_way g.I.Items.need keeps) none rooms

pub returns-in-Awaits-clause-memory : goal.returns-in-Awaits-clause-memory
returns-in-Awaits-clause-memory g c = λ keeps none rooms.
    c.in-Awaits.ensures.memory (steps_keep (g.E.Evaluator.evaluation c.args.program.now) g.I.Items.under_way g.I.Items.need keeps) none rooms

pub returns-in-Finished-clause-memory : goal.returns-in-Finished-clause-memory
returns-in-Finished-clause-memory g c = λ keeps none rooms.
    let kept = c.in-Finished.ensures.memory (steps_keep (g.E.Evaluator.evaluation c.args.program.now) g.I.Items.under_way g.I.Items.need keeps) none rooms in
    (kept.0, subst HasNoLack (sym c.turn_behind.ensures) (closed_lacks_none c.in-Finished.close c.in-Finished.left))

pub returns-in-Unplanned-clause-memory : goal.returns-in-Unplanned-clause-memory
returns-in-Unplanned-clause-memory g c = λ keeps none rooms.
    absurd (rests_neither c.resume-rested.result c.in-Unplanned.is
    ((c.resume-rested.ensures.memory (steps_keep (g.E.Evaluator.evaluation c.args.program.now) g.I.Items.under_way g.I.Items.need keeps) none rooms).1))
