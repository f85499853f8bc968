use Rattle.std.proofs.Common.{ℕ, ◌+◌, ◌≤◌, length, IsTrue, arith, subst, sym}
use Rattle.rip_replica.specs.Parts.{meaning_of}
use Rattle.rip_replica.specs.Rooms.{IsRoomed}
use Rattle.rip_replica.specs.Sessions.{behind_batch}
use Rattle.rip_replica.specs.Standing.{Stands, spot}
use Rattle.rip_law_replica.specs.AtStage.{IsAtStage}
use Rattle.rip_law_replica.proofs.Done.{not_done_busy}
use Rattle.rip_law_replica.proofs.Nested.{slice_within}
use Rattle.rip_law_replica.proofs.Resting.{rests}
use Rattle.rip_law_replica.proofs.Staging.{resume_stands}
use Rattle.rip_law_replica.proofs.stages.going.resume.Goals as goal

pub returns-then-slice-eq0-clause-resumed : goal.returns-then-slice-eq0-clause-resumed
returns-then-slice-eq0-clause-resumed g c = λ doing st service calls by at undone replies roomed.
    rests (meaning_of doing) st service calls c.args.slice.now c.args.made.now
    (IsAtStage (g.E.Evaluator.evaluation c.args.program.now) doing g.I.Items.item_plan g.I.Items.under_way g.I.Works.may_serve c.args.replica.now)
    (g.V.Service.replies_as c.args.service.now service) c.if-slice-eq0.true at replies

pub returns-clause-resumed : goal.returns-clause-resumed
returns-clause-resumed g c = λ doing st service calls by at undone replies roomed.
    let e = g.E.Evaluator.evaluation c.args.program.now in
    let ip = g.I.Items.item_plan in
    let under = g.I.Items.under_way in
    let some : 1 ≤ c.args.slice.now.units = omega (arith, c.if-slice-eq0.false) in
    resume_stands e doing ip under g.I.Works.may_serve c.args.replica.now c.resume.new.self (meaning_of doing) st service calls c.args.slice.now c.args.made.now c.resume.new.made c.resume.result
    (g.V.Service.replies_as c.resume.new.service service) at.number c.resume.ensures.number
    (c.resume.ensures.resumed doing st service calls (by.agrees st.seed st.time) at.number
    (not_done_busy e doing g.I.Works.may_serve (spot ip under c.args.replica.now) st at.stands undone) some replies roomed)

pub returns-then-slice-eq0-clause-depth : goal.returns-then-slice-eq0-clause-depth
returns-then-slice-eq0-clause-depth g c = λ doing st service calls most by at undone replies nests within. within

pub returns-clause-depth : goal.returns-clause-depth
returns-clause-depth g c = λ doing st service calls most by at undone replies nests within.
    let e = g.E.Evaluator.evaluation c.args.program.now in
    let d = doing st.seed st.time in
    let from = spot g.I.Items.item_plan g.I.Items.under_way c.args.replica.now in
    let to = spot g.I.Items.item_plan g.I.Items.under_way c.resume.new.self in
    let next = behind_batch d (length st.batches) in
    let busy = not_done_busy e doing g.I.Works.may_serve from st at.stands undone in
    let B : ℕ → Type 0 = λ b. Stands e d g.I.Works.may_serve b next from st.units busy.base st.units busy.ahead in
    let sliced = c.resume.ensures.slice d next st.units busy.base busy.ahead service calls (by.agrees st.seed st.time) (subst B (sym at.number) busy.stands) replies in
    slice_within (IsRoomed e g.E.Evaluator.has_room g.I.Items.room g.I.Items.need g.I.Items.under_way g.I.Works.served (IsTrue g.H.Host.may_want_memory) c.args.replica.now.runner c.args.replica.now.host) e d g.I.Works.may_serve c.args.replica.now.number next to st.units busy.base (st.units + c.args.slice.now.units) busy.ahead sliced.ps sliced.gs c.resume.result most nests sliced.comes
    c.resume.ensures.idle

pub returns-clause-memory : goal.returns-clause-memory
returns-clause-memory g c = λ doing st service calls by at undone replies.
    c.resume.ensures.memory doing st service calls (by.agrees st.seed st.time) at.number
    (not_done_busy (g.E.Evaluator.evaluation c.args.program.now) doing g.I.Works.may_serve (spot g.I.Items.item_plan g.I.Items.under_way c.args.replica.now) st at.stands undone) replies
