use Rattle.std.proofs.Common.{ℕ, ◌+◌, length, IsTrue, ap, subst, sym}
use Rattle.rip_replica.specs.Rooms.{IsRoomed}
use Rattle.rip_replica.specs.Sessions.{behind_batch}
use Rattle.rip_replica.specs.Slices.{Sliced}
use Rattle.rip_replica.specs.Standing.{Stands, spot}
use Rattle.rip_replica.proofs.StageLemmas.{resumed}
use Rattle.rip_replica.proofs.replica.Replica.resume.Goals as goal

pub returns-clause-resumed : goal.returns-clause-resumed
returns-clause-resumed g c = λ doing st service calls agrees number busy some replies roomed.
    let e = g.E.Evaluator.evaluation c.args.program.now in
    let d = doing st.seed st.time in
    let at = spot g.I.Items.item_plan g.I.Items.under_way c.args.self.now in
    let to = spot g.I.Items.item_plan g.I.Items.under_way c.go_on.new.self in
    let R = g.V.Service.replies_as c.go_on.new.service service in
    let next = behind_batch d (length st.batches) in
    let B : ℕ → Type 0 = λ b. Stands e d g.I.Works.may_serve b next at st.units busy.base st.units busy.ahead in
    let S : ℕ → Type 0 = λ b. Sliced (IsRoomed e g.E.Evaluator.has_room g.I.Items.room g.I.Items.need g.I.Items.under_way g.I.Works.served (IsTrue g.H.Host.may_want_memory) c.args.self.now.runner c.args.self.now.host) e d g.I.Works.may_serve b next to st.units busy.base (st.units + c.args.slice.now.units) busy.ahead service calls c.args.slice.now c.args.made.now c.go_on.new.made c.go_on.result R in
    resumed e doing g.I.Works.may_serve at to st service calls c.args.slice.now c.args.made.now c.go_on.new.made c.go_on.result R busy
    (subst S number (c.go_on.ensures.slice d next st.units busy.base busy.ahead service calls agrees (subst B (sym number) busy.stands) replies)) some roomed (ap (λ b. b.items) c.go_on.ensures.batch) c.go_on.ensures.idle

pub returns-clause-memory : goal.returns-clause-memory
returns-clause-memory g c = λ doing st service calls agrees number busy replies.
    let e = g.E.Evaluator.evaluation c.args.program.now in
    let d = doing st.seed st.time in
    let at = spot g.I.Items.item_plan g.I.Items.under_way c.args.self.now in
    let next = behind_batch d (length st.batches) in
    let B : ℕ → Type 0 = λ b. Stands e d g.I.Works.may_serve b next at st.units busy.base st.units busy.ahead in
    c.go_on.ensures.memory d next st.units busy.base busy.ahead service calls agrees (subst B (sym number) busy.stands) replies
