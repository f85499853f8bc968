use Rattle.std.proofs.Common.{◌≡◌, ◌<◌, ℕ, None, subst, sym}
use Rattle.rip_http.specs.Stream.{refuses, IsNext}
use Rattle.rip_server.specs.Acts.{seen}
use Rattle.rip_server.specs.Links.{there_of}
use Rattle.rip_server.specs.declared.connection.Connection.{Connection}
use Rattle.rip_server.proofs.LinkLemmas.{same_at}
use Rattle.rip_server.proofs.PlaceLemmas.{got}
use Rattle.rip_server.proofs.ReplyLemmas.{refused_none, refused_cut, refused_sent}
use Rattle.rip_server.proofs.turn.handle.refuse.Goals as goal

pub returns-in_err-answer-clause-refused : goal.returns-in_err-answer-clause-refused
returns-in_err-answer-clause-refused g c = λ x n r held e next code.
    refused_none x.number r c.from_residual.result _ _ _ c.from_residual.ensures.0

pub returns-in_err-send-clause-refused : goal.returns-in_err-send-clause-refused
returns-in_err-send-clause-refused g c = λ x n r held e next code.
    let items = c.args.connections.now.list.items in
    let here = got items c.args.place c.index.result.now (subst (λ (k : ℕ). c.args.place < k) c.args.connections.now.list.ok.0 c.requires.place) c.index.ensures in
    let same : c.index.result.now ≡ x = same_at items c.args.place c.index.result.now x here e in
    let told = c.in_ok-answer.ensures n r (subst (λ (y : Connection). IsNext y.conn (refuses n r)) (sym same) next) code in
    refused_cut x.number r c.in_ok-answer.answer c.from_residual-in_err-send.result (there_of items) _
    (seen (g.D.Door.sent c.args.door.now) (g.D.Door.knocks c.args.door.now) (g.D.Door.shuts c.args.door.now) (g.D.Door.asked c.args.door.now) None)
    (seen (g.D.Door.sent c.send.new.door) (g.D.Door.knocks c.send.new.door) (g.D.Door.shuts c.send.new.door) (g.D.Door.asked c.send.new.door) None)
    held c.from_residual-in_err-send.ensures.0 told (c.in_err-send.ensures.acted x e)

pub returns-clause-refused : goal.returns-clause-refused
returns-clause-refused g c = λ x n r held e next code.
    let items = c.args.connections.now.list.items in
    let here = got items c.args.place c.index.result.now (subst (λ (k : ℕ). c.args.place < k) c.args.connections.now.list.ok.0 c.requires.place) c.index.ensures in
    let same : c.index.result.now ≡ x = same_at items c.args.place c.index.result.now x here e in
    let told = c.in_ok-answer.ensures n r (subst (λ (y : Connection). IsNext y.conn (refuses n r)) (sym same) next) code in
    refused_sent x.number r c.in_ok-answer.answer c.in_ok-send.field-0 (there_of items) _
    (seen (g.D.Door.sent c.args.door.now) (g.D.Door.knocks c.args.door.now) (g.D.Door.shuts c.args.door.now) (g.D.Door.asked c.args.door.now) None)
    (seen (g.D.Door.sent c.send.new.door) (g.D.Door.knocks c.send.new.door) (g.D.Door.shuts c.send.new.door) (g.D.Door.asked c.send.new.door) None)
    held told (c.in_ok-send.ensures.after x e) (c.in_ok-send.ensures.acted x e)
