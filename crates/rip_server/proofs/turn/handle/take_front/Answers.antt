use Rattle.std.proofs.Common.{◌≡◌, ap, subst}
use Rattle.std.specs.Prelude.{slice_set}
use Rattle.rip_http.specs.Conns.{IsTaken}
use Rattle.rip_server.specs.declared.connection.Connection.{Connection}
use Rattle.rip_server.proofs.LinkLemmas.{same_at}
use Rattle.rip_server.proofs.PlaceLemmas.{got, got_below}
use Rattle.rip_server.proofs.turn.handle.take_front.Goals as goal

pub returns-clause-taken : goal.returns-clause-taken
returns-clause-taken c = λ x e.
    let items = c.args.connections.now.list.items in
    let below = got_below items c.args.place x e in
    let here = got items c.args.place c.index_mut.result.now below c.index_mut.ensures.value in
    let same : c.index_mut.result.now ≡ x = same_at items c.args.place c.index_mut.result.now x here e in (
      c.take_message.new.self,
      subst (λ (y : Connection). IsTaken y.conn c.take_message.new.self c.take_message.result) same c.take_message.ensures,
      ap (λ (y : Connection). slice_set items c.args.place (record y { conn = c.take_message.new.self })) same,
    )
