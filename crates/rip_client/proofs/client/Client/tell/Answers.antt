use Rattle.std.proofs.Common.{subst}
use Rattle.rip_wire.specs.Items.{reported_of}
use Rattle.rip_client.specs.Sizes.{IsTold, place_of}
use Rattle.rip_client.specs.Truth.{TellsItem}
use Rattle.rip_client.proofs.Bodies.{told_same}
use Rattle.rip_client.proofs.Telling.{closed_comes, spent_same}
use Rattle.rip_client.proofs.client.Client.tell.Goals as goal

pub returns : goal.returns
returns g c =
    let over = c.in_ok-over.over in
    let behind = record c.put.new.self { actor = c.play.new.self } in
    closed_comes (TellsItem g.A.Actor.session (IsTold c.args.tale)) (place_of c.args.self.now c.args.giver.now) (place_of (record behind { list = c.spend.new.self }) c.play.new.giver) over.close c.closed_so.result c.closed_so.ensures.fine c.closed_so.ensures.other (record {
      item = reported_of c.in_ok-item.item;
      is = c.in_ok-item.ensures.told;
      put = place_of c.put.new.self c.args.giver.now;
      is_put = c.in_ok-put.ensures c.args.giver.now;
      fuel = over.fuel;
      plays = subst (λ r. g.A.Actor.session.plays r c.put.new.self.actor c.args.giver.now over c.play.new.self c.play.new.giver) (told_same c.args.tale (reported_of c.in_ok-played.played) (reported_of c.in_ok-item.item) c.in_ok-played.ensures.told c.in_ok-item.ensures.told) c.in_ok-over.ensures;
      rest = spent_same behind c.spend.new.self c.play.new.giver c.spend.ensures.items c.spend.ensures.closed c.spend.ensures.number;
    })
