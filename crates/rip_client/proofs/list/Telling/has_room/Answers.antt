use Rattle.std.proofs.Common.{map, length, arith}
use Rattle.std.proofs.lemmas.List.{length-map}
use Rattle.rip_wire.specs.Items.{reported_of}
use Rattle.rip_client.specs.Bytes.{size_of}
use Rattle.rip_client.proofs.Bodies.{room_is}
use Rattle.rip_client.proofs.list.Telling.has_room.Goals as goal

pub returns : goal.returns
returns c = λ item is.
    let items = c.args.self.now.items.items in
    room_is c.args.self.now.number (map reported_of items) item c.args.size c.has_room.result is
    (c.has_room.ensures c.args.self.now.number (map size_of (map reported_of items)) (omega (arith, length-map (map reported_of items) size_of, length-map items reported_of)) c.args.self.now.sized)
