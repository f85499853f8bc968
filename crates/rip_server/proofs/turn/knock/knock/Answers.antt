use Rattle.std.proofs.Common.{None, refl}
use Rattle.rip_server.specs.Acts.{seen}
use Rattle.rip_server.specs.Links.{links_of}
use Rattle.rip_server.proofs.AskLemmas.{knocked_by, counts_behind}
use Rattle.rip_server.proofs.turn.knock.knock.Goals as goal

pub returns-in_default : goal.returns-in_default
returns-in_default g c =
    let told = c.next.ensures in
    let taken = c.take_knock.ensures in
    record {
      links = taken.links;
      opened = taken.opened;
      knocked = λ s held at asking.
          knocked_by s c.next.result c.next.new.room c.args.busy c.take_knock.result (links_of c.args.connections.now) (links_of c.take_knock.new.connections)
          (seen (g.D.Door.sent c.args.door.now) (g.D.Door.knocks c.args.door.now) (g.D.Door.shuts c.args.door.now) (g.D.Door.asked c.args.door.now) held)
          (seen (g.D.Door.sent c.next.new.self) (g.D.Door.knocks c.next.new.self) (g.D.Door.shuts c.next.new.self) (g.D.Door.asked c.next.new.self) held)
          (seen (g.D.Door.sent c.next.new.self) (g.D.Door.knocks c.next.new.self) (g.D.Door.shuts c.next.new.self) (g.D.Door.asked c.next.new.self) None)
          (seen (g.D.Door.sent c.take_knock.new.door) (g.D.Door.knocks c.take_knock.new.door) (g.D.Door.shuts c.take_knock.new.door) (g.D.Door.asked c.take_knock.new.door) None)
          held c.in_default.not-Failed at asking told.asked told.told told.over told.sent told.shuts refl refl taken.closed taken.after taken.acted;
      counted = counts_behind c.next.result c.take_knock.result (g.D.Door.count c.args.door.now) (g.D.Door.count c.next.new.self) (g.D.Door.count c.take_knock.new.door)
          c.in_default.not-Failed told.counted taken.counted;
    }
