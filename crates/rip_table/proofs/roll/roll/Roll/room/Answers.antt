-- The counts tell the room.
use Rattle.std.proofs.Common.{arith}
use Rattle.rip_table.proofs.TellLemmas.{room_full, room_spent, room_free}
use Rattle.rip_table.proofs.roll.roll.Roll.room.Goals as goal

pub returns-then-live-self : goal.returns-then-live-self
returns-then-live-self g c = λ limit h k.
    room_full limit c.live.result c.args.self.now h c.requires.table c.live.ensures.live (omega arith) k

pub returns-then-count-ge-MOST_SESSIONS : goal.returns-then-count-ge-MOST_SESSIONS
returns-then-count-ge-MOST_SESSIONS g c = λ limit h k.
    room_spent limit c.live.result c.count.result c.args.self.now h c.requires.table c.live.ensures.live (omega arith) c.count.ensures (omega arith) k

pub returns-else-count-ge-MOST_SESSIONS : goal.returns-else-count-ge-MOST_SESSIONS
returns-else-count-ge-MOST_SESSIONS g c = λ limit h k.
    room_free limit c.live.result c.count.result c.args.self.now h c.requires.table c.live.ensures.live (omega arith) c.count.ensures (omega arith) k
