use Rattle.std.specs.Prelude.{◌≤◌}
use Rattle.rip_limits.specs.declared.limits.Limits.{Limits}
use Rattle.rip_limits.specs.declared.version.Version.{Version}
use Rattle.rip_limits.specs.declared.version.Version.TheVariants.{One, Two}

-- the limits where none is named
abbrev pub default : Limits
default = record { fuel = 100000; cells = 20000; units = 100000; nodes = 2000; depth = 500; queue = 65536; sessions = 64; text = 65535; replies = 64 }

-- the greatest limits of a version; those that version 1 does not name are the default ones
abbrev pub greatest : Version → Limits
greatest One = record { fuel = 10000000; cells = 1000000; units = 4000000; nodes = 50000; depth = 5000; queue = 1048576; sessions = 1024; text = 65535; replies = 64 }
greatest Two = record { fuel = 100000000; cells = 4000000; units = 16000000; nodes = 200000; depth = 5000; queue = 1048576; sessions = 1024; text = 262143; replies = 1024 }

-- each limit is from 1 to its greatest
pub record AreInRange (limits greatest : Limits) : Type 0 where
  pub fuel : (1 ≤ limits.fuel) × (limits.fuel ≤ greatest.fuel)
  pub cells : (1 ≤ limits.cells) × (limits.cells ≤ greatest.cells)
  pub units : (1 ≤ limits.units) × (limits.units ≤ greatest.units)
  pub nodes : (1 ≤ limits.nodes) × (limits.nodes ≤ greatest.nodes)
  pub depth : (1 ≤ limits.depth) × (limits.depth ≤ greatest.depth)
  pub queue : (1 ≤ limits.queue) × (limits.queue ≤ greatest.queue)
  pub sessions : (1 ≤ limits.sessions) × (limits.sessions ≤ greatest.sessions)
  pub text : (1 ≤ limits.text) × (limits.text ≤ greatest.text)
  pub replies : (1 ≤ limits.replies) × (limits.replies ≤ greatest.replies)
