-- What a session has taken of its limits, where it stands.
use Rattle.std.specs.Prelude.{ℕ, ◌≤◌, length}
use Rattle.rip_calls.specs.Calls.{used}
use Rattle.rip_heap.specs.World.{World}
use Rattle.rip_eval_rows.specs.declared.step.Phase.{Phase}
use Rattle.rip_eval_rows.specs.declared.step.Phase.TheVariants.{Asking, Taking, Awaiting, Running, Over}
use Rattle.rip_machine.specs.Law.{Standing, open_depth}
use Rattle.rip_host.specs.declared.browser.Browser.{Browser}
use Rattle.rip_replica.specs.declared.replica.Place.{Place}
use Rattle.rip_replica.specs.Numbers.{open_at}
use Rattle.rip_headline.specs.declared.limits.counts.Used.{Used}

-- how much of the depth is open: only while a run goes on there is any
abbrev pub depth_of : Phase → Standing → ℕ
depth_of Asking m = 0
depth_of Taking m = 0
depth_of Awaiting m = 0
depth_of (Running item) m = open_depth m
depth_of (Over close) m = 0

-- and only while a session stands in an item
abbrev pub open_in : Place → Phase → Standing → ℕ
open_in place phase m = open_at place (depth_of phase m)

-- the counts of this world and this page, and of the depth, of which so much is open
abbrev pub used_in : World → ℕ → Browser → Used
used_in w depth s = record {
  cells = w.cells;
  units = w.pool.used;
  nodes = s.dom.used;
  depth = depth;
  waiting = used s.calls;
  replies = length s.undelivered.replies;
}

-- each is within its limit: that of the heap's cells, of its texts, of the document, of the depth of runs, of the calls that
-- wait, and of the replies that may be undelivered
pub record IsWithin (u : Used) (w : World) (m : Standing) (s : Browser) : Type 0 where
  pub cells : u.cells ≤ w.limit
  pub units : u.units ≤ w.pool.limit
  pub nodes : u.nodes ≤ s.dom.limit
  pub depth : u.depth ≤ m.depth
  pub waiting : u.waiting ≤ s.calls.limit
  pub replies : u.replies ≤ s.undelivered.most
