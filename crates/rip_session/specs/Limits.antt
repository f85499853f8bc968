-- What the heap and the page of a session may use, and that they use no more.
use Rattle.std.specs.Prelude.{◌≡◌, ◌≤◌, ℕ, length}
use Rattle.rip_limits.specs.declared.limits.Limits.{Limits}
use Rattle.rip_calls.specs.Calls.{used}
use Rattle.rip_heap.specs.World.{World}
use Rattle.rip_host.specs.declared.browser.Browser.{Browser}

-- the limits of the heap are these: of cells, of units, and of the units of one text
pub record HasLimits (limits : Limits) (w : World) : Type 0 where
  pub cells : w.limit ≡ limits.cells
  pub units : w.pool.limit ≡ limits.units
  pub text : w.pool.text_limit ≡ limits.text

-- no more cells and units were ever charged
pub record PassesNoLimit (limits : Limits) (w : World) : Type 0 where
  pub cells : w.cells ≤ limits.cells
  pub units : w.pool.used ≤ limits.units

-- the limits of the page are these: of the nodes and attributes of its document, of the bytes of the calls that wait, and of
-- the replies that wait
pub record HasPageLimits (limits : Limits) (s : Browser) : Type 0 where
  pub nodes : s.dom.limit ≡ limits.nodes
  pub queue : s.calls.limit ≡ limits.queue
  pub replies : s.undelivered.most ≡ limits.replies

-- no more nodes and attributes were ever made, no more bytes of calls and no more replies wait, and of the depth, of which so
-- much is open, no more is
pub record PassesNoPageLimit (limits : Limits) (nesting : ℕ) (s : Browser) : Type 0 where
  pub nodes : s.dom.used ≤ limits.nodes
  pub waiting : used s.calls ≤ limits.queue
  pub replies : length s.undelivered.replies ≤ limits.replies
  pub depth : nesting ≤ limits.depth
