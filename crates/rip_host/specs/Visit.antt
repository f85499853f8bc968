-- What stands behind a page's objects, as one value; and the worlds that it goes with.
use Rattle.std.specs.Prelude.{◌≡◌, ◌+◌, ◌<◌, ◌≤◌, codes, All, IfSome, length}
use Rattle.rip_values.specs.Pool.{text_at}
use Rattle.rip_base.specs.declared.value.Value.TheVariants.{Object}
use Rattle.rip_heap.specs.Growth.{Belongs}
use Rattle.rip_heap.specs.Host.{Keeps, LeavesOnRefusal}
use Rattle.rip_heap.specs.World.{World, first_node, first_object}
use Rattle.rip_base.specs.declared.value.Fault.TheVariants.{NotInProfile}
use Rattle.rip_heap.specs.declared.host.HostDone.{HostDone}
use Rattle.rip_heap.specs.declared.host.HostDone.TheVariants as host
use Rattle.rip_dom.specs.Tree.{Tree}
use Rattle.rip_nodes.specs.Answers.{IsAnswered}
use Rattle.rip_host.specs.declared.browser.Browser.{Browser}
use Rattle.rip_host.specs.declared.events.Event.{Event}

-- the browser with this tree
abbrev pub with_tree : Browser → Tree → Browser
with_tree s t = record s { dom = t }

-- what the nodes answer, with the browser after it
abbrev pub of_nodes : HostDone × World × Tree → Browser → HostDone × World × Browser
of_nodes answer s = (answer.0, answer.1, with_tree s answer.2)

-- what is only read, with the browser as it is
abbrev pub of_reading : HostDone × World → Browser → HostDone × World × Browser
of_reading answer s = (answer.0, answer.1, s)

-- the member is outside the profile
abbrev pub outside : World → Browser → HostDone × World × Browser
outside w s = (host.Fault NotInProfile, w, s)

-- target and current node of an event have numbers that objects of nodes have
abbrev pub AreNodes : Event → Type 0
AreNodes e = (e.target < first_node) × IfSome e.at (λ s. s.node < first_node)

-- the browser goes with a heap of this world: its rooms were made for the limits of the world, each object that it keeps
-- is one of the world, and the text `class` stands where it says
pub record Fits (s : Browser) (w : World) : Type 0 where
  pub nodes : s.dom.limit ≤ first_node
  pub body : IfSome s.body (λ b. b < first_node)
  pub class : text_at w.pool s.class ≡ codes "class"
  pub class_stands : s.class.start + s.class.count ≤ length w.pool.units
  pub form_room : s.dom.limit ≤ length s.forms.nodes
  pub listener_room : w.limit < s.listeners.limit
  pub listener_nodes : s.dom.limit ≤ s.listeners.nodes
  pub listeners_charged : length s.listeners.registered ≤ w.cells
  pub event_room : w.limit ≤ s.events.limit
  pub events_charged : length s.events.events ≤ w.cells
  pub events_made : All (λ e. e.object < first_object + length w.objects) s.events.events
  pub event_nodes : All AreNodes s.events.events
  pub listeners_on_nodes : All (λ l. l.node < first_node) s.listeners.registered
  pub callbacks : All (λ m. IfSome m.callback (λ f. Belongs w (Object f))) s.calls.made
  pub reply_callbacks : All (λ r. Belongs w (Object r.callback)) s.undelivered.replies

-- what holds of each answer of a browser: it still fits; older objects, texts and limits stand, and no function is made;
-- a value is of the world after it; a fault and a limit leave all as it was; and memory is never wanting
pub record KeepsBrowser (old : World) (s : Browser) (done : HostDone) (new : World) (r : Browser) : Type 0 where
  pub fits : Fits r new
  pub keeps : Keeps old new
  pub answered : IsAnswered old done new
  pub refused : LeavesOnRefusal old s done new r
