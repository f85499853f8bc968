-- How a session of an application is opened: the charges of its top scope, of the nodes and the texts of its page and of the
-- literals of its program, each whole or not at all, in this order; and the heap, the browser and the machine behind them.
use Rattle.std.specs.Prelude.{◌≡◌, ℕ, ℤ, ◌+◌, max, nat_le, nat_lt, Option, None, Some, List, [], length, codes, if◌then◌else◌}
use Rattle.rip_limits.specs.declared.limits.Limits.{Limits}
use Rattle.rip_base.specs.declared.page.PageNode.{PageNode}
use Rattle.rip_base.specs.declared.value.Limit.{Limit}
use Rattle.rip_base.specs.declared.value.Limit.TheVariants.{Cells, Units, Nodes}
use Rattle.rip_base.specs.declared.value.Value.TheVariants.{Undefined}
use Rattle.rip_values.specs.Pool.{Texts, span_behind, with_text}
use Rattle.rip_app.specs.App.{Loaded}
use Rattle.rip_heap.specs.declared.limits.HeapLimits.{HeapLimits}
use Rattle.rip_heap.specs.Scopes.{new_scope}
use Rattle.rip_heap.specs.World.{World, empty_world}
use Rattle.rip_calls.specs.Calls.{none_made}
use Rattle.rip_dom.specs.Opening.{Opening, count_of_nodes, count_of_units, no_tree, nodes_in}
use Rattle.rip_forms.specs.States.{no_states}
use Rattle.rip_host.specs.declared.browser.Browser.{Browser}
use Rattle.rip_host.specs.Opening.{body_from}
use Rattle.rip_host.specs.Waiting.{none_waits}
use Rattle.rip_eval_rows.specs.declared.completion.Completion.TheVariants.{Normal}
use Rattle.rip_eval_rows.specs.declared.next.Control.TheVariants.{Give}
use Rattle.rip_machine.specs.Law.{Standing}
use Rattle.rip_machine.specs.Loading.{cost_of_literals, spans_loaded, values_needed, world_loaded}
use Rattle.rip_browser.specs.declared.opening.Start.TheVariants.{Passes, Loads}
use Rattle.rip_session.specs.declared.opening.Opened.{Opened}

abbrev pub heap_limits : Limits → HeapLimits
heap_limits limits = record { cells = limits.cells; units = limits.units; text = limits.text }

-- the world with nothing but the top scope, which binds the names of the program, or none where its charge would pass the
-- limit
abbrev pub top_scope : Loaded → Option (ℕ × World)
top_scope app = new_scope (empty_world (heap_limits app.manifest.limits)) None (length app.program.top)

-- the document of these nodes, and the texts with those of the document behind them
abbrev pub document_of : List PageNode → Limits → Texts → Opening
document_of nodes limits pool = nodes_in (record { pool = pool; tree = no_tree limits.nodes }) nodes

-- the text `class` stands behind them
abbrev pub texts_of : Opening → Texts
texts_of d = with_text d.pool (codes "class") 0

-- the browser of a document of these nodes: no listener, no event, no call yet; the seed as random word, and the moment
abbrev pub browser_of : Opening → List PageNode → Limits → ℕ → ℤ → Browser
browser_of d nodes limits seed time = record {
  dom = d.tree;
  forms = no_states d.tree.limit;
  listeners = record { limit = limits.cells + 1; nodes = d.tree.limit; registered = []; standing = [] };
  events = record { limit = limits.cells; events = [] };
  calls = none_made limits.queue;
  undelivered = none_waits limits.replies;
  row = tt;
  moment = time;
  random = seed;
  body = body_from 0 nodes;
  class = span_behind d.pool (codes "class");
  alloc = record { memory = record { seal = tt } };
}

-- the machine before a program is loaded, for runs that nest as deep as the limits say; its memory is that for runs with the
-- fuel of an item
abbrev pub idle_machine : Limits → Standing
idle_machine limits = record {
  control = Give (Normal Undefined);
  frames = [];
  fuel = 0;
  spent = 0;
  depth = limits.depth;
  literals = [];
  value_room = max 1 (values_needed limits.fuel);
}

-- and that in which the program is loaded
abbrev pub loaded_machine : Loaded → World → Standing
loaded_machine app w = record (idle_machine app.manifest.limits) { literals = spans_loaded app.program w }

-- a charge before the literals would pass this limit: the session has a page without nodes
abbrev pub without_page : Loaded → Limit → World → ℕ → ℤ → Opened
without_page app limit w seed time =
    let d = document_of [] app.manifest.limits w.pool in
    record {
      heap = record w { pool = texts_of d };
      machine = idle_machine app.manifest.limits;
      browser = browser_of d [] app.manifest.limits seed time;
      start = Passes limit;
    }

-- the page is made: the literals are charged, and the program is loaded
abbrev pub with_page : Loaded → World → Browser → Opened
with_page app w s =
    if nat_le (w.pool.used + cost_of_literals app.program) w.pool.limit
    then record {
      heap = world_loaded app.program w;
      machine = loaded_machine app w;
      browser = s;
      start = Loads (length app.program.grove.roots);
    }
    else record { heap = w; machine = idle_machine app.manifest.limits; browser = s; start = Passes Units }

-- the top scope is made: the nodes of the page are charged, and then its texts
abbrev pub with_scope : Loaded → World → ℕ → ℤ → Opened
with_scope app w seed time =
    if nat_lt app.manifest.limits.nodes (count_of_nodes app.page.nodes) then without_page app Nodes w seed time
    else if nat_lt w.pool.limit (w.pool.used + count_of_units app.page.nodes) then without_page app Units w seed time
    else
    let d = document_of app.page.nodes app.manifest.limits w.pool in
    with_page app (record w { pool = texts_of d }) (browser_of d app.page.nodes app.manifest.limits seed time)

abbrev pub by_scope : Loaded → Option (ℕ × World) → ℕ → ℤ → Opened
by_scope app None seed time = without_page app Cells (empty_world (heap_limits app.manifest.limits)) seed time
by_scope app (Some scope) seed time = with_scope app scope.1 seed time

-- a session as it is opened from this seed and at this moment
abbrev pub opened_of : Loaded → ℕ → ℤ → Opened
opened_of app seed time = by_scope app (top_scope app) seed time

-- the heap of a session with its top scope; or without it, and the limit that its charge would pass
abbrev pub IsBegun : Loaded → World → Option Limit → Type 0
IsBegun app w None = (n : ℕ) × (top_scope app ≡ Some (n, w))
IsBegun app w (Some limit) = (top_scope app ≡ None) × (w ≡ empty_world (heap_limits app.manifest.limits)) × (limit ≡ Cells)
