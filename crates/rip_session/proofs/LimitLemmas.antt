-- A session has the limits of the manifest as it is opened, and its heap keeps them.
use Rattle.std.proofs.Common.{◌≡◌, ℕ, ℤ, ◌≤◌, Bool, true, false, List, [], ◌∷◌, length, Option, None, Some, refl, sym, ◌∙◌, subst, arith}
use Rattle.std.specs.Prelude.{◌+◌, max, nat_le, nat_lt, is_some, if◌then◌else◌}
use Rattle.rip_values.specs.FixedTexts.{fixed_span}
use Rattle.rip_values.specs.Pool.{Texts, with_text}
use Rattle.rip_limits.specs.declared.limits.Limits.{Limits}
use Rattle.rip_base.specs.declared.page.Attribute.{Attribute}
use Rattle.rip_base.specs.declared.page.PageNode.{PageNode}
use Rattle.rip_base.specs.declared.value.Limit.{Limit}
use Rattle.rip_base.specs.declared.value.Limit.TheVariants.{Cells, Units, Nodes}
use Rattle.rip_base.specs.declared.value.Span.{Span}
use Rattle.rip_app.specs.App.{Loaded}
use Rattle.rip_heap.specs.Growth.{Grows}
use Rattle.rip_heap.specs.World.{World, empty_world}
use Rattle.rip_dom.specs.Opening.{Opening, attribute_step, attributes_in, count_of_nodes, count_of_units, node_step, nodes_in, no_tree, with_name}
use Rattle.rip_dom.proofs.OpeningLemmas.{bare_step, node-counts}
use Rattle.rip_calls.specs.Calls.{used}
use Rattle.rip_eval_rows.specs.Evaluation.{Evaluation}
use Rattle.rip_replica.specs.Going.{depth_in}
use Rattle.rip_machine.specs.Law.{Standing}
use Rattle.rip_machine.specs.Plans.{HasRoom}
use Rattle.rip_replica.specs.declared.replica.Place.TheVariants.{First}
use Rattle.rip_replica.specs.declared.replica.Replica.{Replica}
use Rattle.rip_replica.specs.Numbers.{open_at, open_of}
use Rattle.rip_session.specs.declared.work.items.PageItems.{PageItems}
use Rattle.rip_session.specs.Tasks.{Task}
use Rattle.rip_session.specs.Application.{IsPageWithin}
use Rattle.rip_host.specs.declared.browser.Browser.{Browser}
use Rattle.rip_machine.specs.Loading.{cost_of_literals, values_needed, world_loaded}
use Rattle.rip_browser.specs.declared.opening.Start.TheVariants.{Passes, Loads}
use Rattle.rip_session.specs.declared.opening.Opened.{Opened}
use Rattle.rip_session.specs.Limits.{HasLimits, HasPageLimits, PassesNoLimit}
use Rattle.rip_session.specs.Opening.{browser_of, by_scope, document_of, heap_limits, idle_machine, loaded_machine, opened_of, texts_of, top_scope, with_page, with_scope, without_page}

-- TEXTS

-- both limits of texts stand
abbrev SameLimits : Texts → Texts → Type 0
SameLimits old new = (new.limit ≡ old.limit) × (new.text_limit ≡ old.text_limit)

name-same-by : (o : Option Span) (pool : Texts) (name : List ℕ) → SameLimits pool (if is_some o then pool else with_text pool name 0)
name-same-by None pool name = (refl, refl)
name-same-by (Some span) pool name = (refl, refl)

name-same : (pool : Texts) (name : List ℕ) → SameLimits pool (with_name pool name)
name-same pool name = name-same-by (fixed_span name) pool name

attributes-same : (n : ℕ) (s : Opening) (xs : List Attribute) → SameLimits s.pool (attributes_in n s xs).pool
attributes-same n s [] = (refl, refl)
attributes-same n s (a ∷ xs) =
    let first : SameLimits s.pool (with_name s.pool a.name) = name-same s.pool a.name in
    let rest : SameLimits (attribute_step n s a).pool (attributes_in n (attribute_step n s a) xs).pool = attributes-same n (attribute_step n s a) xs in
    (rest.0 ∙ first.0, rest.1 ∙ first.1)

nodes-same : (s : Opening) (xs : List PageNode) → SameLimits s.pool (nodes_in s xs).pool
nodes-same s [] = (refl, refl)
nodes-same s (x ∷ xs) =
    let name : SameLimits s.pool (with_name s.pool x.name) = name-same s.pool x.name in
    let attributes : SameLimits (bare_step s x).pool (node_step s x).pool = attributes-same (length s.tree.nodes) (bare_step s x) x.attributes in
    let rest : SameLimits (node_step s x).pool (nodes_in (node_step s x) xs).pool = nodes-same (node_step s x) xs in
    (rest.0 ∙ attributes.0 ∙ name.0, rest.1 ∙ attributes.1 ∙ name.1)

-- HEAPS

-- a heap with the texts of a document
with-document : (limits of : Limits) (w : World) (nodes : List PageNode) → HasLimits limits w
    → HasLimits limits (record w { pool = texts_of (document_of nodes of w.pool) })
with-document limits of w nodes h =
    let same : SameLimits w.pool (document_of nodes of w.pool).pool = nodes-same (record { pool = w.pool; tree = no_tree of.nodes }) nodes in
    record { cells = h.cells; units = same.0 ∙ h.units; text = same.1 ∙ h.text }

either : (limits : Limits) (b : Bool) (x y : Opened) → HasLimits limits x.heap → HasLimits limits y.heap → HasLimits limits (if b then x else y).heap
either limits true x y f g = f
either limits false x y f g = g

page-limits : (app : Loaded) (w : World) (s : Browser) → HasLimits app.manifest.limits w → HasLimits app.manifest.limits (with_page app w s).heap
page-limits app w s h =
    either app.manifest.limits (nat_le (w.pool.used + cost_of_literals app.program) w.pool.limit)
    (record { heap = world_loaded app.program w; machine = loaded_machine app w; browser = s; start = Loads (length app.program.grove.roots) })
    (record { heap = w; machine = idle_machine app.manifest.limits; browser = s; start = Passes Units })
    (record { cells = h.cells; units = h.units; text = h.text }) h

no-page-limits : (app : Loaded) (limit : Limit) (w : World) (seed : ℕ) (time : ℤ) → HasLimits app.manifest.limits w
    → HasLimits app.manifest.limits (without_page app limit w seed time).heap
no-page-limits app limit w seed time h = with-document app.manifest.limits app.manifest.limits w [] h

scope-limits : (app : Loaded) (w : World) (seed : ℕ) (time : ℤ) → HasLimits app.manifest.limits w → HasLimits app.manifest.limits (with_scope app w seed time).heap
scope-limits app w seed time h =
    let d : Opening = document_of app.page.nodes app.manifest.limits w.pool in
    let browser : Browser = browser_of d app.page.nodes app.manifest.limits seed time in
    let paged : Opened = with_page app (record w { pool = texts_of d }) browser in
    let fewer : Opened = if nat_lt w.pool.limit (w.pool.used + count_of_units app.page.nodes) then without_page app Units w seed time else paged in
    either app.manifest.limits (nat_lt app.manifest.limits.nodes (count_of_nodes app.page.nodes)) (without_page app Nodes w seed time) fewer
    (no-page-limits app Nodes w seed time h)
    (either app.manifest.limits (nat_lt w.pool.limit (w.pool.used + count_of_units app.page.nodes)) (without_page app Units w seed time) paged
    (no-page-limits app Units w seed time h)
    (page-limits app (record w { pool = texts_of d }) browser (with-document app.manifest.limits app.manifest.limits w app.page.nodes h)))

by-scope-limits : (app : Loaded) (seed : ℕ) (time : ℤ) (b : Bool) (n : ℕ) (x : World) → HasLimits app.manifest.limits x
    → HasLimits app.manifest.limits (by_scope app (if◌then◌else◌ {A = Option (ℕ × World)} b (Some (n, x)) None) seed time).heap
by-scope-limits app seed time true n x h = scope-limits app x seed time h
by-scope-limits app seed time false n x h = no-page-limits app Cells (empty_world (heap_limits app.manifest.limits)) seed time (record { cells = refl; units = refl; text = refl })

-- PAGES

nodes-limit : (s : Opening) (xs : List PageNode) → (let o = nodes_in s xs in let t = o.tree in t.limit) ≡ (let t = s.tree in t.limit)
nodes-limit s [] = refl
nodes-limit s (x ∷ xs) = nodes-limit (node_step s x) xs ∙ (let c = node-counts s x in c.limit)

-- a session that is opened has these limits of its page and of its runs, and the room for these
record OpensWithin (limits : Limits) (o : Opened) : Type 0 where
  page : HasPageLimits limits o.browser
  depth : (let m = o.machine in m.depth) ≡ limits.depth
  room : HasRoom o.machine limits.fuel

idle-room : (limits : Limits) → HasRoom (idle_machine limits) limits.fuel
idle-room limits =
    let one : 1 ≤ max 1 (values_needed limits.fuel) = omega arith in
    record { runs = omega arith; run = one }

loaded-room : (app : Loaded) (w : World) → HasRoom (loaded_machine app w) app.manifest.limits.fuel
loaded-room app w =
    let idle : HasRoom (idle_machine app.manifest.limits) app.manifest.limits.fuel = idle-room app.manifest.limits in
    record { runs = idle.runs; run = idle.run }

opens-either : (limits : Limits) (b : Bool) (x y : Opened) → OpensWithin limits x → OpensWithin limits y → OpensWithin limits (if b then x else y)
opens-either limits true x y f g = f
opens-either limits false x y f g = g

document-limits : (limits : Limits) (w : World) (nodes : List PageNode) (seed : ℕ) (time : ℤ) → HasPageLimits limits (browser_of (document_of nodes limits w.pool) nodes limits seed time)
document-limits limits w nodes seed time = record { nodes = nodes-limit (record { pool = w.pool; tree = no_tree limits.nodes }) nodes; queue = refl; replies = refl }

page-opens : (app : Loaded) (w : World) (s : Browser) → HasPageLimits app.manifest.limits s → OpensWithin app.manifest.limits (with_page app w s)
page-opens app w s h =
    opens-either app.manifest.limits (nat_le (w.pool.used + cost_of_literals app.program) w.pool.limit)
    (record { heap = world_loaded app.program w; machine = loaded_machine app w; browser = s; start = Loads (length app.program.grove.roots) })
    (record { heap = w; machine = idle_machine app.manifest.limits; browser = s; start = Passes Units })
    (record { page = h; depth = refl; room = loaded-room app w }) (record { page = h; depth = refl; room = idle-room app.manifest.limits })

no-page-opens : (app : Loaded) (limit : Limit) (w : World) (seed : ℕ) (time : ℤ) → OpensWithin app.manifest.limits (without_page app limit w seed time)
no-page-opens app limit w seed time = record { page = record { nodes = refl; queue = refl; replies = refl }; depth = refl; room = idle-room app.manifest.limits }

scope-opens : (app : Loaded) (w : World) (seed : ℕ) (time : ℤ) → OpensWithin app.manifest.limits (with_scope app w seed time)
scope-opens app w seed time =
    let d : Opening = document_of app.page.nodes app.manifest.limits w.pool in
    let browser : Browser = browser_of d app.page.nodes app.manifest.limits seed time in
    let paged : Opened = with_page app (record w { pool = texts_of d }) browser in
    let fewer : Opened = if nat_lt w.pool.limit (w.pool.used + count_of_units app.page.nodes) then without_page app Units w seed time else paged in
    opens-either app.manifest.limits (nat_lt app.manifest.limits.nodes (count_of_nodes app.page.nodes)) (without_page app Nodes w seed time) fewer
    (no-page-opens app Nodes w seed time)
    (opens-either app.manifest.limits (nat_lt w.pool.limit (w.pool.used + count_of_units app.page.nodes)) (without_page app Units w seed time) paged
    (no-page-opens app Units w seed time)
    (page-opens app (record w { pool = texts_of d }) browser (document-limits app.manifest.limits w app.page.nodes seed time)))

scope-by-opens : (app : Loaded) (seed : ℕ) (time : ℤ) (o : Option (ℕ × World)) → OpensWithin app.manifest.limits (by_scope app o seed time)
scope-by-opens app seed time None = no-page-opens app Cells (empty_world (heap_limits app.manifest.limits)) seed time
scope-by-opens app seed time (Some scope) = scope-opens app scope.1 seed time

pub opened-page : (app : Loaded) (seed : ℕ) (time : ℤ) → HasPageLimits app.manifest.limits (let o = opened_of app seed time in o.browser)
opened-page app seed time = (let opens = scope-by-opens app seed time (top_scope app) in opens.page)

pub opened-depth : (app : Loaded) (seed : ℕ) (time : ℤ) → (let o = opened_of app seed time in let m = o.machine in m.depth) ≡ app.manifest.limits.depth
opened-depth app seed time = (let opens = scope-by-opens app seed time (top_scope app) in opens.depth)

pub opened-room : (app : Loaded) (seed : ℕ) (time : ℤ) → HasRoom (let o = opened_of app seed time in o.machine) app.manifest.limits.fuel
opened-room app seed time = (let opens = scope-by-opens app seed time (top_scope app) in opens.room)

-- one that passes no limit of its own passes none of these
pub page-within : (limits : Limits) (e : Evaluation Standing Browser) (r : Replica Standing PageItems Task Browser) → HasPageLimits limits r.host
    → (let t = (let s = r.host in s.dom) in t.used ≤ t.limit) → (let c = (let s = r.host in s.calls) in used c ≤ c.limit) → (let u = (let s = r.host in s.undelivered) in length u.replies ≤ u.most)
    → open_of e r ≤ limits.depth → IsPageWithin limits e r
page-within limits e r h nodes waiting replies depth = record {
  has = h;
  within = record {
    nodes = subst (λ n. (let t = (let s = r.host in s.dom) in t.used) ≤ n) h.nodes nodes;
    waiting = subst (λ n. used (let s = r.host in s.calls) ≤ n) h.queue waiting;
    replies = subst (λ n. (let u = (let s = r.host in s.undelivered) in length u.replies) ≤ n) h.replies replies;
    depth = depth;
  };
}

-- before the first unit of a batch nothing is open
pub first-open : (e : Evaluation Standing Browser) (r : Replica Standing PageItems Task Browser) (most : ℕ) → r.place ≡ First → open_of e r ≤ most
first-open e r most is =
    let none : open_at First (depth_in e (let n = r.runner in n.evaluator) (let n = r.runner in n.phase)) ≤ most = omega arith in
    subst (λ p. open_at p (depth_in e (let n = r.runner in n.evaluator) (let n = r.runner in n.phase)) ≤ most) (sym is) none

-- as it is opened
pub opened-limits : (app : Loaded) (seed : ℕ) (time : ℤ) → HasLimits app.manifest.limits (opened_of app seed time).heap
opened-limits app seed time = by-scope-limits app seed time _ _ _ (record { cells = refl; units = refl; text = refl })

-- a heap that grew has the limits that it had
pub grown-limits : (limits : Limits) (w x : World) → Grows w x → HasLimits limits w → HasLimits limits x
grown-limits limits w x g h = record { cells = g.limit ∙ h.cells; units = g.unit_limit ∙ h.units; text = g.text_limit ∙ h.text }

-- one that passes no limit of its own passes none of these
pub passes-none : (limits : Limits) (w : World) → HasLimits limits w → w.cells ≤ w.limit → w.pool.used ≤ w.pool.limit → PassesNoLimit limits w
passes-none limits w h cells units = record { cells = subst (λ n. w.cells ≤ n) h.cells cells; units = subst (λ n. w.pool.used ≤ n) h.units units }
