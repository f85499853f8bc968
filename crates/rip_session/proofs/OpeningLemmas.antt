-- What the opening of a session comes to, by what its parts answer.
use Rattle.std.proofs.Common.{◌≡◌, ℕ, ℤ, Result, IfOk, ◌+◌, ◌≤◌, Bool, true, false, Option, None, Some, Ok, Err, List, [], refl, sym, ap, ◌∙◌, subst, arith}
use Rattle.std.specs.Prelude.{codes, nat_lt, if◌then◌else◌}
use Rattle.std.proofs.lemmas.Bool.{le-ltb, lt-ltb}
use Rattle.std.proofs.lemmas.Option.{same_Some}
use Rattle.rip_limits.specs.declared.limits.Limits.{Limits}
use Rattle.rip_base.specs.declared.page.PageNode.{PageNode}
use Rattle.rip_base.specs.declared.value.Limit.{Limit}
use Rattle.rip_base.specs.declared.value.Limit.TheVariants.{Fuel, Cells, Units, Nodes, Depth, Queue, Replies}
use Rattle.rip_base.specs.declared.value.Refused.{Refused}
use Rattle.rip_base.specs.declared.value.Refused.TheVariants.{Limit as At}
use Rattle.rip_base.specs.Page.{Contents as Page}
use Rattle.rip_values.specs.Pool.{Texts, span_behind, with_text}
use Rattle.rip_app.specs.App.{Loaded}
use Rattle.rip_heap.specs.World.{World}
use Rattle.rip_dom.specs.Opening.{Opening, Opens, count_of_nodes, count_of_units}
use Rattle.rip_forms.specs.States.{no_states}
use Rattle.rip_host.specs.declared.browser.Browser.{Browser}
use Rattle.rip_host.specs.Opening.{Begins, IsNew}
use Rattle.rip_session.specs.declared.opening.Opened.{Opened}
use Rattle.rip_session.specs.Opening.{IsBegun, browser_of, document_of, texts_of, with_page, with_scope, without_page}

-- what holds of a value holds of it where another fact makes it so
pub on-ok : {A E : Type 0} {P Q : A → Type 0} (r : Result A E) → ((x : A) → P x → Q x) → IfOk r P → IfOk r Q
on-ok (Ok x) f h = f x h
on-ok (Err e) f h = h

-- THE HEAP

made-limit : (b : Bool) (n : ℕ) (y : World) (m : ℕ) (x : World) → if◌then◌else◌ {A = Option (ℕ × World)} b (Some (n, y)) None ≡ Some (m, x) → x.limit ≡ y.limit
made-limit true n y m x e = sym (ap (λ (o : ℕ × World). o.1.limit) (same_Some (n, y) (m, x) e))
made-limit false n y m x e = absurd (cc)

-- a heap with its top scope is of the limit of cells
pub begun-limit : (app : Loaded) (w : World) (limit : Option Limit) → IsBegun app w limit → w.limit ≡ app.manifest.limits.cells
begun-limit app w None h = made-limit _ _ _ h.0 w h.1
begun-limit app w (Some limit) h = ap (λ (x : World). x.limit) h.1

-- THE PAGE

-- the browser that was made is that of the document
pub new-browser : (nodes : List PageNode) (limits : Limits) (old middle : Texts) (seed : ℕ) (time : ℤ) (s : Browser) (new : Texts)
    → IsNew nodes limits old middle seed time s new
    → (s ≡ browser_of (document_of nodes limits old) nodes limits seed time) × (new ≡ texts_of (document_of nodes limits old))
new-browser nodes limits old middle seed time s new is =
    let made : ◌≡◌ {A = Opening} (record { pool = middle; tree = s.dom }) (document_of nodes limits old) = is.document.2 in
    let tree : s.dom ≡ (document_of nodes limits old).tree = ap (λ (o : Opening). o.tree) made in
    let pool : middle ≡ (document_of nodes limits old).pool = ap (λ (o : Opening). o.pool) made in
    let forms : s.forms ≡ no_states (document_of nodes limits old).tree.limit = is.forms ∙ ap (λ t. no_states t.limit) tree in
    let listeners : s.listeners ≡ record { limit = limits.cells + 1; nodes = (document_of nodes limits old).tree.limit; registered = []; standing = [] } =
    is.listeners ∙ ap (λ t. record { limit = limits.cells + 1; nodes = t.limit; registered = []; standing = [] }) tree in
    let class : s.class ≡ span_behind (document_of nodes limits old).pool (codes "class") = is.class ∙ ap (λ p. span_behind p (codes "class")) pool in (
      λ i. record {
        dom = tree i;
        forms = forms i;
        listeners = listeners i;
        events = is.events i;
        calls = is.calls i;
        undelivered = is.undelivered i;
        row = s.row;
        moment = is.moment i;
        random = is.random i;
        body = is.body i;
        class = class i;
        alloc = s.alloc;
      },
      is.texts ∙ ap (λ p. with_text p (codes "class") 0) pool,
    )

-- where the page fits, its literals are judged
pub page-fits : (app : Loaded) (w : World) (seed : ℕ) (time : ℤ)
    → count_of_nodes app.page.nodes ≤ app.manifest.limits.nodes → w.pool.used + count_of_units app.page.nodes ≤ w.pool.limit
    → with_scope app w seed time ≡ with_page app (record w { pool = texts_of (document_of app.page.nodes app.manifest.limits w.pool) })
    (browser_of (document_of app.page.nodes app.manifest.limits w.pool) app.page.nodes app.manifest.limits seed time)
page-fits app w seed time nodes units =
    by (nat_lt app.manifest.limits.nodes (count_of_nodes app.page.nodes)) (nat_lt w.pool.limit (w.pool.used + count_of_units app.page.nodes)) _ _ _ (le-ltb app.manifest.limits.nodes (count_of_nodes app.page.nodes) nodes) (le-ltb w.pool.limit (w.pool.used + count_of_units app.page.nodes) units)
  where
    by : (a b : Bool) (x y z : Opened) → a ≡ false → b ≡ false → (if a then x else if b then y else z) ≡ z
    by true b x y z e f = absurd (cc)
    by false true x y z e f = absurd (cc)
    by false false x y z e f = refl

-- where a limit would be passed, it is that one
first-opened : (a : Bool) (x y : Opened) → a ≡ true → (if a then x else y) ≡ x
first-opened true x y e = refl
first-opened false x y e = absurd (cc)

then-opened : (a b : Bool) (x y z : Opened) → a ≡ false → b ≡ true → (if a then x else if b then y else z) ≡ y
then-opened true b x y z e f = absurd (cc)
then-opened false true x y z e f = refl
then-opened false false x y z e f = absurd (cc)

pub page-passes : (app : Loaded) (w : World) (seed : ℕ) (time : ℤ) (limit : Limit) (new : Texts)
    → Opens app.page.nodes app.manifest.limits.nodes w.pool (Err (At limit)) new
    → with_scope app w seed time ≡ without_page app limit w seed time
page-passes app w seed time Nodes new h =
    first-opened (nat_lt app.manifest.limits.nodes (count_of_nodes app.page.nodes)) _ _ (lt-ltb app.manifest.limits.nodes (count_of_nodes app.page.nodes) h)
page-passes app w seed time Units new h =
    then-opened (nat_lt app.manifest.limits.nodes (count_of_nodes app.page.nodes)) (nat_lt w.pool.limit (w.pool.used + count_of_units app.page.nodes)) _ _ _
    (le-ltb app.manifest.limits.nodes (count_of_nodes app.page.nodes) h.0) (lt-ltb w.pool.limit (w.pool.used + count_of_units app.page.nodes) h.1)
page-passes app w seed time Fuel new h = absurd h
page-passes app w seed time Cells new h = absurd h
page-passes app w seed time Depth new h = absurd h
page-passes app w seed time Queue new h = absurd h
page-passes app w seed time Replies new h = absurd h

-- a page of the application, its limits, and the texts of the heap: what the maker of a browser answers of them
answered : (app : Loaded) (w : World) (page : Page) (limits : Limits) (old new : Texts) (seed : ℕ) (time : ℤ) (result : Result Browser Refused)
    → page ≡ app.page → limits ≡ app.manifest.limits → old ≡ w.pool
    → Begins page.nodes limits old seed time result new → Begins app.page.nodes app.manifest.limits w.pool seed time result new
answered app w page limits old new seed time result a b c h =
    subst (λ o. Begins app.page.nodes app.manifest.limits o seed time result new) c
    (subst (λ l. Begins app.page.nodes l old seed time result new) b
    (subst (λ (p : Page). Begins p.nodes limits old seed time result new) a h))

pub page-opens : (app : Loaded) (w : World) (page : Page) (limits : Limits) (old new : Texts) (seed : ℕ) (time : ℤ) (s : Browser)
    → page ≡ app.page → limits ≡ app.manifest.limits → old ≡ w.pool
    → Begins page.nodes limits old seed time (Ok s) new → with_page app (record w { pool = new }) s ≡ with_scope app w seed time
page-opens app w page limits old new seed time s a b c h =
    let is : (middle : Texts) × IsNew app.page.nodes app.manifest.limits w.pool middle seed time s new = answered app w page limits old new seed time (Ok s) a b c h in
    let made : (s ≡ browser_of (document_of app.page.nodes app.manifest.limits w.pool) app.page.nodes app.manifest.limits seed time)
    × (new ≡ texts_of (document_of app.page.nodes app.manifest.limits w.pool)) =
    new-browser app.page.nodes app.manifest.limits w.pool is.0 seed time s new is.1 in
    (λ i. with_page app (record w { pool = made.1 i }) (made.0 i)) ∙ sym (page-fits app w seed time is.1.document.0 is.1.document.1)

pub page-refuses : (app : Loaded) (w : World) (page : Page) (limits : Limits) (old new : Texts) (seed : ℕ) (time : ℤ) (limit : Limit)
    → page ≡ app.page → limits ≡ app.manifest.limits → old ≡ w.pool
    → Begins page.nodes limits old seed time (Err (At limit)) new → without_page app limit w seed time ≡ with_scope app w seed time
page-refuses app w page limits old new seed time limit a b c h =
    sym (page-passes app w seed time limit new (answered app w page limits old new seed time (Err (At limit)) a b c h))

-- a page without nodes passes no limit
pub no-page-passes : (nodes : List PageNode) (limits : Limits) (old new : Texts) (seed : ℕ) (time : ℤ) (limit : Limit) → nodes ≡ [] → old.used ≤ old.limit
    → Begins nodes limits old seed time (Err (At limit)) new → ⊥
no-page-passes nodes limits old new seed time limit none within h =
    by limit (subst (λ (ns : List PageNode). Begins ns limits old seed time (Err (At limit)) new) none h)
  where
    by : (l : Limit) → Begins [] limits old seed time (Err (At l)) new → ⊥
    by Nodes k = omega arith
    by Units k = let past = k.1 in omega arith
    by Fuel k = k
    by Cells k = k
    by Depth k = k
    by Queue k = k
    by Replies k = k
