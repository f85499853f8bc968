-- How a page is made into a document, one node and one attribute at a time.
use Rattle.std.proofs.Common.{◌≡◌, ℕ, suc, ◌+◌, ◌-◌, ◌<◌, ◌≤◌, inl, inr, Bool, true, false, cond, List, [], ◌∷◌, length, drop, get_or, Option, None, Some, refl, sym, ap, ap₂, ◌∙◌, subst, arith}
use Rattle.std.specs.Prelude.{is_some, is_ok, nat_lt, slice_get, Result, Ok, Err}
use Rattle.std.proofs.lemmas.Bool.{true≢false, cases_lt}
use Rattle.std.proofs.lemmas.List.{drop_more, drop_all, length_push}
use Rattle.std.proofs.lemmas.Option.{slice_get_within, get_or_from_slice_get}
use Rattle.rip_base.specs.declared.page.NodeKind.{NodeKind}
use Rattle.rip_base.specs.declared.page.PageNode.{PageNode}
use Rattle.rip_base.specs.declared.value.Limit.TheVariants.{Fuel, Cells, Units, Nodes, Depth, Queue, Replies}
use Rattle.rip_base.specs.declared.value.Refused.{Refused}
use Rattle.rip_base.specs.declared.value.Refused.TheVariants.{Limit as At, Memory}
use Rattle.rip_base.specs.declared.page.Attribute.{Attribute}
use Rattle.rip_base.specs.declared.value.Span.{Span}
use Rattle.rip_values.specs.FixedTexts.{fixed_span}
use Rattle.rip_values.specs.Pool.{Texts, span_behind, with_text}
use Rattle.rip_dom.specs.Tree.{Tree, with_node, bare_node, put_in, with_attribute}
use Rattle.rip_dom.specs.Opening.{Opening, name_span, with_name, with_value, name_of, text_of, placed, attribute_step, attributes_in, node_step, nodes_in, no_tree, count_of_nodes, count_of_values, count_of_units, IsShort, Opens}
use Rattle.rip_dom.proofs.TreeLemmas.{length-put_in, length-with_attribute}

abbrev pub at : Texts → Tree → Opening
at pool tree = record { pool = pool; tree = tree }

name-limit-by : (o : Option Span) (pool : Texts) (name : List ℕ) → (cond (is_some o) pool (with_text pool name 0)).limit ≡ pool.limit
name-limit-by None pool name = refl
name-limit-by (Some s) pool name = refl

name-used-by : (o : Option Span) (pool : Texts) (name : List ℕ) → (cond (is_some o) pool (with_text pool name 0)).used ≡ pool.used
name-used-by None pool name = omega arith
name-used-by (Some s) pool name = refl

pub name-limit : (pool : Texts) (name : List ℕ) → (with_name pool name).limit ≡ pool.limit
name-limit pool name = name-limit-by (fixed_span name) pool name

pub name-used : (pool : Texts) (name : List ℕ) → (with_name pool name).used ≡ pool.used
name-used pool name = name-used-by (fixed_span name) pool name

-- WHAT A STEP LEAVES OF COUNTS

-- the counts of an opening, after so many records and units more
pub record Counts (s t : Opening) (records units : ℕ) : Type 0 where
  pub used : t.tree.used ≡ s.tree.used + records
  pub limit : t.tree.limit ≡ s.tree.limit
  pub units_used : t.pool.used ≡ s.pool.used + units
  pub units_limit : t.pool.limit ≡ s.pool.limit

attribute-counts : (n : ℕ) (s : Opening) (a : Attribute) → Counts s (attribute_step n s a) 1 (length a.value)
attribute-counts n s a = record {
  used = refl;
  limit = refl;
  units_used = ap (λ k. k + length a.value) (name-used s.pool a.name);
  units_limit = name-limit s.pool a.name;
}

counts-on : (s t u : Opening) (a b c d : ℕ) → Counts s t a c → Counts t u b d → Counts s u (a + b) (c + d)
counts-on s t u a b c d h k = record {
  used = omega (arith, h.used, k.used);
  limit = k.limit ∙ h.limit;
  units_used = omega (arith, h.units_used, k.units_used);
  units_limit = k.units_limit ∙ h.units_limit;
}

counts-as : (s t : Opening) (a b c d : ℕ) → a ≡ b → c ≡ d → Counts s t a c → Counts s t b d
counts-as s t a b c d e f h = record {
  used = omega (arith, h.used, e);
  limit = h.limit;
  units_used = omega (arith, h.units_used, f);
  units_limit = h.units_limit;
}

pub attributes-counts : (n : ℕ) (s : Opening) (xs : List Attribute) → Counts s (attributes_in n s xs) (length xs) (count_of_values xs)
attributes-counts n s [] = record { used = omega arith; limit = refl; units_used = omega arith; units_limit = refl }
attributes-counts n s (a ∷ xs) =
    counts-as s (attributes_in n (attribute_step n s a) xs) (1 + length xs) (suc (length xs)) (length a.value + count_of_values xs) (length a.value + count_of_values xs) (omega arith) refl
    (counts-on s (attribute_step n s a) (attributes_in n (attribute_step n s a) xs) 1 (length xs) (length a.value) (count_of_values xs) (attribute-counts n s a) (attributes-counts n (attribute_step n s a) xs))

placed-by : (b : Bool) (t : Tree) (p n : ℕ) → ((cond b (put_in t p n None) t).used ≡ t.used) × ((cond b (put_in t p n None) t).limit ≡ t.limit) × (length (cond b (put_in t p n None) t).nodes ≡ length t.nodes)
placed-by true t p n = (refl, refl, length-put_in t p n None)
placed-by false t p n = (refl, refl, refl)

pub placed-counts : (t : Tree) (n : ℕ) (o : Option ℕ) → ((placed t n o).used ≡ t.used) × ((placed t n o).limit ≡ t.limit) × (length (placed t n o).nodes ≡ length t.nodes)
placed-counts t n None = (refl, refl, refl)
placed-counts t n (Some p) = placed-by (nat_lt p n) t p n

abbrev pub bare_step : Opening → PageNode → Opening
bare_step s x = record {
  pool = with_value (with_name s.pool x.name) x.text;
  tree = placed
      (with_node s.tree x.kind (name_of x.kind (name_span s.pool x.name)) (text_of x.kind (span_behind (with_name s.pool x.name) x.text)))
      (length s.tree.nodes) x.parent;
}

bare-counts : (s : Opening) (x : PageNode) → Counts s (bare_step s x) 1 (length x.text)
bare-counts s x =
    let c = placed-counts (with_node s.tree x.kind (name_of x.kind (name_span s.pool x.name)) (text_of x.kind (span_behind (with_name s.pool x.name) x.text))) (length s.tree.nodes) x.parent in
    record {
      used = c.0;
      limit = c.1;
      units_used = ap (λ k. k + length x.text) (name-used s.pool x.name);
      units_limit = name-limit s.pool x.name;
    }

pub node-counts : (s : Opening) (x : PageNode) → Counts s (node_step s x) (1 + length x.attributes) (length x.text + count_of_values x.attributes)
node-counts s x =
    counts-on s (bare_step s x) (node_step s x) 1 (length x.attributes) (length x.text) (count_of_values x.attributes) (bare-counts s x)
    (attributes-counts (length s.tree.nodes) (bare_step s x) x.attributes)

-- THE ATTRIBUTES OF A NODE, SO FAR

pub record AttributesDone (n : ℕ) (xs : List Attribute) (i : ℕ) (pool : Texts) (tree : Tree) (pool0 : Texts) (tree0 : Tree) : Type 0 where
  pub steps : attributes_in n (at pool tree) (drop i xs) ≡ attributes_in n (at pool0 tree0) xs
  pub units : pool.used + count_of_values (drop i xs) ≡ pool0.used + count_of_values xs
  pub limit : pool.limit ≡ pool0.limit
  pub fit : pool.used ≤ pool.limit
  pub room : tree.used + length (drop i xs) ≤ tree.limit
  pub node : n < length tree.nodes

pub attributes-start : (n : ℕ) (xs : List Attribute) (pool : Texts) (tree : Tree) → pool.used ≤ pool.limit → tree.used + length xs ≤ tree.limit → n < length tree.nodes → AttributesDone n xs 0 pool tree pool tree
attributes-start n xs pool tree f r h = record { steps = refl; units = refl; limit = refl; fit = f; room = r; node = h }

attribute-next : (xs : List Attribute) (i : ℕ) (a : Attribute) → i < length xs → a ≡ get_or xs i a → drop i xs ≡ a ∷ drop (i + 1) xs
attribute-next xs i a h e = drop_more xs i a h ∙ ap (λ b. b ∷ drop (i + 1) xs) (sym e)

pub attribute-room : (n : ℕ) (xs : List Attribute) (i : ℕ) (a : Attribute) (pool pool0 : Texts) (tree tree0 : Tree) → AttributesDone n xs i pool tree pool0 tree0 → i < length xs → a ≡ get_or xs i a → tree.used < tree.limit
attribute-room n xs i a pool pool0 tree tree0 d h e = let k : length (drop i xs) ≡ suc (length (drop (i + 1) xs)) = ap length (attribute-next xs i a h e) in omega (arith, k, d.room)

pub attribute-short : (n : ℕ) (xs : List Attribute) (i : ℕ) (a : Attribute) (pool pool0 p : Texts) (tree tree0 : Tree) → AttributesDone n xs i pool tree pool0 tree0 → i < length xs → a ≡ get_or xs i a
    → p ≡ with_name pool a.name → p.limit < p.used + length a.value → pool0.limit < pool0.used + count_of_values xs
attribute-short n xs i a pool pool0 p tree tree0 d h e f g =
    let k : count_of_values (drop i xs) ≡ length a.value + count_of_values (drop (i + 1) xs) = ap count_of_values (attribute-next xs i a h e) in
    let l : p.limit ≡ pool.limit = ap (λ (p : Texts). p.limit) f ∙ name-limit pool a.name in
    let u : p.used ≡ pool.used = ap (λ (p : Texts). p.used) f ∙ name-used pool a.name in
    omega (arith, k, l, u, g, d.units, d.limit)

pub attribute-done : (n : ℕ) (xs : List Attribute) (i : ℕ) (a : Attribute) (pool pool0 p q : Texts) (tree tree0 new : Tree) (s v : Span) → AttributesDone n xs i pool tree pool0 tree0 → i < length xs → a ≡ get_or xs i a
    → s ≡ name_span pool a.name → p ≡ with_name pool a.name → v ≡ span_behind p a.value → q ≡ with_text p a.value (length a.value) → (p.limit < p.used + length a.value → ⊥) → new ≡ with_attribute tree n s v
    → AttributesDone n xs (i + 1) q new pool0 tree0
attribute-done n xs i a pool pool0 p q tree tree0 new s v d h e es ep ev eq fits en = record {
  steps = ap (λ o. attributes_in n o (drop (i + 1) xs)) same ∙ sym (ap (attributes_in n (at pool tree)) (attribute-next xs i a h e)) ∙ d.steps;
  units = omega (arith, k, c.units_used, used, d.units);
  limit = limit ∙ c.units_limit ∙ d.limit;
  fit = omega (arith, u, l, used, limit, c.units_used, c.units_limit, within);
  room = omega (arith, r, d.room, made, ap (λ (t : Tree). t.limit) en);
  node = subst (λ k. n < k) (sym (ap (λ (t : Tree). length t.nodes) en ∙ length-with_attribute tree n s v)) d.node;
}
  where
    same : at q new ≡ attribute_step n (at pool tree) a
    same =
        ap₂ at (eq ∙ ap (λ p. with_text p a.value (length a.value)) ep)
        (en ∙ ap₂ (λ s v. with_attribute tree n s v) es (ev ∙ ap (λ p. span_behind p a.value) ep))

    c : Counts (at pool tree) (attribute_step n (at pool tree) a) 1 (length a.value)
    c = attribute-counts n (at pool tree) a

    k : count_of_values (drop i xs) ≡ length a.value + count_of_values (drop (i + 1) xs)
    k = ap count_of_values (attribute-next xs i a h e)

    r : length (drop i xs) ≡ suc (length (drop (i + 1) xs))
    r = ap length (attribute-next xs i a h e)

    used : q.used ≡ (attribute_step n (at pool tree) a).pool.used
    used = ap (λ (o : Opening). o.pool.used) same

    limit : q.limit ≡ (attribute_step n (at pool tree) a).pool.limit
    limit = ap (λ (o : Opening). o.pool.limit) same

    made : new.used ≡ tree.used + 1
    made = ap (λ (t : Tree). t.used) en

    u : p.used ≡ pool.used
    u = ap (λ (p : Texts). p.used) ep ∙ name-used pool a.name

    l : p.limit ≡ pool.limit
    l = ap (λ (p : Texts). p.limit) ep ∙ name-limit pool a.name

    within : p.used + length a.value ≤ p.limit
    within = elim (cases_lt p.limit (p.used + length a.value)) [ inl g ↦ absurd (fits g) | inr g ↦ g ]

pub attributes-end : (n : ℕ) (xs : List Attribute) (i : ℕ) (pool pool0 : Texts) (tree tree0 : Tree) → AttributesDone n xs i pool tree pool0 tree0 → length xs ≤ i → at pool tree ≡ attributes_in n (at pool0 tree0) xs
attributes-end n xs i pool pool0 tree tree0 d h = sym (ap (attributes_in n (at pool tree)) (drop_all i xs h)) ∙ d.steps

-- THE NODES OF A PAGE, SO FAR

pub record NodesDone (xs : List PageNode) (i : ℕ) (pool : Texts) (tree : Tree) (pool0 : Texts) (tree0 : Tree) : Type 0 where
  pub steps : nodes_in (at pool tree) (drop i xs) ≡ nodes_in (at pool0 tree0) xs
  pub units : pool.used + count_of_units (drop i xs) ≡ pool0.used + count_of_units xs
  pub limit : pool.limit ≡ pool0.limit
  pub fit : pool.used ≤ pool.limit
  pub room : tree.used + count_of_nodes (drop i xs) ≤ tree.limit

node-next : (xs : List PageNode) (i : ℕ) (x : PageNode) → slice_get xs i ≡ Some x → drop i xs ≡ x ∷ drop (i + 1) xs
node-next xs i x e = drop_more xs i x (slice_get_within xs i x e) ∙ ap (λ y. y ∷ drop (i + 1) xs) (get_or_from_slice_get xs i x x e)

pub nodes-start : (xs : List PageNode) (pool : Texts) (limit : ℕ) (tree : Tree) → tree ≡ no_tree limit → pool.used ≤ pool.limit → count_of_nodes xs ≤ limit → NodesDone xs 0 pool tree pool (no_tree limit)
nodes-start xs pool limit tree e f r = subst (λ t. NodesDone xs 0 pool t pool (no_tree limit)) (sym e) (record { steps = refl; units = refl; limit = refl; fit = f; room = omega (arith, r) })

pub node-room : (xs : List PageNode) (i : ℕ) (x : PageNode) (pool pool0 : Texts) (tree tree0 : Tree) → NodesDone xs i pool tree pool0 tree0 → slice_get xs i ≡ Some x → tree.used + (1 + length x.attributes) ≤ tree.limit
node-room xs i x pool pool0 tree tree0 d e =
    let k : count_of_nodes (drop i xs) ≡ 1 + length x.attributes + count_of_nodes (drop (i + 1) xs) = ap count_of_nodes (node-next xs i x e) in
    omega (arith, k, d.room)

pub node-short : (xs : List PageNode) (i : ℕ) (x : PageNode) (pool pool0 : Texts) (tree tree0 : Tree) → NodesDone xs i pool tree pool0 tree0 → slice_get xs i ≡ Some x
    → pool.limit < pool.used + (length x.text + count_of_values x.attributes) → pool0.limit < pool0.used + count_of_units xs
node-short xs i x pool pool0 tree tree0 d e g =
    let k : count_of_units (drop i xs) ≡ length x.text + count_of_values x.attributes + count_of_units (drop (i + 1) xs) = ap count_of_units (node-next xs i x e) in
    omega (arith, k, g, d.units, d.limit)

pub node-done : (xs : List PageNode) (i : ℕ) (x : PageNode) (pool pool0 q : Texts) (tree tree0 new : Tree) → NodesDone xs i pool tree pool0 tree0 → slice_get xs i ≡ Some x
    → at q new ≡ node_step (at pool tree) x → q.used ≤ q.limit → NodesDone xs (i + 1) q new pool0 tree0
node-done xs i x pool pool0 q tree tree0 new d e s f = record {
  steps = ap (λ o. nodes_in o (drop (i + 1) xs)) s ∙ sym (ap (nodes_in (at pool tree)) (node-next xs i x e)) ∙ d.steps;
  units = omega (arith, k, c.units_used, used, d.units);
  limit = ap (λ (o : Opening). o.pool.limit) s ∙ c.units_limit ∙ d.limit;
  fit = f;
  room = omega (arith, r, d.room, c.used, c.limit, ap (λ (o : Opening). o.tree.used) s, ap (λ (o : Opening). o.tree.limit) s);
}
  where
    c : Counts (at pool tree) (node_step (at pool tree) x) (1 + length x.attributes) (length x.text + count_of_values x.attributes)
    c = node-counts (at pool tree) x

    k : count_of_units (drop i xs) ≡ length x.text + count_of_values x.attributes + count_of_units (drop (i + 1) xs)
    k = ap count_of_units (node-next xs i x e)

    r : count_of_nodes (drop i xs) ≡ 1 + length x.attributes + count_of_nodes (drop (i + 1) xs)
    r = ap count_of_nodes (node-next xs i x e)

    used : q.used ≡ (node_step (at pool tree) x).pool.used
    used = ap (λ (o : Opening). o.pool.used) s

pub nodes-end : (xs : List PageNode) (i : ℕ) (pool pool0 : Texts) (tree tree0 : Tree) → NodesDone xs i pool tree pool0 tree0 → length xs ≤ i
    → (pool0.used + count_of_units xs ≤ pool0.limit) × (at pool tree ≡ nodes_in (at pool0 tree0) xs)
nodes-end xs i pool pool0 tree tree0 d h =
    let z : count_of_units (drop i xs) ≡ 0 = ap count_of_units (drop_all i xs h) in
    (omega (arith, z, d.units, d.limit, d.fit), sym (ap (nodes_in (at pool tree)) (drop_all i xs h)) ∙ d.steps)

-- THE ROOM FOR ALL NODES

pub record RoomLeft (xs : List PageNode) (i left limit : ℕ) : Type 0 where
  pub counted : count_of_nodes xs + left ≡ limit + count_of_nodes (drop i xs)

pub room-start : (xs : List PageNode) (limit : ℕ) → RoomLeft xs 0 limit limit
room-start xs limit = record { counted = omega arith }

pub room-more : (xs : List PageNode) (i left limit : ℕ) (x : PageNode) → RoomLeft xs i left limit → slice_get xs i ≡ Some x → 1 + length x.attributes ≤ left → RoomLeft xs (i + 1) (left - (1 + length x.attributes)) limit
room-more xs i left limit x d e h =
    let k : count_of_nodes (drop i xs) ≡ 1 + length x.attributes + count_of_nodes (drop (i + 1) xs) = ap count_of_nodes (node-next xs i x e) in
    record { counted = omega (arith, k, d.counted, h) }

pub room-short : (xs : List PageNode) (i left limit : ℕ) (x : PageNode) → RoomLeft xs i left limit → slice_get xs i ≡ Some x → left < 1 + length x.attributes → limit < count_of_nodes xs
room-short xs i left limit x d e h =
    let k : count_of_nodes (drop i xs) ≡ 1 + length x.attributes + count_of_nodes (drop (i + 1) xs) = ap count_of_nodes (node-next xs i x e) in
    omega (arith, k, d.counted, h)

pub room-end : (xs : List PageNode) (i left limit : ℕ) → RoomLeft xs i left limit → length xs ≤ i → count_of_nodes xs ≤ limit
room-end xs i left limit d h = let z : count_of_nodes (drop i xs) ≡ 0 = ap count_of_nodes (drop_all i xs h) in omega (arith, z, d.counted)

pub ok-err : {A E : Type 0} (x : A) (e : E) → ◌≡◌ {A = Result A E} (Ok x) (Err e) → ⊥
ok-err x e h = true≢false (ap is_ok h)

pub placed-in : (t u v : Tree) (kind : NodeKind) (name text : Option Span) (n : ℕ) (o : Option ℕ) → u ≡ with_node t kind name text → v ≡ placed u n o → n ≡ length t.nodes → n < length v.nodes
placed-in t u v kind name text n o e f g =
    let a : length v.nodes ≡ length u.nodes = ap (λ (t : Tree). length t.nodes) f ∙ (placed-counts u n o).2 in
    let b : length u.nodes ≡ length t.nodes + 1 = ap (λ (t : Tree). length t.nodes) e ∙ length_push t.nodes (bare_node kind name text) in
    omega (arith, a, b, g)

pub opens-short : (nodes : List PageNode) (limit : ℕ) (pool new : Texts) (P : Type 0) (r : Refused) → IsShort P r → count_of_nodes nodes ≤ limit → (P → pool.limit < pool.used + count_of_units nodes) → Opens nodes limit pool (Err r) new
opens-short nodes limit pool new P Memory s h f = tt
opens-short nodes limit pool new P (At Units) s h f = (h, f s)
opens-short nodes limit pool new P (At Fuel) s h f = absurd s
opens-short nodes limit pool new P (At Cells) s h f = absurd s
opens-short nodes limit pool new P (At Nodes) s h f = absurd s
opens-short nodes limit pool new P (At Depth) s h f = absurd s
opens-short nodes limit pool new P (At Queue) s h f = absurd s
opens-short nodes limit pool new P (At Replies) s h f = absurd s
