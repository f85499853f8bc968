-- The nodes of a program, one after another, as they are loaded.
use Rattle.std.proofs.Common.{◌≡◌, ℕ, zero, suc, ◌+◌, ◌<◌, ◌≤◌, ◌==◌, Bool, true, false, cond, List, [], ◌∷◌, ◌++◌, drop, take, length, map, get_or, Option, None, Some, option_and_then, refl, ap, ap₂, sym, ◌∙◌, subst, arith, add_assoc, append_assoc, append-nil, length-append, map-id}
use Rattle.std.proofs.lemmas.List.Sums.{sum_by-cons, sum_by-take-drop}
use Rattle.std.proofs.lemmas.List.FromFn.{length-map-range_with_len, map-range_with_len_more}
use Rattle.std.proofs.lemmas.Grind.{common_steps, flat_map-append}
use Rattle.std.specs.List.{flat_map, range_with_len, sum_by}
use Rattle.rip_base.specs.declared.value.Span.{Span}
use Rattle.rip_heap.specs.World.{World}
use Rattle.rip_values.specs.Pool.{KeepsTexts, Texts, with_text}
use Rattle.rip_tree.specs.declared.form.Form.{Form}
use Rattle.rip_tree.specs.declared.node.Node.{Node}
use Rattle.rip_tree.specs.Branches.{Branch, links_of, node_of}
use Rattle.rip_tree.specs.Firsts.{first_named, first_with, name_at, name_of}
use Rattle.rip_tree.specs.Program.{Code, Grove}
use Rattle.rip_machine.specs.Loading.{StandsIfAny, TextsStand, cost_of_literals, form_cost, form_text, name_span, node_cost, own_span, own_text, start_of_text, put_text, span_of, texts_before, with_form}
use Rattle.rip_eval_language.specs.Reading.{form_in}

-- the branches from this one on
pub branches_from : (bs : List Branch) (id : ℕ) (node : Node) → node_of bs id ≡ Some node → drop id bs ≡ record { node = node; children = links_of bs id } ∷ drop (id + 1) bs
branches_from [] id node h = absurd (cc)
branches_from (b ∷ bs) zero node h = let n : b.node ≡ node = cc in rw n refl
branches_from (b ∷ bs) (suc id) node h =
    let e : suc (id + 1) ≡ suc id + 1 = omega arith in
    branches_from bs id node h ∙ ap (λ n. record { node = node; children = links_of bs id } ∷ drop n (b ∷ bs)) e

pub none_from : (bs : List Branch) → drop (length bs) bs ≡ []
none_from [] = refl
none_from (b ∷ bs) = none_from bs

pub cost_none : (units : List ℕ) (bs : List Branch) → sum_by (node_cost units) (drop (length bs) bs) ≡ 0
cost_none units bs = ap (sum_by (node_cost units)) (none_from bs)

pub cost_more : (units : List ℕ) (bs : List Branch) (id : ℕ) (node : Node) → node_of bs id ≡ Some node → sum_by (node_cost units) (drop id bs) ≡ form_cost units node.form + sum_by (node_cost units) (drop (id + 1) bs)
cost_more units bs id node h =
    ap (sum_by (node_cost units)) (branches_from bs id node h) ∙ sum_by-cons (node_cost units) (record { node = node; children = links_of bs id }) (drop (id + 1) bs)

-- ---- one node more

-- the world in which the nodes before this one are loaded
abbrev pub loaded_before : Code → ℕ → World → World
loaded_before code id w = record w { pool = with_text w.pool (texts_before code id) (sum_by (node_cost code.grove.units) (take id code.grove.branches)) }

numbers_more : (n : ℕ) → range_with_len 0 (n + 1) ≡ range_with_len 0 n ++ n ∷ []
numbers_more n = sym (map-id (range_with_len 0 (n + 1))) ∙ map-range_with_len_more (λ k. k) 0 n n (omega arith) ∙ ap (λ ns. ns ++ n ∷ []) (map-id (range_with_len 0 n))

texts_more : (code : Code) (id : ℕ) → texts_before code (id + 1) ≡ texts_before code id ++ put_text code id
texts_more code id =
    ap (flat_map (put_text code)) (numbers_more id) ∙ flat_map-append (put_text code) (range_with_len 0 id) (id ∷ [])
    ∙ ap (λ text. texts_before code id ++ text) (append-nil (put_text code id))

costs_more : (units : List ℕ) (bs : List Branch) (id : ℕ) (node : Node) → node_of bs id ≡ Some node
    → sum_by (node_cost units) (take (id + 1) bs) ≡ sum_by (node_cost units) (take id bs) + form_cost units node.form
costs_more units bs id node h =
    let all = sum_by-take-drop (node_cost units) bs id in
    let more = sum_by-take-drop (node_cost units) bs (id + 1) in
    omega (arith, all, more, cost_more units bs id node h)

-- the charge of one node more passes no limit, where those of all together pass none
pub one_fits : (code : Code) (w x : World) (id : ℕ) (node : Node) → node_of code.grove.branches id ≡ Some node → w.pool.used + cost_of_literals code ≤ w.pool.limit
    → x ≡ loaded_before code id w → x.pool.used + form_cost code.grove.units node.form ≤ x.pool.limit
one_fits code w x id node h all loaded =
    let used = ap (λ (y : World). y.pool.used) loaded in
    let limit = ap (λ (y : World). y.pool.limit) loaded in
    omega (arith, all, used, limit, sum_by-take-drop (node_cost code.grove.units) code.grove.branches id, cost_more code.grove.units code.grove.branches id node h)

-- a form that is that of a node
form_is : (code : Code) (id : ℕ) (node : Node) → node_of code.grove.branches id ≡ Some node → form_in (node_of code.grove.branches id) ≡ node.form
form_is code id node h = ap form_in h

-- ---- a node that is the first with its name

pub own_spans : (code : Code) (w x : World) (id : ℕ) (node : Node) (span : Span) → node_of code.grove.branches id ≡ Some node → first_named code.grove id ≡ id
    → x ≡ loaded_before code id w → span ≡ own_span (length x.pool.units) code.grove.units node.form → span ≡ span_of code w id
own_spans code w x id node span h own loaded is =
    let start : length x.pool.units ≡ start_of_text code w id = ap (λ (y : World). length y.pool.units) loaded ∙ length-append w.pool.units (texts_before code id) in
    is ∙ ap₂ (λ n f. own_span n code.grove.units f) (start ∙ ap (start_of_text code w) (sym own)) (sym (form_is code id node h))

pub own_world : (code : Code) (w x y : World) (id : ℕ) (node : Node) → node_of code.grove.branches id ≡ Some node → first_named code.grove id ≡ id
    → x ≡ loaded_before code id w → y ≡ with_form code.grove.units node.form x → y ≡ loaded_before code (id + 1) w
own_world code w x y id node h own loaded added =
    let r : List ℕ → ℕ → World = λ us n. record w { pool = record w.pool { units = us; used = n } } in
    let cost = sum_by (node_cost code.grove.units) (take id code.grove.branches) in
    let put : put_text code id ≡ own_text code.grove.units node.form =
    ap (λ t. cond t (own_text code.grove.units (form_in (node_of code.grove.branches id))) []) (is_same (first_named code.grove id) id own)
    ∙ ap (own_text code.grove.units) (form_is code id node h) in
    added ∙ ap (with_form code.grove.units node.form) loaded
    ∙ ap₂ r (append_assoc w.pool.units (texts_before code id) (own_text code.grove.units node.form) ∙ ap (λ text. w.pool.units ++ text) (ap (λ text. texts_before code id ++ text) (sym put) ∙ sym (texts_more code id)))
    (add_assoc w.pool.used cost (form_cost code.grove.units node.form) ∙ ap (λ n. w.pool.used + n) (sym (costs_more code.grove.units code.grove.branches id node h)))
  where
    is_same : (m n : ℕ) → m ≡ n → (m == n) ≡ true
    is_same m n same = grind arith

-- ---- a node with the name of one before it

-- what has a name by which it is known is at most named
name_alone : (units name : List ℕ) (f : Form) → name_of units f ≡ Some name → form_cost units f ≡ 0
name_alone units name f h = grind arith

name_text : (units name : List ℕ) (f : Form) → name_of units f ≡ Some name → form_text units f ≡ Some name
name_text units name f h = grind arith

name_spans : (start : ℕ) (units name : List ℕ) (f : Form) → name_of units f ≡ Some name → own_span start units f ≡ name_span start name
name_spans start units name f h = grind arith

-- where the first node with the name of a node comes before it, the node has a name
pub name_before : (g : Grove) (id : ℕ) → first_named g id < id → (name : List ℕ) × (name_at g id ≡ Some name)
unfolding first_named
name_before g id less = by (name_at g id) less
  where
    by : (o : Option (List ℕ)) → first_with g id o < id → (name : List ℕ) × (o ≡ Some name)
    by None below = absurd (omega (arith, below))
    by (Some name) below = (name, refl)

-- what is said of the form of a node that has this name
of_named : (P : Form → Type 0) (units name : List ℕ) (o : Option Node) → option_and_then (λ node. name_of units node.form) o ≡ Some name → ((f : Form) → name_of units f ≡ Some name → P f) → P (form_in o)
of_named P units name None h holds = absurd (cc)
of_named P units name (Some node) h holds = holds node.form h

named_text : (g : Grove) (id : ℕ) (name : List ℕ) → name_at g id ≡ Some name → form_text g.units (form_in (node_of g.branches id)) ≡ Some name
named_text g id name h = of_named (λ f. form_text g.units f ≡ Some name) g.units name (node_of g.branches id) h (λ f is. name_text g.units name f is)

named_span : (start : ℕ) (g : Grove) (id : ℕ) (name : List ℕ) → name_at g id ≡ Some name → own_span start g.units (form_in (node_of g.branches id)) ≡ name_span start name
named_span start g id name h = of_named (λ f. own_span start g.units f ≡ name_span start name) g.units name (node_of g.branches id) h (λ f is. name_spans start g.units name f is)

-- its span is that of the first
pub copied_span : (code : Code) (w : World) (id first : ℕ) (name : List ℕ) → name_at code.grove id ≡ Some name → name_at code.grove first ≡ name_at code.grove id
    → first_named code.grove first ≡ first_named code.grove id → span_of code w first ≡ span_of code w id
copied_span code w id first name h same is =
    named_span (start_of_text code w (first_named code.grove first)) code.grove first name (same ∙ h)
    ∙ ap (λ n. name_span (start_of_text code w n) name) is
    ∙ sym (named_span (start_of_text code w (first_named code.grove id)) code.grove id name h)

-- it puts nothing in
pub copied_world : (code : Code) (w x : World) (id : ℕ) (name : List ℕ) → name_at code.grove id ≡ Some name → first_named code.grove id < id → x ≡ loaded_before code id w → x ≡ loaded_before code (id + 1) w
copied_world code w x id name named less loaded =
    let there = node_there (node_of code.grove.branches id) named in
    let node : Node = there.0 in
    let h : node_of code.grove.branches id ≡ Some node = there.1 in
    let r : List ℕ → ℕ → World = λ us n. record w { pool = record w.pool { units = us; used = n } } in
    let N : Option Node → Option (List ℕ) = λ o. option_and_then (λ n. name_of code.grove.units n.form) o in
    let cost = sum_by (node_cost code.grove.units) (take id code.grove.branches) in
    let free : form_cost code.grove.units node.form ≡ 0 = name_alone code.grove.units name node.form (ap N (sym h) ∙ named) in
    let none : put_text code id ≡ [] = ap (λ t. cond t (own_text code.grove.units (form_in (node_of code.grove.branches id))) []) (not_same (first_named code.grove id) id less) in
    let text : texts_before code (id + 1) ≡ texts_before code id = texts_more code id ∙ ap (λ us. texts_before code id ++ us) none ∙ append-nil (texts_before code id) in
    let cheap : sum_by (node_cost code.grove.units) (take (id + 1) code.grove.branches) ≡ cost = omega (arith, costs_more code.grove.units code.grove.branches id node h, free) in
    loaded ∙ sym (ap₂ (λ us n. r (w.pool.units ++ us) (w.pool.used + n)) text cheap)
  where
    node_there : (o : Option Node) → option_and_then (λ n. name_of code.grove.units n.form) o ≡ Some name → (node : Node) × (o ≡ Some node)
    node_there None none = absurd (cc)
    node_there (Some node) some = (node, refl)

    not_same : (m n : ℕ) → m < n → (m == n) ≡ false
    not_same m n h = grind arith

-- and its text stands where that of the first does
pub copied_stand : (code : Code) (pool : Texts) (id first : ℕ) (name : List ℕ) (span : Span) → name_at code.grove id ≡ Some name → name_at code.grove first ≡ name_at code.grove id
    → StandsIfAny pool (form_text code.grove.units (form_in (node_of code.grove.branches first))) span → StandsIfAny pool (form_text code.grove.units (form_in (node_of code.grove.branches id))) span
copied_stand code pool id first name span h same stands =
    subst (λ o. StandsIfAny pool o span) (named_text code.grove first name (same ∙ h) ∙ sym (named_text code.grove id name h)) stands

-- ---- the texts so far

-- a text that stands in a pool stands in one that grew from it
kept : (old new : Texts) (o : Option (List ℕ)) (span : Span) → KeepsTexts old new → length old.units ≤ length new.units → StandsIfAny old o span → StandsIfAny new o span
kept old new None span keeps longer stands = tt
kept old new (Some text) span keeps longer stands = (keeps span stands.1 ∙ stands.0, omega (arith, longer, stands.1))

pub stand_more : (T : ℕ → Option (List ℕ)) (old new : Texts) (spans after : List Span) (span : Span) (id : ℕ) → length spans ≡ id → after ≡ spans ++ span ∷ []
    → KeepsTexts old new → length old.units ≤ length new.units → ((k : ℕ) (d : Span) → k < id → StandsIfAny old (T k) (get_or spans k d)) → StandsIfAny new (T id) span
    → (k : ℕ) (d : Span) → k < id + 1 → StandsIfAny new (T k) (get_or after k d)
stand_more T old new spans after span id long pushed keeps longer before now k d less =
    below_or (k == id) refl
  where
    below_or : (b : Bool) → (k == id) ≡ b → StandsIfAny new (T k) (get_or after k d)
    below_or true is =
        let same : k ≡ id = grind arith in
        let last : get_or after k d ≡ span = grind (arith, common_steps) in
        subst (λ s. StandsIfAny new (T k) s) (sym last) (subst (λ n. StandsIfAny new (T n) span) (sym same) now)
    below_or false is =
        let under : k < id = grind arith in
        let early : get_or after k d ≡ get_or spans k d = grind (arith, common_steps) in
        subst (λ s. StandsIfAny new (T k) s) (sym early) (kept old new (T k) (get_or spans k d) keeps longer (before k d under))

-- how many spans there are so far
pub spans_long : (f : ℕ → Span) (spans : List Span) (n : ℕ) → spans ≡ map f (range_with_len 0 n) → length spans ≡ n
spans_long f spans n is = ap length is ∙ length-map-range_with_len f 0 n

-- the texts of a program stand, where those of all its nodes do
pub all_stand : (code : Code) (w : World) (spans : List Span) (n : ℕ) → length code.grove.branches ≤ n
    → ((k : ℕ) (d : Span) → k < n → StandsIfAny w.pool (form_text code.grove.units (form_in (node_of code.grove.branches k))) (get_or spans k d))
    → TextsStand (record { code = code; literals = spans }) w
all_stand code w spans n past stand id text is =
    let less : id < length code.grove.branches = inside code.grove.branches id is in
    let there : StandsIfAny w.pool (Some text) (get_or spans id (record { start = 0; count = 0 })) =
    subst (λ o. StandsIfAny w.pool o (get_or spans id (record { start = 0; count = 0 }))) is (stand id (record { start = 0; count = 0 }) (omega arith)) in
    there.0
  where
    inside : (bs : List Branch) (k : ℕ) → form_text code.grove.units (form_in (node_of bs k)) ≡ Some text → k < length bs
    inside [] k some = absurd (cc)
    inside (b ∷ bs) zero some = omega arith
    inside (b ∷ bs) (suc k) some = omega (arith, inside bs k some)
