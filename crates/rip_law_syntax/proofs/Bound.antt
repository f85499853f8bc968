-- The names that scripts bind, node by node and in their program.
use Rattle.std.proofs.Common.{◌≡◌, ℕ, zero, suc, ◌+◌, ◌<◌, true, false, if◌then◌else◌, List, [], ◌∷◌, ◌++◌, length, map, fold, get_or, Option, Some, None, is_some, refl, sym, ap, ◌∙◌, subst, arith, append_assoc, append-nil}
use Rattle.std.specs.Prelude.{⊤}
use Rattle.std.specs.List.{All, flat_map, range_with_len}
use Rattle.std.proofs.lemmas.Bool.{false≢true}
use Rattle.std.proofs.lemmas.List.{get_or-append-add, get_or_append_left, length-append, length-map}
use Rattle.std.proofs.lemmas.List.Concat.{flat_map-append}
use Rattle.std.proofs.lemmas.List.Elements.{All-cons, All-head, All-nil, All-tail}
use Rattle.std.proofs.lemmas.List.FromFn.{get_or-map-range_with_len, length-range_with_len}
use Rattle.std.proofs.Math.Seq.{get_or-append_seam}
use Rattle.rip_tree.specs.declared.form.Form.{Form}
use Rattle.rip_tree.specs.declared.form.Form.TheVariants as F
use Rattle.rip_tree.specs.declared.form.FunctionHead.{FunctionHead}
use Rattle.rip_tree.specs.declared.node.Node.{Node}
use Rattle.rip_tree.specs.declared.node.Piece.{Piece}
use Rattle.rip_tree.specs.declared.program.Resolved.{Resolved}
use Rattle.rip_tree.specs.declared.program.Scoping.{Scoping}
use Rattle.rip_tree.specs.Branches.{Branch, Plant, node_of, units_at}
use Rattle.rip_tree.specs.Program.{Grove, moved_piece, moved_branch, with_pieces, with_tree, joined, scoping_of}
use Rattle.rip_parser.proofs.Holding.{are_held_once}
use Rattle.rip_early.specs.Around.{form_of, form_or_empty, numbers, around, is_function, is_home, first_with, home_of}
use Rattle.rip_early.specs.Looking.{is_binding}
use Rattle.rip_early.specs.Mistakes.{bound_name}
use Rattle.rip_early.specs.Names.{Name, place_in, declared_piece, parameter_names, function_names, var_names, function_scope, top_scope}
use Rattle.rip_early.specs.Program.{program_of, script_scoping}
use Rattle.rip_early.specs.Scopes.{node_meaning, own_meaning, own_scope, scopes_made, scope_of_names, scoping_at}
use Rattle.rip_law_syntax.specs.Bound.{IsScriptTree, IsBoundAtHome, IsBoundByItself, NamesAreBoundAtHome, OwnNamesAreBound, BoundNamesAreResolved, name_for_home, name_for_itself, names_bound_by, caught, caught_by, nearest_binding, is_var_part}
use Rattle.rip_law_syntax.proofs.ScopingPassing.{is_below, may_have}
use Rattle.rip_law_syntax.proofs.Shapes.{shaped}
use Rattle.rip_law_syntax.proofs.Rooted.{In, in_left, in_right, IsRooted, HasParent, has_parent, has_home, below_root, all_in_text}
use Rattle.rip_law_syntax.proofs.Naming.{has_place, parameter_in, function_in, var_in, in_function_scope, in_top_scope}
use Rattle.rip_law_syntax.proofs.Meaning.{home_binds, home_stands}

-- ---- A NODE OF A SCRIPT

rooted : (t : Plant) → IsScriptTree t → IsRooted t
rooted t of =
    let is = of.1 in
    record {
      shape = shaped of.0 t _ is.found.0 is.found.1 is.found.2;
      once = (are_held_once of.0 t is).1;
    }

-- a node that is there
there : (units : List ℕ) (bs : List Branch) (id : ℕ) (node : Node) → node_of bs id ≡ Some node → id < length bs
there units [] id node is = absurd (let h : None ≡ Some node = is in cc)
there units (b ∷ bs) zero node is = omega arith
there units (b ∷ bs) (suc id) node is = let below = there units bs id node is in omega arith

-- a parameter stands below a function
parameter_below : (f : Form) (p : Piece) → may_have f (F.Parameter p) ≡ true → is_function f ≡ true
parameter_below (F.FunctionDeclaration head) p e = refl
parameter_below (F.Function head) p e = refl
parameter_below f p e = cc

-- a declaration stands below a script or a function
function_below : (f : Form) (head : FunctionHead) → may_have f (F.FunctionDeclaration head) ≡ true → is_home f ≡ true
function_below F.Script head e = refl
function_below (F.FunctionDeclaration own) head e = refl
function_below (F.Function own) head e = refl
function_below f head e = cc

function_home : (f : Form) → is_function f ≡ true → is_home f ≡ true
function_home (F.FunctionDeclaration head) e = refl
function_home (F.Function head) e = refl
function_home f e = cc

-- no catch clause stands before a script or a function
none_caught : (t : Plant) (f : Form) (inner : List Name) → is_home f ≡ true → caught_by t f inner ≡ []
none_caught t F.Script inner e = refl
none_caught t (F.FunctionDeclaration head) inner e = refl
none_caught t (F.Function head) inner e = refl
none_caught t f inner e = cc

-- the parent is the nearest script or function
nearest_parent : (t : Plant) (id : ℕ) (up : HasParent t id) → is_home (form_of t up.parent) ≡ true → home_of t id ≡ Some up.parent
nearest_parent t id up e = ap (first_with is_home t) up.outwards ∙ ap (λ b. if b then Some up.parent else home_of t up.parent) e

not_caught : (t : Plant) (id : ℕ) (up : HasParent t id) → is_home (form_of t up.parent) ≡ true → caught t (around t id) ≡ []
not_caught t id up e = ap (caught t) up.outwards ∙ none_caught t (form_of t up.parent) (caught t (around t up.parent)) e

-- a name among the parameters, the functions or the `var` names of a function
function_binds : (top : List Name) (t : Plant) (home : ℕ) (f : Form) (q : Name) → is_function f ≡ true → In q (parameter_names t home ++ function_names t home ++ var_names t home) → In q (names_bound_by top t home f)
function_binds top t home (F.FunctionDeclaration head) q e is = in_function_scope t home q is
function_binds top t home (F.Function head) q e is = in_function_scope t home q is
function_binds top t home f q e is = cc

behind : (q : Name) (first second third : List Name) → In q (second ++ third) → In q (first ++ second ++ third)
behind q first second third is = subst (In q) (sym (append_assoc first second third)) (in_right q first (second ++ third) is)

-- a name among the functions or the `var` names of a script or a function
home_has : (before : List Plant) (t : Plant) (after : List Plant) → IsRooted t → (home : ℕ) (f : Form) (q : Name) → form_of t home ≡ f → is_home f ≡ true → home < length t.branches
    → In q (function_names t home ++ var_names t home) → In q (names_bound_by (top_scope (before ++ t ∷ after)) t home f)
home_has before t after root zero F.Script q form e below is = in_top_scope before t after q is
home_has before t after root (suc n) F.Script q form e below is =
    absurd (let under : is_below (form_of t (suc n)) ≡ true = below_root t root (suc n) (omega arith) below in let h : false ≡ true = sym (ap is_below form) ∙ under in cc)
home_has before t after root home (F.FunctionDeclaration head) q form e below is =
    in_function_scope t home q (behind q (parameter_names t home) (function_names t home) (var_names t home) is)
home_has before t after root home (F.Function head) q form e below is =
    in_function_scope t home q (behind q (parameter_names t home) (function_names t home) (var_names t home) is)
home_has before t after root home f q form e below is = cc

module _ (before : List Plant) (t : Plant) (after : List Plant) (root : IsRooted t) where
  abbrev top : List Name
  top = top_scope (before ++ t ∷ after)

  -- where the nearest script or function is known, and binds the name
  bound_so : (id home : ℕ) (p : Piece) (f : Form) → form_of t id ≡ f → home_of t id ≡ Some home → In (units_at t.units p) (names_bound_by top t home (form_of t home))
      → (node_meaning top t id f).resolved ≡ (node_meaning top t id (F.Declarator p)).resolved → (is_var_part f ≡ false → caught t (around t id) ≡ [])
      → IsBoundAtHome top t id (units_at t.units p) (scoping_at top t id).resolved
  bound_so id home p f form nearest is same alone =
      let place = has_place (units_at t.units p) (names_bound_by top t home (form_of t home)) is in
      let stands = home_stands top t home (around t id) nearest in
      record {
        home = home;
        place = place.0;
        outer = stands.0;
        scopes = stands.1;
        nearest = nearest;
        bound = place.1;
        means = ap (λ g. (node_meaning top t id g).resolved) form ∙ same ∙ home_binds top t home place.0 (units_at t.units p) place.1 (around t id) nearest;
        directly = λ e. alone (ap is_var_part (sym form) ∙ e);
      }

  var_bound : (id : ℕ) (p : Piece) → 0 < id → id < length t.branches → form_of t id ≡ F.Declarator p → IsBoundAtHome top t id (units_at t.units p) (scoping_at top t id).resolved
  var_bound id p some below form =
      let h = has_home t root id some below in
      let listed = var_in t h.home id p (all_in_text t root id below) h.nearest form in
      bound_so id h.home p (F.Declarator p) form h.nearest
      (home_has before t after root h.home (form_of t h.home) (units_at t.units p) refl h.is h.there (in_right (units_at t.units p) (function_names t h.home) (var_names t h.home) listed))
      refl (λ e. absurd (false≢true (sym e)))

  parameter_bound : (id : ℕ) (p : Piece) → 0 < id → id < length t.branches → form_of t id ≡ F.Parameter p → IsBoundAtHome top t id (units_at t.units p) (scoping_at top t id).resolved
  parameter_bound id p some below form =
      let up = has_parent t root id some below in
      let e : is_function (form_of t up.parent) ≡ true = parameter_below (form_of t up.parent) p (ap (may_have (form_of t up.parent)) (sym form) ∙ up.may) in
      let is = function_home (form_of t up.parent) e in
      let q = units_at t.units p in
      bound_so id up.parent p (F.Parameter p) form (nearest_parent t id up is)
      (function_binds top t up.parent (form_of t up.parent) q e (in_left q (parameter_names t up.parent ++ function_names t up.parent) (var_names t up.parent) (in_left q (parameter_names t up.parent) (function_names t up.parent) (parameter_in t up.parent id p up.child form))))
      refl (λ e. not_caught t id up is)

  function_bound : (id : ℕ) (head : FunctionHead) (p : Piece) → 0 < id → id < length t.branches → form_of t id ≡ F.FunctionDeclaration head → head.name ≡ Some p
      → IsBoundAtHome top t id (units_at t.units p) (scoping_at top t id).resolved
  function_bound id head p some below form name =
      let up = has_parent t root id some below in
      let is : is_home (form_of t up.parent) ≡ true = function_below (form_of t up.parent) head (ap (may_have (form_of t up.parent)) (sym form) ∙ up.may) in
      let q = units_at t.units p in
      bound_so id up.parent p (F.FunctionDeclaration head) form (nearest_parent t id up is)
      (home_has before t after root up.parent (form_of t up.parent) q refl is up.there (in_left q (function_names t up.parent) (var_names t up.parent) (function_in t up.parent id p up.child (ap declared_piece form ∙ name))))
      (ap (λ o. (node_meaning top t id (F.FunctionDeclaration (record head { name = o }))).resolved) name) (λ e. not_caught t id up is)

  by_form : (id : ℕ) (f : Form) (p : Piece) → 0 < id → id < length t.branches → form_of t id ≡ f → name_for_home f ≡ Some p → IsBoundAtHome top t id (units_at t.units p) (scoping_at top t id).resolved
  by_form id (F.Declarator q) p some below form e = let same : q ≡ p = let h : Some q ≡ Some p = e in cc in var_bound id p some below (form ∙ ap F.Declarator same)
  by_form id (F.Parameter q) p some below form e = let same : q ≡ p = let h : Some q ≡ Some p = e in cc in parameter_bound id p some below (form ∙ ap F.Parameter same)
  by_form id (F.FunctionDeclaration head) p some below form e = function_bound id head p some below form e
  by_form id f p some below form e = absurd (let h : None ≡ Some p = e in cc)

  pub node_bound : (id : ℕ) (node : Node) (p : Piece) → node_of t.branches id ≡ Some node → name_for_home node.form ≡ Some p → IsBoundAtHome top t id (units_at t.units p) (scoping_at top t id).resolved
  node_bound zero node p is e =
      absurd (let h : None ≡ Some p = sym (ap name_for_home (sym (ap form_or_empty is) ∙ root.shape.root)) ∙ e in cc)
  node_bound (suc n) node p is e = by_form (suc n) node.form p (omega arith) (there t.units t.branches (suc n) node is) (ap form_or_empty is) e

-- ---- THE PROGRAM

-- what is said of scripts has one entry for each of their nodes
counted : (tops : List Name) (g : Grove) (said : List Scoping) (trees : List Plant) → length said ≡ length g.branches
    → length (said ++ flat_map (script_scoping tops) trees) ≡ length (fold with_tree g trees).branches
counted tops g said [] e = ap length (append-nil said) ∙ e
counted tops g said (t ∷ ts) e =
    let moved = map (moved_branch (length t.units) (length g.branches) (length g.units)) t.branches in
    let own : length (script_scoping tops t) ≡ length t.branches = length-map (numbers t) (scoping_at tops t) ∙ length-range_with_len 0 (length t.branches) in
    let behind : length moved ≡ length t.branches = length-map t.branches (moved_branch (length t.units) (length g.branches) (length g.units)) in
    let more : length (said ++ script_scoping tops t) ≡ length (g.branches ++ moved) =
    omega (arith, length-append said (script_scoping tops t), length-append g.branches moved) in
    ap length (sym (append_assoc said (script_scoping tops t) (flat_map (script_scoping tops) ts)))
    ∙ counted tops (with_tree g t) (said ++ script_scoping tops t) ts more

-- what is said of a node of a script, in the program
scoped : (tops : List Name) (before : List Plant) (t : Plant) (after : List Plant) (id : ℕ) → id < length t.branches
    → scoping_of (flat_map (script_scoping tops) (before ++ t ∷ after)) (length (joined before).branches + id) ≡ scoping_at tops t id
scoped tops before t after id below =
    let none : Scoping = record { names = 0; resolved = None; is_own = false } in
    let all = flat_map (script_scoping tops) before in
    let rest = flat_map (script_scoping tops) after in
    let many : length all ≡ length (joined before).branches = counted tops (record { branches = []; units = []; roots = [] }) [] before refl in
    let own : length (script_scoping tops t) ≡ length t.branches = length-map (numbers t) (scoping_at tops t) ∙ length-range_with_len 0 (length t.branches) in
    ap (λ ss. get_or ss (length (joined before).branches + id) none) (flat_map-append (script_scoping tops) before (t ∷ after))
    ∙ ap (λ n. get_or (all ++ (script_scoping tops t ++ rest)) (n + id) none) (sym many)
    ∙ get_or-append-add all (script_scoping tops t ++ rest) id none
    ∙ get_or_append_left (script_scoping tops t) rest none id (omega arith)
    ∙ get_or-map-range_with_len (scoping_at tops t) 0 (length t.branches) id id none below (omega arith)

among : (before : List Plant) (t : Plant) (after : List Plant) → All IsScriptTree (before ++ t ∷ after) → IsScriptTree t
among before t after all = subst IsScriptTree (get_or-append_seam before t after t) (all (length before) t (omega (arith, length-append before (t ∷ after))))

pub names_bound : NamesAreBoundAtHome
unfolding program_of
names_bound before t after all id node p is e =
    subst (λ (s : Scoping). IsBoundAtHome (top_scope (before ++ t ∷ after)) t id (units_at t.units p) s.resolved)
    (sym (scoped (top_scope (before ++ t ∷ after)) before t after id (there t.units t.branches id node is)))
    (node_bound before t after (rooted t (among before t after all)) id node p is e)

itself : (tops : List Name) (t : Plant) (id : ℕ) (f : Form) (p : Piece) → name_for_itself f ≡ Some p → IsBoundByItself (scopes_made tops t id f) (units_at t.units p) (node_meaning tops t id f).resolved
itself tops t id (F.Catch q) p e =
    let same : q ≡ p = let h : Some q ≡ Some p = e in cc in
    record { inner = []; is_own = false; makes = ap (λ n. scope_of_names (units_at t.units n ∷ []) ∷ []) same; means = refl }
itself tops t id (F.Function head) p e = record {
  inner = scope_of_names (function_scope t id) ∷ [];
  is_own = true;
  makes = ap (λ o. scope_of_names (function_scope t id) ∷ own_scope t o) e;
  means = ap (λ o. (own_meaning o).resolved) e;
}
itself tops t id f p e = absurd (let h : None ≡ Some p = e in cc)

node_itself : (tops : List Name) (t : Plant) (id : ℕ) (node : Node) (p : Piece) → node_of t.branches id ≡ Some node → name_for_itself node.form ≡ Some p
    → IsBoundByItself (scopes_made tops t id node.form) (units_at t.units p) (scoping_at tops t id).resolved
node_itself tops t id node p is e =
    subst (λ f. IsBoundByItself (scopes_made tops t id node.form) (units_at t.units p) (node_meaning tops t id f).resolved) (sym (ap form_or_empty is)) (itself tops t id node.form p e)

pub own_names_bound : OwnNamesAreBound
unfolding program_of
own_names_bound before t after id node p is e =
    subst (λ (s : Scoping). IsBoundByItself (scopes_made (top_scope (before ++ t ∷ after)) t id node.form) (units_at t.units p) s.resolved)
    (sym (scoped (top_scope (before ++ t ∷ after)) before t after id (there t.units t.branches id node is)))
    (node_itself (top_scope (before ++ t ∷ after)) t id node p is e)

-- ---- ALL NODES

-- a node that binds a name is resolved to a binding
abbrev Says : Form → Scoping → Type 0
Says f said = is_some (bound_name f) ≡ true → is_binding said.resolved ≡ true

binding : (r : Option Resolved) (o : Option ℕ) (many place : ℕ) → r ≡ Some (nearest_binding o many place) → is_binding r ≡ true
binding r None many place e = ap is_binding e
binding r (Some up) many place e = ap is_binding e

says_form : (f : Form) (r : Option Resolved) → ((p : Piece) → name_for_home f ≡ Some p → is_binding r ≡ true) → ((p : Piece) → name_for_itself f ≡ Some p → is_binding r ≡ true)
    → is_some (bound_name f) ≡ true → is_binding r ≡ true
says_form (F.Declarator p) r around itself e = around p refl
says_form (F.Parameter p) r around itself e = around p refl
says_form (F.Catch p) r around itself e = itself p refl
says_form (F.FunctionDeclaration head) r around itself e = by head.name refl e
  where
    by : (o : Option Piece) → head.name ≡ o → is_some o ≡ true → is_binding r ≡ true
    by None is e = absurd (false≢true e)
    by (Some p) is e = around p is
says_form (F.Function head) r around itself e = by head.name refl e
  where
    by : (o : Option Piece) → head.name ≡ o → is_some o ≡ true → is_binding r ≡ true
    by None is e = absurd (false≢true e)
    by (Some p) is e = itself p is
says_form f r around itself e = absurd (false≢true e)

-- the same of all nodes of a script
abbrev SaysAll : List Name → Plant → Type 0
SaysAll tops t = (id : ℕ) (node : Node) → node_of t.branches id ≡ Some node → Says node.form (scoping_at tops t id)

tree_says : (before : List Plant) (t : Plant) (after : List Plant) → IsRooted t → SaysAll (top_scope (before ++ t ∷ after)) t
tree_says before t after root id node is =
    let tops = top_scope (before ++ t ∷ after) in
    says_form node.form (scoping_at tops t id).resolved
    (λ p e. let b = node_bound before t after root id node p is e in
    binding (scoping_at tops t id).resolved (place_in (caught t (around t id)) (units_at t.units p)) (length (caught t (around t id))) b.place b.means)
    (λ p e. let b = node_itself tops t id node p is e in ap is_binding b.means)

all_say : (tops : List Name) (before after : List Plant) → tops ≡ top_scope (before ++ after) → All IsScriptTree after → All (SaysAll tops) after
all_say tops before [] e all = All-nil (SaysAll tops)
all_say tops before (t ∷ after) e all =
    All-cons (SaysAll tops) t after
    (subst (λ ns. SaysAll ns t) (sym e) (tree_says before t after (rooted t (All-head IsScriptTree t after all))))
    (all_say tops (before ++ t ∷ []) after (e ∙ ap top_scope (sym (append_assoc before (t ∷ []) after))) (All-tail IsScriptTree t after all))

-- of each branch this is said
abbrev Agree : List Branch → List Scoping → Type 0
Agree [] [] = ⊤
Agree [] (s ∷ ss) = ⊥
Agree (b ∷ bs) [] = ⊥
Agree (b ∷ bs) (s ∷ ss) = Says b.node.form s × Agree bs ss

agree_append : (bs cs : List Branch) (ss us : List Scoping) → Agree bs ss → Agree cs us → Agree (bs ++ cs) (ss ++ us)
agree_append [] cs [] us a b = b
agree_append [] cs (s ∷ ss) us a b = absurd a
agree_append (x ∷ bs) cs [] us a b = absurd a
agree_append (x ∷ bs) cs (s ∷ ss) us a b = (a.0, agree_append bs cs ss us a.1 b)

moved_bound : (f : Piece → Piece) (form : Form) → is_some (bound_name (with_pieces f form)) ≡ is_some (bound_name form)
moved_bound f (F.FunctionDeclaration head) = by head.name
  where
    by : (o : Option Piece) → is_some (bound_name (with_pieces f (F.FunctionDeclaration (record head { name = o })))) ≡ is_some o
    by None = refl
    by (Some p) = refl
moved_bound f (F.Function head) = by head.name
  where
    by : (o : Option Piece) → is_some (bound_name (with_pieces f (F.Function (record head { name = o })))) ≡ is_some o
    by None = refl
    by (Some p) = refl
moved_bound f _ = refl

-- the last branches of a script, from this number on
script_from : (tops : List Name) (t : Plant) (many branches units at : ℕ) (bs : List Branch) → ((j : ℕ) (node : Node) → node_of bs j ≡ Some node → Says node.form (scoping_at tops t (at + j)))
    → Agree (map (moved_branch many branches units) bs) (map (scoping_at tops t) (range_with_len at (length bs)))
script_from tops t many branches units at [] each = tt
script_from tops t many branches units at (b ∷ bs) each = (
  λ e. subst (λ n. is_binding (scoping_at tops t n).resolved ≡ true) (let e : at + 0 ≡ at = omega arith in e) (each 0 b.node refl (sym (moved_bound (moved_piece many units) b.node.form) ∙ e)),
  script_from tops t many branches units (at + 1) bs (λ j node is. subst (λ n. Says node.form (scoping_at tops t n)) (let e : at + suc j ≡ at + 1 + j = omega arith in e) (each (suc j) node is)),
)

scripts_agree : (tops : List Name) (g : Grove) (said : List Scoping) (trees : List Plant) → Agree g.branches said → All (SaysAll tops) trees
    → Agree (fold with_tree g trees).branches (said ++ flat_map (script_scoping tops) trees)
scripts_agree tops g said [] agree all = subst (Agree g.branches) (sym (append-nil said)) agree
scripts_agree tops g said (t ∷ ts) agree all =
    let moved = map (moved_branch (length t.units) (length g.branches) (length g.units)) t.branches in
    let own : Agree moved (script_scoping tops t) =
    script_from tops t (length t.units) (length g.branches) (length g.units) 0 t.branches
    (λ j node is. subst (λ n. Says node.form (scoping_at tops t n)) (let e : j ≡ 0 + j = omega arith in e) (All-head (SaysAll tops) t ts all j node is)) in
    let first : Agree (g.branches ++ moved) (said ++ script_scoping tops t) = agree_append g.branches moved said (script_scoping tops t) agree own in
    subst (Agree (fold with_tree (with_tree g t) ts).branches) (append_assoc said (script_scoping tops t) (flat_map (script_scoping tops) ts))
    (scripts_agree tops (with_tree g t) (said ++ script_scoping tops t) ts first (All-tail (SaysAll tops) t ts all))

agree_at : (bs : List Branch) (ss : List Scoping) (id : ℕ) (node : Node) → Agree bs ss → node_of bs id ≡ Some node → Says node.form (scoping_of ss id)
agree_at [] [] id node agree e = absurd (let h : None ≡ Some node = e in cc)
agree_at [] (s ∷ ss) id node agree e = absurd agree
agree_at (b ∷ bs) [] id node agree e = absurd agree
agree_at (b ∷ bs) (s ∷ ss) zero node agree e =
    let same : b.node ≡ node = let h : Some b.node ≡ Some node = e in cc in
    subst (λ (n : Node). Says n.form s) same agree.0
agree_at (b ∷ bs) (s ∷ ss) (suc id) node agree e = agree_at bs ss id node agree.1 e

pub bound_names : BoundNamesAreResolved
unfolding program_of
bound_names trees all id node e =
    let tops = top_scope trees in
    let agree = scripts_agree tops (record { branches = []; units = []; roots = [] }) [] trees tt (all_say tops [] trees refl all) in
    agree_at (joined trees).branches (flat_map (script_scoping tops) trees) id node agree e
