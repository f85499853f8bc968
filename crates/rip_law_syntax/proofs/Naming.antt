-- The names of nodes are among those of the script or function that binds them.
use Rattle.std.proofs.Common.{◌≡◌, ℕ, ◌+◌, ◌==◌, inl, inr, Bool, true, false, cond, if◌then◌else◌, List, [], ◌∷◌, ◌++◌, filter_map, fold, Option, Some, None, option_map, refl, sym, ap, ◌∙◌, subst}
use Rattle.std.specs.List.{cons_option, flat_map, position_from}
use Rattle.std.specs.Str.{bytes_eq}
use Rattle.std.proofs.lemmas.Bool.Decides.{eqb_tells}
use Rattle.std.proofs.lemmas.Iterator.Adapters.{position_from-zero}
use Rattle.std.proofs.lemmas.Slice.Eq.{bytes_eq-Decides}
use Rattle.rip_tree.specs.Branches.{Plant, units_at}
use Rattle.rip_tree.specs.declared.form.Form.{Form}
use Rattle.rip_tree.specs.declared.form.Form.TheVariants as F
use Rattle.rip_tree.specs.declared.node.Piece.{Piece}
use Rattle.rip_early.specs.Around.{form_of, children_of, in_text, home_of}
use Rattle.rip_early.specs.Names.{Name, place_in, with_name, distinct, name_by, parameter_piece, declared_piece, var_piece, parameter_names, function_names, is_number, is_at_home, var_name_in, var_names, function_scope, top_scope}
use Rattle.rip_law_syntax.proofs.Rooted.{In, in_left, in_right, in_flat_map}

-- PLACES

-- a name among these has a place
in_placed : (q : Name) (i : ℕ) (names : List Name) → In q names → (place : ℕ) × (position_from (λ other. bytes_eq other q) i names ≡ Some place)
in_placed q i [] is = absurd is
in_placed q i (n ∷ names) is = by (bytes_eq n q) refl is (λ more. in_placed q (i + 1) names more)
  where
    by : (b : Bool) → bytes_eq n q ≡ b → In q (n ∷ names) → (In q names → (place : ℕ) × (position_from (λ other. bytes_eq other q) (i + 1) names ≡ Some place))
        → (place : ℕ) × (position_from (λ other. bytes_eq other q) i (n ∷ names) ≡ Some place)
    by true e is below = (i, ap (λ b. cond b (Some i) (position_from (λ other. bytes_eq other q) (i + 1) names)) e)
    by false e (inl same) below = absurd (let h : true ≡ false = sym ((bytes_eq-Decides n q).1 same) ∙ e in cc)
    by false e (inr more) below =
        let found = below more in
        (found.0, ap (λ b. cond b (Some i) (position_from (λ other. bytes_eq other q) (i + 1) names)) e ∙ found.1)

pub has_place : (q : Name) (names : List Name) → In q names → (place : ℕ) × (place_in names q ≡ Some place)
has_place q names is = let found = in_placed q 0 names is in (found.0, position_from-zero (λ other. bytes_eq other q) names ∙ found.1)

-- a name with a place is among these
placed_in : (q : Name) (i place : ℕ) (names : List Name) → position_from (λ other. bytes_eq other q) i names ≡ Some place → In q names
placed_in q i place [] e = absurd (let h : None ≡ Some place = e in cc)
placed_in q i place (n ∷ names) e = by (bytes_eq n q) refl e (λ h. placed_in q (i + 1) place names h)
  where
    by : (b : Bool) → bytes_eq n q ≡ b → cond b (Some i) (position_from (λ other. bytes_eq other q) (i + 1) names) ≡ Some place
        → (position_from (λ other. bytes_eq other q) (i + 1) names ≡ Some place → In q names) → In q (n ∷ names)
    by true is e below = inl ((bytes_eq-Decides n q).0 is)
    by false is e below = inr (below e)

-- NAMES ONCE

with_kept : (names : List Name) (name q : Name) (o : Option ℕ) → In q names → In q (elim o as (λ _. List Name) [ Some place ↦ names | None ↦ names ++ name ∷ [] ])
with_kept names name q None is = in_left q names (name ∷ []) is
with_kept names name q (Some place) is = is

with_own : (names : List Name) (name : Name) (o : Option ℕ) → place_in names name ≡ o → In name (elim o as (λ _. List Name) [ Some place ↦ names | None ↦ names ++ name ∷ [] ])
with_own names name None e = in_right name names (name ∷ []) (inl refl)
with_own names name (Some place) e = placed_in name 0 place names (sym (position_from-zero (λ other. bytes_eq other name) names) ∙ e)

fold_kept : (q : Name) (before names : List Name) → In q before → In q (fold with_name before names)
fold_kept q before [] is = is
fold_kept q before (n ∷ names) is = fold_kept q (with_name before n) names (with_kept before n q (place_in before n) is)

fold_own : (q : Name) (before names : List Name) → In q names → In q (fold with_name before names)
fold_own q before [] is = absurd is
fold_own q before (n ∷ names) (inl same) =
    fold_kept q (with_name before n) names (subst (λ m. In m (with_name before n)) same (with_own before n (place_in before n) refl))
fold_own q before (n ∷ names) (inr more) = fold_own q (with_name before n) names more

-- each of the names is among those that stand once
pub in_distinct : (q : Name) (names : List Name) → In q names → In q (distinct names)
in_distinct q names is = fold_own q [] names is

-- NODES

in_filter_map : {X : Type 0} (f : X → Option Name) (x : X) (q : Name) (xs : List X) → In x xs → f x ≡ Some q → In q (filter_map f xs)
in_filter_map f x q [] is e = absurd is
in_filter_map f x q (y ∷ xs) (inl same) e = by (f y) (ap f same ∙ e)
  where
    by : (o : Option Name) → o ≡ Some q → In q (cons_option o (filter_map f xs))
    by None e = absurd (let h : None ≡ Some q = e in cc)
    by (Some n) e = inl (let h : Some n ≡ Some q = e in cc)
in_filter_map f x q (y ∷ xs) (inr more) e = by (f y) (in_filter_map f x q xs more e)
  where
    by : (o : Option Name) → In q (filter_map f xs) → In q (cons_option o (filter_map f xs))
    by None below = below
    by (Some n) below = inr below

named_by : (piece : Form → Option Piece) (t : Plant) (id : ℕ) (p : Piece) → piece (form_of t id) ≡ Some p → name_by piece t id ≡ Some (units_at t.units p)
named_by piece t id p e = ap (option_map (units_at t.units)) e

-- a child of a function that is a parameter
pub parameter_in : (t : Plant) (home id : ℕ) (p : Piece) → In id (children_of t home) → form_of t id ≡ F.Parameter p → In (units_at t.units p) (parameter_names t home)
parameter_in t home id p child e = in_filter_map (name_by parameter_piece t) id (units_at t.units p) (children_of t home) child (named_by parameter_piece t id p (ap parameter_piece e))

-- a child that is a declaration
pub function_in : (t : Plant) (home id : ℕ) (p : Piece) → In id (children_of t home) → declared_piece (form_of t id) ≡ Some p → In (units_at t.units p) (function_names t home)
function_in t home id p child e = in_filter_map (name_by declared_piece t) id (units_at t.units p) (children_of t home) child (named_by declared_piece t id p e)

at_home : (t : Plant) (home id : ℕ) → home_of t id ≡ Some home → is_at_home t home id ≡ true
at_home t home id e = ap (λ o. is_number o home) e ∙ same home
  where
    same : (n : ℕ) → (n == n) ≡ true
    same n = elim (eqb_tells n n) [ inl here ↦ here.0 | inr other ↦ absurd (other.1 refl) ]

-- a part of `var` in the code of a script or a function
pub var_in : (t : Plant) (home id : ℕ) (p : Piece) → In id (in_text t) → home_of t id ≡ Some home → form_of t id ≡ F.Declarator p → In (units_at t.units p) (var_names t home)
var_in t home id p there nearest e =
    in_filter_map (var_name_in t home) id (units_at t.units p) (in_text t) there
    (ap (λ b. if b then name_by var_piece t id else None) (at_home t home id nearest) ∙ named_by var_piece t id p (ap var_piece e))

-- SCOPES

pub in_function_scope : (t : Plant) (id : ℕ) (q : Name) → In q (parameter_names t id ++ function_names t id ++ var_names t id) → In q (function_scope t id)
unfolding function_scope
in_function_scope t id q is = in_distinct q (parameter_names t id ++ function_names t id ++ var_names t id) is

pub in_top_scope : (before : List Plant) (t : Plant) (after : List Plant) (q : Name) → In q (function_names t 0 ++ var_names t 0) → In q (top_scope (before ++ t ∷ after))
unfolding top_scope
in_top_scope before t after q is =
    in_distinct q (flat_map (λ s. function_names s 0 ++ var_names s 0) (before ++ t ∷ after))
    (in_flat_map (λ s. function_names s 0 ++ var_names s 0) t q (before ++ t ∷ after) (in_right t before (t ∷ after) (inl refl)) is)
