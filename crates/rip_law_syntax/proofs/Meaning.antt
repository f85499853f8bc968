-- What a name means from a node on that the nearest script or function binds it for.
use Rattle.std.proofs.Common.{◌≡◌, ℕ, suc, ◌+◌, Bool, true, false, cond, if◌then◌else◌, List, [], ◌∷◌, ◌++◌, length, map, Option, Some, None, refl, sym, ap, ◌∙◌, arith}
use Rattle.std.specs.List.{position_from}
use Rattle.std.specs.Str.{bytes_eq}
use Rattle.std.proofs.lemmas.Iterator.Adapters.{position_from-zero}
use Rattle.rip_tree.specs.Branches.{Plant, units_at}
use Rattle.rip_tree.specs.declared.form.Form.{Form}
use Rattle.rip_tree.specs.declared.form.Form.TheVariants as F
use Rattle.rip_tree.specs.declared.program.Resolved.TheVariants.{Binding}
use Rattle.rip_early.specs.Around.{form_of, is_home, first_with}
use Rattle.rip_early.specs.Names.{Name, place_in, function_scope}
use Rattle.rip_early.specs.Scopes.{Scope, meaning_in, own_scope, scope_of_names, scopes_made, scopes_among}
use Rattle.rip_law_syntax.specs.Bound.{catch_scope, caught, caught_by, names_bound_by, nearest_binding}

-- where a name stands among these names, the first of which has this number
abbrev from : Name → ℕ → List Name → Option ℕ
from name up names = position_from (λ other. bytes_eq other name) up names

-- the first scope binds the name
first_means : (names : List Name) (is_own : Bool) (up place : ℕ) (rest : List Scope) (name : Name) → place_in names name ≡ Some place
    → (meaning_in up (record { names = names; is_own = is_own } ∷ rest) name).resolved ≡ Some (Binding up place)
first_means names is_own up place rest name e = rw (e, meaning_in) refl

-- the first scope does not
next_means : (names : List Name) (is_own : Bool) (up : ℕ) (rest : List Scope) (name : Name) → place_in names name ≡ None
    → (meaning_in up (record { names = names; is_own = is_own } ∷ rest) name).resolved ≡ (meaning_in (suc up) rest name).resolved
next_means names is_own up rest name e = rw (e, meaning_in) refl

-- the scope of a script or a function binds the name, and no catch clause stands within
home_means : (names : List Name) (up place : ℕ) (rest : List Scope) (name : Name) → place_in names name ≡ Some place
    → (meaning_in up (scope_of_names names ∷ rest) name).resolved ≡ Some (nearest_binding (from name up []) (up + 0) place)
home_means names up place rest name e = first_means names false up place rest name e ∙ ap (λ n. Some (Binding n place)) (let e : up ≡ up + 0 = omega arith in e)

-- a catch clause of one name stands before these scopes
catch_means : (n name : Name) (up place : ℕ) (inner : List Name) (rest : List Scope)
    → (meaning_in (up + 1) rest name).resolved ≡ Some (nearest_binding (from name (up + 1) inner) (up + 1 + length inner) place)
    → (meaning_in up (scope_of_names (n ∷ []) ∷ rest) name).resolved ≡ Some (nearest_binding (from name up (n ∷ inner)) (up + length (n ∷ inner)) place)
catch_means n name up place inner rest outer = by (bytes_eq n name) refl
  where
    own : place_in (n ∷ []) name ≡ cond (bytes_eq n name) (Some 0) None
    own = position_from-zero (λ other. bytes_eq other name) (n ∷ [])

    by : (b : Bool) → bytes_eq n name ≡ b
        → (meaning_in up (scope_of_names (n ∷ []) ∷ rest) name).resolved ≡ Some (nearest_binding (from name up (n ∷ inner)) (up + length (n ∷ inner)) place)
    by true is =
        first_means (n ∷ []) false up 0 rest name (own ∙ ap (λ b. cond b (Some 0) None) is)
        ∙ ap (λ b. Some (nearest_binding (cond b (Some up) (from name (up + 1) inner)) (up + length (n ∷ inner)) place)) (sym is)
    by false is =
        next_means (n ∷ []) false up rest name (own ∙ ap (λ b. cond b (Some 0) None) is)
        ∙ ap (λ k. (meaning_in k rest name).resolved) (let e : suc up ≡ up + 1 = omega arith in e)
        ∙ outer
        ∙ ap (λ k. Some (nearest_binding (from name (up + 1) inner) k place)) (let e : up + 1 + length inner ≡ up + length (n ∷ inner) = omega arith in e)
        ∙ ap (λ b. Some (nearest_binding (cond b (Some up) (from name (up + 1) inner)) (up + length (n ∷ inner)) place)) (sym is)

-- the nearest script or function is this one
module _ (top : List Name) (t : Plant) (home : ℕ) where
  -- of these scopes the first are those of catch clauses with these names, and then comes that of the script or function
  abbrev Stand : List Scope → List Name → Type 0
  Stand scopes inner = (outer : List Scope) × (scopes ≡ map catch_scope inner ++ scope_of_names (names_bound_by top t home (form_of t home)) ∷ outer)

  names_at : (a : ℕ) (f : Form) → form_of t a ≡ f → Some a ≡ Some home → names_bound_by top t a f ≡ names_bound_by top t home (form_of t home)
  names_at a f form same =
      let is : a ≡ home = cc in
      ap (λ g. names_bound_by top t a g) (sym form) ∙ ap (λ n. names_bound_by top t n (form_of t n)) is

  stand_step : (a : ℕ) (rest : List Scope) (inner : List Name) (outer : Option ℕ) (f : Form) → form_of t a ≡ f → (if is_home f then Some a else outer) ≡ Some home
      → (outer ≡ Some home → Stand rest inner) → Stand (scopes_made top t a f ++ rest) (caught_by t f inner)
  stand_step a rest inner outer F.Script form nearest stand = (rest, ap (λ ns. scope_of_names ns ∷ rest) (names_at a F.Script form nearest))
  stand_step a rest inner outer (F.FunctionDeclaration head) form nearest stand = (rest, ap (λ ns. scope_of_names ns ∷ rest) (names_at a (F.FunctionDeclaration head) form nearest))
  stand_step a rest inner outer (F.Function head) form nearest stand =
      (own_scope t head.name ++ rest, ap (λ ns. scope_of_names ns ∷ own_scope t head.name ++ rest) (names_at a (F.Function head) form nearest))
  stand_step a rest inner outer (F.Catch p) form nearest stand = let more = stand nearest in (more.0, ap (λ ss. catch_scope (units_at t.units p) ∷ ss) more.1)
  stand_step a rest inner outer f form nearest stand = stand nearest

  -- the scopes that nodes make, of which this is the first script or function
  pub home_stands : (ids : List ℕ) → first_with is_home t ids ≡ Some home → Stand (scopes_among top t ids) (caught t ids)
  home_stands [] nearest = absurd (let h : None ≡ Some home = nearest in cc)
  home_stands (a ∷ outer) nearest = stand_step a (scopes_among top t outer) (caught t outer) (first_with is_home t outer) (form_of t a) refl nearest (λ is. home_stands outer is)

-- the name is one that this script or function binds
module _ (top : List Name) (t : Plant) (home place : ℕ) (name : Name) (bound : place_in (names_bound_by top t home (form_of t home)) name ≡ Some place) where
  -- what it means from these nodes on, where so many scopes were passed
  abbrev Means : ℕ → List Scope → List Name → Type 0
  Means up scopes inner = (meaning_in up scopes name).resolved ≡ Some (nearest_binding (from name up inner) (up + length inner) place)

  bound_at : (a : ℕ) (f : Form) → form_of t a ≡ f → Some a ≡ Some home → place_in (names_bound_by top t a f) name ≡ Some place
  bound_at a f form same = ap (λ ns. place_in ns name) (names_at top t home a f form same) ∙ bound

  step : (a : ℕ) (rest : List Scope) (inner : List Name) (outer : Option ℕ) (f : Form) → form_of t a ≡ f → (if is_home f then Some a else outer) ≡ Some home
      → ((up : ℕ) → outer ≡ Some home → Means up rest inner) → (up : ℕ) → Means up (scopes_made top t a f ++ rest) (caught_by t f inner)
  step a rest inner outer F.Script form nearest means up = home_means top up place rest name (bound_at a F.Script form nearest)
  step a rest inner outer (F.FunctionDeclaration head) form nearest means up =
      home_means (function_scope t a) up place rest name (bound_at a (F.FunctionDeclaration head) form nearest)
  step a rest inner outer (F.Function head) form nearest means up =
      home_means (function_scope t a) up place (own_scope t head.name ++ rest) name (bound_at a (F.Function head) form nearest)
  step a rest inner outer (F.Catch p) form nearest means up = catch_means (units_at t.units p) name up place inner rest (means (up + 1) nearest)
  step a rest inner outer f form nearest means up = means up nearest

  among_means : (ids : List ℕ) → first_with is_home t ids ≡ Some home → (up : ℕ) → Means up (scopes_among top t ids) (caught t ids)
  among_means [] nearest up = absurd (let h : None ≡ Some home = nearest in cc)
  among_means (a ∷ outer) nearest up =
      step a (scopes_among top t outer) (caught t outer) (first_with is_home t outer) (form_of t a) refl nearest (λ k is. among_means outer is k) up

  -- from the first scope on
  pub home_binds : (ids : List ℕ) → first_with is_home t ids ≡ Some home
      → (meaning_in 0 (scopes_among top t ids) name).resolved ≡ Some (nearest_binding (place_in (caught t ids) name) (length (caught t ids)) place)
  home_binds ids nearest =
      among_means ids nearest 0
      ∙ ap (λ k. Some (nearest_binding (from name 0 (caught t ids)) k place)) (let e : 0 + length (caught t ids) ≡ length (caught t ids) = omega arith in e)
      ∙ ap (λ o. Some (nearest_binding o (length (caught t ids)) place)) (sym (position_from-zero (λ other. bytes_eq other name) (caught t ids)))
