-- The inner scopes around a node that bind a name.
use Rattle.std.proofs.Common.{◌≡◌, ℕ, suc, List, [], ◌∷◌, ◌++◌, Option, Some, None, option_map, is_some, Bool, true, false, ◌||◌, refl, sym, ap, ◌∙◌}
use Rattle.std.specs.List.{flat_map}
use Rattle.rip_values.specs.declared.global.Global.{Global as GlobalName}
use Rattle.rip_values.specs.Globals.{global_named}
use Rattle.rip_tree.specs.declared.form.Form.{Form}
use Rattle.rip_tree.specs.declared.form.Form.TheVariants as F
use Rattle.rip_tree.specs.declared.program.Resolved.TheVariants.{Binding, Global}
use Rattle.rip_tree.specs.Branches.{Plant}
use Rattle.rip_early.specs.declared.meaning.Meaning.{Meaning}
use Rattle.rip_early.specs.Around.{form_of, around}
use Rattle.rip_early.specs.Looking.{is_binding}
use Rattle.rip_early.specs.Mistakes.{is_bound_in}
use Rattle.rip_early.specs.Names.{Name, place_in}
use Rattle.rip_early.specs.Scopes.{Scope, inner_made, inner_scopes, meaning_in, scopes_made, scopes_among, scopes_around}

-- a global is no binding
global-unbound : (o : Option GlobalName) → is_binding (option_map Global o) ≡ false
global-unbound None = refl
global-unbound (Some global) = refl

meaning-found : (o : Option ℕ) (up : ℕ) (is_own rest : Bool) (otherwise : Meaning) → is_binding otherwise.resolved ≡ rest
    → is_binding (elim o as (λ _. Meaning) [ Some place ↦ record { resolved = Some (Binding up place); is_own = is_own } | None ↦ otherwise ]).resolved ≡ is_some o || rest
meaning-found None up is_own rest otherwise same = same
meaning-found (Some place) up is_own rest otherwise same = refl

-- a name means a binding where one of the scopes binds it
binding-bound : (ss : List Scope) (up : ℕ) (name : Name) → is_binding (meaning_in up ss name).resolved ≡ is_bound_in ss name
binding-bound [] up name = global-unbound (global_named name)
binding-bound (s ∷ ss) up name = meaning-found (place_in s.names name) up s.is_own (is_bound_in ss name) (meaning_in (suc up) ss name) (binding-bound ss (suc up) name)

bound-append : (xs ys : List Scope) (name : Name) → is_bound_in (xs ++ ys) name ≡ is_bound_in xs name || is_bound_in ys name
bound-append [] ys name = refl
bound-append (x ∷ xs) ys name =
    elim (is_some (place_in x.names name)) as (λ b. b || is_bound_in (xs ++ ys) name ≡ (b || is_bound_in xs name) || is_bound_in ys name) [ true ↦ refl | false ↦ bound-append xs ys name ]

-- a script whose scope has no name binds none
made-bound : (t : Plant) (id : ℕ) (f : Form) (name : Name) → is_bound_in (scopes_made [] t id f) name ≡ is_bound_in (inner_made t id f) name
made-bound t id F.Script name = refl
made-bound t id f name = refl

among-bound : (t : Plant) (ids : List ℕ) (name : Name) → is_bound_in (scopes_among [] t ids) name ≡ is_bound_in (flat_map (λ a. inner_made t a (form_of t a)) ids) name
among-bound t [] name = refl
among-bound t (a ∷ ids) name =
    bound-append (scopes_made [] t a (form_of t a)) (scopes_among [] t ids) name
    ∙ ap (λ b. b || is_bound_in (scopes_among [] t ids) name) (made-bound t a (form_of t a) name)
    ∙ ap (λ b. is_bound_in (inner_made t a (form_of t a)) name || b) (among-bound t ids name)
    ∙ sym (bound-append (inner_made t a (form_of t a)) (flat_map (λ b. inner_made t b (form_of t b)) ids) name)

-- while the top scope has no name, a name means a binding where an inner scope binds it
pub inner-bound : (t : Plant) (id : ℕ) (name : Name) → is_binding (meaning_in 0 (scopes_around [] t id) name).resolved ≡ is_bound_in (inner_scopes t id) name
inner-bound t id name = binding-bound (scopes_around [] t id) 0 name ∙ among-bound t (around t id) name
