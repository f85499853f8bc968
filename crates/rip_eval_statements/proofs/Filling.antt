-- The scope of a function, as its bindings are filled one after another.
use Rattle.std.proofs.Common.{◌≡◌, ℕ, zero, suc, ◌+◌, Bool, true, false, if◌then◌else◌, List, [], ◌∷◌, Option, None, Some, option_and_then, slice_get, slice_index_or, refl, sym, ap, ◌∙◌, arith, add-one}
use Rattle.rip_base.specs.declared.value.Value.{Value}
use Rattle.rip_base.specs.declared.value.Value.TheVariants.{Undefined}
use Rattle.rip_heap.specs.Scopes.{bound_in, with_binding}
use Rattle.rip_heap.specs.World.{Scope, World}
use Rattle.rip_tree.specs.declared.program.Resolved.{Resolved}
use Rattle.rip_tree.specs.declared.program.Resolved.TheVariants.{Binding, Global}
use Rattle.rip_eval_language.specs.Reading.{Loaded, child, form_of, scoping}
use Rattle.rip_eval_language.specs.Rows.Functions.{declared_functions, with_arguments, with_function, with_functions, with_undefined}
use Rattle.rip_eval_language.specs.Rows.Names.{bound, scope_up}
use Rattle.rip_eval_language.specs.Rows.Statements.{is_declaration}

pub undefined_none : (scope : ℕ) (w : World) → with_undefined scope 0 w ≡ w
unfolding with_undefined
undefined_none scope w = refl

pub undefined_more : (scope n : ℕ) (w : World) → with_undefined scope (n + 1) w ≡ with_binding (with_undefined scope n w) scope n Undefined
unfolding with_undefined
undefined_more scope n w = rw (add-one n) refl

pub arguments_none : (p : Loaded) (f scope : ℕ) (args : List Value) (w : World) → with_arguments p f scope args 0 w ≡ w
unfolding with_arguments
arguments_none p f scope args w = refl

pub arguments_more : (p : Loaded) (f scope : ℕ) (args : List Value) (n : ℕ) (w : World)
    → with_arguments p f scope args (n + 1) w ≡ bound (with_arguments p f scope args n w) scope (scoping p (child p f n)).resolved (slice_index_or args n Undefined)
unfolding with_arguments
arguments_more p f scope args n w = rw (add-one n) refl

-- NOTHING IS CHARGED

binding_cells : (w : World) (n place : ℕ) (v : Value) (o : Option Scope) → (bound_in w n place v o).cells ≡ w.cells
binding_cells w n place v None = refl
binding_cells w n place v (Some s) = refl

pub bound_cells : (w : World) (scope : ℕ) (r : Option Resolved) (v : Value) → (bound w scope r v).cells ≡ w.cells
bound_cells w scope None v = refl
bound_cells w scope (Some (Global g)) v = refl
bound_cells w scope (Some (Binding up place)) v = binding_cells w (scope_up w scope up) place v (slice_get w.scopes (scope_up w scope up))

undefined_cells : (scope n : ℕ) (w : World) → (with_undefined scope n w).cells ≡ w.cells
unfolding with_undefined
undefined_cells scope zero w = refl
undefined_cells scope (suc n) w =
    let before = with_undefined scope n w in
    binding_cells before scope n Undefined (slice_get before.scopes scope) ∙ undefined_cells scope n w

arguments_cells : (p : Loaded) (f scope : ℕ) (args : List Value) (n : ℕ) (w : World) → (with_arguments p f scope args n w).cells ≡ w.cells
unfolding with_arguments
arguments_cells p f scope args zero w = refl
arguments_cells p f scope args (suc n) w =
    bound_cells (with_arguments p f scope args n w) scope (scoping p (child p f n)).resolved (slice_index_or args n Undefined) ∙ arguments_cells p f scope args n w

pub filling_cells : (p : Loaded) (f scope : ℕ) (args : List Value) (n names : ℕ) (w : World)
    → (with_arguments p f scope args n (with_undefined scope names w)).cells ≡ w.cells
filling_cells p f scope args n names w = arguments_cells p f scope args n (with_undefined scope names w) ∙ undefined_cells scope names w

-- where no function is declared nothing is made
pub none_declared : (p : Loaded) (scope : ℕ) (fs : List ℕ) (w : World) → declared_functions p fs ≡ 0 → with_functions p scope fs w ≡ Some w
none_declared p scope [] w h = refl
none_declared p scope (f ∷ fs) w h = by (is_declaration (form_of p f)) refl (none_declared p scope fs w)
  where
    by : (b : Bool) → is_declaration (form_of p f) ≡ b → (declared_functions p fs ≡ 0 → with_functions p scope fs w ≡ Some w) → with_functions p scope (f ∷ fs) w ≡ Some w
    by true e rest = absurd (let n : 1 + declared_functions p fs ≡ 0 = sym (ap (λ d. (if d then 1 else 0) + declared_functions p fs) e) ∙ h in omega arith)
    by false e rest =
        let n : 0 + declared_functions p fs ≡ 0 = sym (ap (λ d. (if d then 1 else 0) + declared_functions p fs) e) ∙ h in
        ap (λ d. if d then option_and_then (with_functions p scope fs) (with_function p scope f w) else with_functions p scope fs w) e ∙ rest (omega (arith, n))
