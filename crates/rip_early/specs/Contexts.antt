-- What is kept of each node of a tree while it is checked: its parent, and what stands around it.
use Rattle.std.specs.Prelude.{◌≡◌, ℕ, ◌<◌, Bool, true, not, ◌&&◌, ◌||◌, if◌then◌else◌, List, length, Option, None, Some, slice_index_or}
use Rattle.rip_tree.specs.declared.form.Form.{Form}
use Rattle.rip_tree.specs.declared.form.Form.TheVariants as F
use Rattle.rip_tree.specs.Branches.{Plant}
use Rattle.rip_early.specs.Around.{parent_of, around, forms_of, first_with, is_function, is_home}
use Rattle.rip_early.specs.Mistakes.{has_function, has_target, is_left_by_break, is_loop}
use Rattle.rip_early.specs.declared.context.Context.{Context}

-- the forms that make scopes
abbrev pub makes_scope : Form → Bool
makes_scope (F.Catch p) = true
makes_scope f = is_home f

-- these are the parents of the nodes of the tree
pub record AreParents (t : Plant) (parents : List (Option ℕ)) : Type 0 where
  pub many : length parents ≡ length t.branches
  pub each : (id : ℕ) → id < length t.branches → slice_index_or parents id None ≡ parent_of t id

-- what the nodes around another say of it
abbrev pub context_among : Plant → List ℕ → Context
context_among t outer = record {
  home = first_with is_home t outer;
  maker = first_with makes_scope t outer;
  in_function = has_function (forms_of t outer);
  may_break = has_target is_left_by_break (forms_of t outer);
  may_continue = has_target is_loop (forms_of t outer);
}

-- what stands around a node
abbrev pub context_of : Plant → ℕ → Context
context_of t id = context_among t (around t id)

-- what stands around the children of a node with this number and form, around which this stands
abbrev pub context_within : ℕ → Form → Context → Context
context_within id f outer = record {
  home = (if is_home f then Some id else outer.home);
  maker = (if makes_scope f then Some id else outer.maker);
  in_function = is_function f || outer.in_function;
  may_break = not (is_function f) && (is_left_by_break f || outer.may_break);
  may_continue = not (is_function f) && (is_loop f || outer.may_continue);
}

-- these are the contexts of the first nodes of the tree
pub record AreContexts (t : Plant) (count : ℕ) (contexts : List Context) : Type 0 where
  pub many : length contexts ≡ count
  pub each : (id : ℕ) (d : Context) → id < count → slice_index_or contexts id d ≡ context_of t id
