-- Programs: the trees of the scripts of a page, numbered through, with what the rules of scope say of each node.
use Rattle.std.specs.Prelude.{ℕ, ◌+◌, ◌-◌, ◌<◌, ◌^◌, min, false, List, [], ◌∷◌, ◌++◌, length, map, fold, Option, None, IfSome, option_map, slice_index_or}
use Rattle.rip_tree.specs.declared.node.Piece.{Piece}
use Rattle.rip_tree.specs.declared.form.Form.{Form}
use Rattle.rip_tree.specs.declared.form.Form.TheVariants as F
use Rattle.rip_tree.specs.declared.form.Key.{Key}
use Rattle.rip_tree.specs.declared.form.Key.TheVariants as K
use Rattle.rip_tree.specs.declared.form.TextLiteral.{TextLiteral}
use Rattle.rip_tree.specs.declared.form.FunctionHead.{FunctionHead}
use Rattle.rip_tree.specs.declared.program.Scoping.{Scoping}
use Rattle.rip_tree.specs.Branches.{Branch, Plant, child_of}

-- the branches of all scripts, one script after another, the units of all, and of each script the number of its root
pub record Grove : Type 0 where
  pub branches : List Branch
  pub units : List ℕ
  pub roots : List ℕ

-- what a program holds: its trees, the names that the top scope binds, by place, of each script the places of those that
-- it declares by `var` (ECMA-262 10.5), and of each node what the rules of scope say
pub record Code : Type 0 where
  pub grove : Grove
  pub top : List (List ℕ)
  pub vars : List (List ℕ)
  pub scoping : List Scoping

-- the piece of units of which so many are there, when they stand behind others: the part that is there, moved
abbrev pub moved_piece : ℕ → ℕ → Piece → Piece
moved_piece there before p = record { start = before + min p.start there; count = min (p.start + p.count) there - min p.start there }

-- a form whose pieces are changed
abbrev pub with_text : (Piece → Piece) → TextLiteral → TextLiteral
with_text f literal = record literal { value = f literal.value }

-- a key whose piece is changed
abbrev pub with_key : (Piece → Piece) → Key → Key
with_key f (K.Name p) = K.Name (f p)
with_key f (K.Text literal) = K.Text (with_text f literal)
with_key f (K.Number w) = K.Number w

-- what a function has beside its children, with its name changed
abbrev pub with_head : (Piece → Piece) → FunctionHead → FunctionHead
with_head f head = record head { name = option_map f head.name }

-- a form whose pieces are changed
abbrev pub with_pieces : (Piece → Piece) → Form → Form
with_pieces f (F.FunctionDeclaration head) = F.FunctionDeclaration (with_head f head)
with_pieces f (F.Name p) = F.Name (f p)
with_pieces f (F.Text literal) = F.Text (with_text f literal)
with_pieces f (F.Function head) = F.Function (with_head f head)
with_pieces f (F.Member p) = F.Member (f p)
with_pieces f (F.Declarator p) = F.Declarator (f p)
with_pieces f (F.Entry key) = F.Entry (with_key f key)
with_pieces f (F.Parameter p) = F.Parameter (f p)
with_pieces f (F.Catch p) = F.Catch (f p)
with_pieces f form = form

-- a child of a tree that stands behind so many branches
abbrev pub moved_child : ℕ → Option ℕ → Option ℕ
moved_child branches c = option_map (λ id. branches + id) c

-- a branch of a tree with so many units, when it stands behind so many branches and units
abbrev pub moved_branch : ℕ → ℕ → ℕ → Branch → Branch
moved_branch there branches units b = record {
  node = record { place = b.node.place; form = with_pieces (moved_piece there units) b.node.form };
  children = map (moved_child branches) b.children;
}

-- the trees with one more behind them
abbrev pub with_tree : Grove → Plant → Grove
with_tree g t = record {
  branches = g.branches ++ map (moved_branch (length t.units) (length g.branches) (length g.units)) t.branches;
  units = g.units ++ t.units;
  roots = g.roots ++ length g.branches ∷ [];
}

-- the trees of all scripts
abbrev pub joined : List Plant → Grove
joined trees = fold with_tree (record { branches = []; units = []; roots = [] }) trees

-- of a script, which are numbered from 1, the number of its root; past the last it is 0
abbrev pub root_of : Grove → ℕ → ℕ
root_of g script = slice_index_or g.roots (script - 1) 0

-- of a script, which are numbered from 1, the places of the names that it declares by `var`; past the last there are none
abbrev pub vars_of : List (List ℕ) → ℕ → List ℕ
vars_of vars script = slice_index_or vars (script - 1) []

-- what the rules of scope say of the node with this number; past the last node they say nothing
abbrev pub scoping_of : List Scoping → ℕ → Scoping
scoping_of scoping id = slice_index_or scoping id (record { names = 0; resolved = None; is_own = false })

-- wherever a node has a child, 32 bits count the place behind it
abbrev pub ChildrenAreCounted : Code → Type 0
ChildrenAreCounted code = (id place : ℕ) → IfSome (child_of code.grove.branches id place) (λ _. place + 1 < 2 ^ 32)
