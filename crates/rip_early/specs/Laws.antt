-- What holds of the first early error of scripts, and of the names of a program.
use Rattle.std.specs.Prelude.{◌≡◌, ◌⊎◌, ℕ, Bool, true, false, List, Some, None, is_some}
use Rattle.rip_tree.specs.declared.form.Form.{Form}
use Rattle.rip_tree.specs.declared.form.Form.TheVariants as F
use Rattle.rip_tree.specs.declared.node.Node.{Node}
use Rattle.rip_tree.specs.Branches.{Plant, node_of}
use Rattle.rip_tree.specs.Program.{scoping_of}
use Rattle.rip_early.specs.declared.mistake.Mistake.{Mistake}
use Rattle.rip_early.specs.Mistakes.{IsFirst, AreClean, is_name_form}
use Rattle.rip_early.specs.Program.{program_of}

-- scripts have no early error, or a first one
abbrev pub HaveAnAnswer : Type 0
HaveAnAnswer = (trees : List Plant) → AreClean trees ⊎ ((script : ℕ) × (m : Mistake) × IsFirst trees script m)

-- the first early error of scripts is one: its script, its place and its kind
abbrev pub HaveOneFirst : Type 0
HaveOneFirst = (trees : List Plant) (script other : ℕ) (m n : Mistake) → IsFirst trees script m → IsFirst trees other n → (script ≡ other) × (m ≡ n)

-- scripts that have a first early error are not clean
abbrev pub AreNotClean : Type 0
AreNotClean = (trees : List Plant) (script : ℕ) (m : Mistake) → IsFirst trees script m → ¬ AreClean trees

-- the form reads or binds a name
abbrev pub has_name : Form → Bool
has_name (F.Name p) = true
has_name (F.Declarator p) = true
has_name (F.Parameter p) = true
has_name (F.Catch p) = true
has_name (F.FunctionDeclaration head) = is_some head.name
has_name (F.Function head) = is_some head.name
has_name _ = false

-- in the program of clean scripts a node that reads and binds no name is resolved to nothing, and a name that is read is
-- resolved to something
abbrev pub NamesAreResolved : Type 0
NamesAreResolved = (trees : List Plant) → AreClean trees → (id : ℕ) (node : Node) → node_of (program_of trees).grove.branches id ≡ Some node
    → (has_name node.form ≡ false → (scoping_of (program_of trees).scoping id).resolved ≡ None)
    × (is_name_form node.form ≡ true → is_some (scoping_of (program_of trees).scoping id).resolved ≡ true)
