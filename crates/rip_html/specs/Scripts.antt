-- The scripts of a page (HTML 4.12.1).
use Rattle.std.specs.Prelude.{ℕ, suc, Bool, true, false, ◌==◌, ◌&&◌, if◌then◌else◌, List, [], ◌∷◌, Option, Some, None}
use Rattle.rip_base.specs.declared.page.NodeKind.{NodeKind}
use Rattle.rip_base.specs.declared.page.NodeKind.TheVariants.{Document, Element, Text, Comment}
use Rattle.rip_base.specs.declared.page.PageNode.{PageNode}
use Rattle.rip_html.specs.Tags.{is_script}

-- the node is an element
abbrev pub is_element : NodeKind → Bool
is_element Element = true
is_element Document = false
is_element Text = false
is_element Comment = false

-- the node with this number is the parent
abbrev pub is_parent : ℕ → Option ℕ → Bool
is_parent number None = false
is_parent number (Some parent) = parent == number

-- the node that holds the text of a script with this number, which these nodes follow: its child, or itself if it is empty
abbrev pub text_number : ℕ → List PageNode → ℕ
text_number number [] = number
text_number number (x ∷ others) = if is_parent number x.parent then suc number else number

-- of each script among these nodes, numbered from the first number on, the node that holds its text
abbrev pub script_numbers : ℕ → List PageNode → List ℕ
script_numbers number [] = []
script_numbers number (x ∷ others) =
    if is_element x.kind && is_script x.name then text_number number others ∷ script_numbers (suc number) others else script_numbers (suc number) others
