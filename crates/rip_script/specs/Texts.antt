-- What is put for the tokens and the tree of a script.
use Rattle.std.specs.Prelude.{ℕ, zero, suc, ◌+◌, Bool, true, false, List, [], ◌∷◌, ◌++◌, length, replicate, Option, Some, None, map, codes, decimal}
use Rattle.std.specs.List.{flat_map}
use Rattle.rip_lexer.specs.declared.token.Token.{Token}
use Rattle.rip_lexer.specs.declared.token.TokenKind.{TokenKind}
use Rattle.rip_lexer.specs.declared.token.TokenKind.TheVariants.{Name, Reserved, Numeral, Text, Punctuator}
use Rattle.rip_tree.specs.Branches.{Branch, Plant, branch_of}
use Rattle.rip_tree.specs.declared.node.Node.{Node}
use Rattle.rip_script.specs.Forms.{form_word}
use Rattle.rip_script.specs.Lines.{lines_text}

-- TOKENS

-- a kind of token by its name
abbrev pub kind_word : TokenKind → List ℕ
kind_word Name = codes "Name"
kind_word Reserved = codes "Reserved"
kind_word Numeral = codes "Numeral"
kind_word Text = codes "Text"
kind_word Punctuator = codes "Punctuator"

-- whether a line end stands before a token
abbrev pub line_word : Bool → List ℕ
line_word true = codes "line"
line_word false = codes "-"

-- the words of a token: its kind, its place, how many units it has, and whether a line end stands before it
abbrev pub token_line : Token → List (List ℕ)
token_line token = kind_word token.kind ∷ decimal token.start ∷ decimal token.count ∷ line_word token.line_before ∷ []

-- a line for each token
abbrev pub tokens_text : List Token → List ℕ
tokens_text tokens = lines_text (map token_line tokens)

-- TREES

-- the words of a node: its form, with two spaces before it for each level above the node, and its place
abbrev pub node_line : ℕ → Node → List (List ℕ)
node_line level node = (replicate (level + level) 32 ++ form_word node.form) ∷ (codes "@" ++ decimal node.place) ∷ []

-- the lines of a child, which may be absent
abbrev pub child_lines : (ℕ → List (List (List ℕ))) → Option ℕ → List (List (List ℕ))
child_lines lines None = []
child_lines lines (Some id) = lines id

-- the line of a branch at this level, and behind it those of its children in their order
abbrev pub branch_lines : ℕ → (ℕ → List (List (List ℕ))) → Option Branch → List (List (List ℕ))
branch_lines level lines None = []
branch_lines level lines (Some b) = node_line level b.node ∷ flat_map (child_lines lines) b.children

-- the lines of the branch with this number at this level, and of all that stand below it, down so many levels
abbrev pub lines_below : ℕ → List Branch → ℕ → ℕ → List (List (List ℕ))
lines_below zero branches level id = []
lines_below (suc levels) branches level id =
    branch_lines level (λ child. lines_below levels branches (level + 1) child) (branch_of branches id)

-- a line for each node of a tree, in the order of the script; there are no more levels than nodes
abbrev pub tree_text : Plant → List ℕ
tree_text tree = lines_text (lines_below (length tree.branches) tree.branches 0 0)
