-- What holds of all scripts: each has one tree, or it is refused at one place for one cause, and never both; and each node
-- of a tree but its root is the child of one node, once.
use Rattle.std.specs.Prelude.{◌≡◌, ◌<◌, ◌⊎◌, ℕ, List, length}
use Rattle.rip_lexer.specs.declared.token.Token.{Token}
use Rattle.rip_lexer.specs.Tokens.{IsTokens}
use Rattle.rip_tree.specs.Branches.{Plant}
use Rattle.rip_parser.specs.Held.{times_held}
use Rattle.rip_parser.specs.Parsed.{IsTreeOf, IsNoTree}
use Rattle.rip_parser.specs.declared.refusal.ParseKind.{ParseKind}

-- a script that has tokens has a tree, or it is refused
abbrev pub HasReading : Type 0
HasReading = (script : List ℕ) (tokens : List Token) → IsTokens script tokens
    → ((tree : Plant) × IsTreeOf script tree) ⊎ ((place : ℕ) × (kind : ParseKind) × IsNoTree script place kind)

-- two trees of one script are one: the same nodes with the same numbers, and the same units
abbrev pub HaveOneTree : Type 0
HaveOneTree = (script : List ℕ) (tree other : Plant) → IsTreeOf script tree → IsTreeOf script other → tree ≡ other

-- a script that has no tree is refused at one place, for one cause
abbrev pub HaveOneRefusal : Type 0
HaveOneRefusal = (script : List ℕ) (place other : ℕ) (kind why : ParseKind) → IsNoTree script place kind → IsNoTree script other why → (place ≡ other) × (kind ≡ why)

-- no script has a tree and is refused
abbrev pub HaveNotBoth : Type 0
HaveNotBoth = (script : List ℕ) (tree : Plant) (place : ℕ) (kind : ParseKind) → IsTreeOf script tree → IsNoTree script place kind → ⊥

-- the root of a script's tree is no child, and each other node is a child once
abbrev pub AreHeldOnce : Type 0
AreHeldOnce = (script : List ℕ) (tree : Plant) → IsTreeOf script tree
    → (times_held 0 tree.branches ≡ 0) × ((id : ℕ) → 0 < id → id < length tree.branches → times_held id tree.branches ≡ 1)
