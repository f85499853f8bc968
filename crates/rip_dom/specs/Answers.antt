-- What an answer says of the step that a call stands for, of the tree before and of the one after it. What is refused
-- changes nothing.
use Rattle.std.specs.Prelude.{◌≡◌, ℕ, Option, None, Some, Result, Ok, Err}
use Rattle.rip_base.specs.declared.value.Limit.TheVariants.{Nodes}
use Rattle.rip_base.specs.declared.value.Refused.{Refused}
use Rattle.rip_base.specs.declared.value.Refused.TheVariants.{Limit as At, Memory}
use Rattle.rip_dom.specs.Tree.{Tree}

-- the call makes something, and answers it; its only refusal is the limit of nodes, and want of memory never comes
abbrev pub Makes : {A : Type 0} → Option (A × Tree) → Tree → Result A Refused → Tree → Type 0
Makes step old (Ok made) new = step ≡ Some (made, new)
Makes step old (Err (At l)) new = (l ≡ Nodes) × (step ≡ None) × (new ≡ old)
Makes step old (Err Memory) new = ⊥

-- the call moves a node, or answers the code of its refusal
abbrev pub Moves : Option ℕ → Tree → Tree → Result (Unit {0}) ℕ → Tree → Type 0
Moves code moved old (Ok done) new = (code ≡ None) × (new ≡ moved)
Moves code moved old (Err refused) new = (code ≡ Some refused) × (new ≡ old)
