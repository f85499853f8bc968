-- Laws of states, in words that no step uses.
use Rattle.std.specs.Prelude.{◌≡◌, ℕ, ◌<◌, true, length}
use Rattle.rip_values.specs.Pool.{Texts}
use Rattle.rip_dom.specs.Tree.{Tree}
use Rattle.rip_forms.specs.declared.state.FormState.{FormState}
use Rattle.rip_forms.specs.declared.state.FormState.TheVariants.{Checked}
use Rattle.rip_forms.specs.Controls.{is_checkbox, part_of}
use Rattle.rip_forms.specs.Reports.{clicked}
use Rattle.rip_forms.specs.States.{States, state_at, state_with, states_with}
use Rattle.rip_forms.specs.Values.{checked_of}

-- what is set of a node is read as it was set, no other node's state changes, and all that had room have it
abbrev pub StatesAreRead : Type 0
StatesAreRead = (f : States) (n : ℕ) (set : FormState) → n < length f.nodes →
    (state_at (states_with f n set) n ≡ state_with set (state_at f n))
    × ((m : ℕ) → (m ≡ n → ⊥) → state_at (states_with f n set) m ≡ state_at f m)
    × (length (states_with f n set).nodes ≡ length f.nodes)

-- a click at a checkbox that is undone leaves `checked` as it was before, whatever was set since
abbrev pub ClicksAreUndone : Type 0
ClicksAreUndone = (pool : Texts) (t : Tree) (f g : States) (n : ℕ) → is_checkbox (part_of pool t n) ≡ true →
    n < length g.nodes → g.before_click ≡ (clicked pool t f n).before_click →
    checked_of pool t (states_with g n (Checked g.before_click)) n ≡ checked_of pool t f n
