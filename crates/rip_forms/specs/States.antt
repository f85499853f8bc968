-- The state of controls: what a report or a write set of it. What was set no longer follows the attributes
-- (HTML 4.10.18.1: the dirty value flag; HTML 4.10.5: the dirty checkedness flag).
use Rattle.std.specs.Prelude.{ℕ, ◌-◌, ◌≤◌, Bool, false, None, Some, List, ◌++◌, length, replicate, slice_index_or, slice_set}
use Rattle.rip_forms.specs.declared.state.ControlState.{ControlState}
use Rattle.rip_forms.specs.declared.state.FormState.{FormState}
use Rattle.rip_forms.specs.declared.state.FormState.TheVariants.{Value, Checked, Selected}

-- the states of a document's controls: of each node that has room what was set, its value, `checked` and
-- `selectedIndex`; and what `checked` was before the click that was applied last
pub record States : Type 0 where
  pub nodes : List ControlState
  pub before_click : Bool

-- nothing was set
abbrev pub no_state : ControlState
no_state = record { value = None; checked = None; selected = None }

-- what was set of the node
abbrev pub state_at : States → ℕ → ControlState
state_at f n = slice_index_or f.nodes n no_state

-- the states of so many nodes, of which nothing was set
abbrev pub no_states : ℕ → States
no_states room = record { nodes = replicate room no_state; before_click = false }

-- the state in which this was set
abbrev pub state_with : FormState → ControlState → ControlState
state_with (Value text) s = record s { value = Some text }
state_with (Checked is) s = record s { checked = Some is }
state_with (Selected place) s = record s { selected = Some place }

-- the states in which this was set of the node; no other node's changes
abbrev pub states_with : States → ℕ → FormState → States
states_with f n set = record f { nodes = slice_set f.nodes n (state_with set (state_at f n)) }
