-- How states are kept: records of the nodes up to the last one of which something was set.
use Rattle.std.specs.Prelude.{ℕ, ◌-◌, ◌≤◌, Bool, List, ◌++◌, length, replicate, slice_index_or}
use Rattle.rip_forms.specs.declared.state.ControlState.{ControlState}
use Rattle.rip_forms.specs.States.{States, no_state}

-- the record of this number; past the last nothing was set
abbrev pub record_at : List ControlState → ℕ → ControlState
record_at records n = slice_index_or records n no_state

-- the records, and behind them as many of which nothing was set as make so many
abbrev pub filled : ℕ → List ControlState → List ControlState
filled count records = records ++ replicate (count - length records) no_state

-- the states that these records keep, where so many nodes have room
abbrev pub states_of : ℕ → List ControlState → Bool → States
states_of room records before = record { nodes = filled room records; before_click = before }

-- no more records are kept than there is room for, which is reserved
pub record AreReserved (room : ℕ) (records : List ControlState) (capacity : ℕ) : Type 0 where
  pub within : length records ≤ room
  pub reserved : room ≤ capacity
