-- How a stack keeps its frames and their values.
use Rattle.std.specs.Prelude.{◌≡◌, ℕ, ◌<◌, ◌≤◌, ◌^◌, List, [], ◌∷◌, length, take, drop, sum_by}
use Rattle.rip_base.specs.declared.value.Value.{Value}
use Rattle.rip_eval_rows.specs.declared.stack.Entry.{Entry}
use Rattle.rip_eval_rows.specs.Stack.{Open, framed}

-- the frames, each with as many of the values as it has, which lie one after another
abbrev pub joined : List Entry → List Value → List Open
joined [] values = []
joined (e ∷ es) values = framed e.frame (take e.values values) ∷ joined es (drop e.values values)

-- what each stack keeps: all values are beside a frame, and frames and values have room
pub record IsStack (entries : List Entry) (values : List Value) (most room capacity value_capacity : ℕ) : Type 0 where
  pub beside : sum_by (λ e. e.values) entries ≡ length values
  pub within : length entries ≤ most
  pub values_within : length values ≤ room
  pub reserved : most ≤ capacity
  pub values_reserved : room ≤ value_capacity
  pub numbered : most < 2 ^ 32
  pub counted : room < 2 ^ 32
