-- The open frames of a run, the outermost first, each with the values beside it.
use Rattle.std.specs.Prelude.{ℕ, ◌-◌, List, [], length, take, sum_by, slice_get, Option, None, Some}
use Rattle.rip_base.specs.declared.value.Value.{Value}
use Rattle.rip_eval_rows.specs.declared.frame.Frame.{Frame}

-- a frame with the values beside it: of a call the arguments so far
pub record Open : Type 0 where
  pub frame : Frame
  pub values : List Value

-- a frame with these values beside it
abbrev pub framed : Frame → List Value → Open
framed frame values = record { frame = frame; values = values }

-- what a stack holds: how many frames and values have room, and the open frames
pub record Frames : Type 0 where
  pub most : ℕ
  pub room : ℕ
  pub frames : List Open

-- a stack with no frame
abbrev pub empty_frames : ℕ → ℕ → Frames
empty_frames most room = record { most = most; room = room; frames = [] }

-- the frames but for the innermost
abbrev pub without_last : List Open → List Open
without_last frames = take (length frames - 1) frames

-- the values beside a frame, or none
abbrev pub values_of : Option Open → List Value
values_of None = []
values_of (Some o) = o.values

-- the values beside the innermost frame
abbrev pub last_values : List Open → List Value
last_values frames = values_of (slice_get frames (length frames - 1))

-- how many values there are beside all frames
abbrev pub count_of_values : List Open → ℕ
count_of_values frames = sum_by (λ o. length o.values) frames
