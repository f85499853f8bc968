-- Rows: what a part of a run does, as a program that asks for its parts. A row never sees units, fuel or a cut.
use Rattle.std.specs.Prelude.{◌==◌, if◌then◌else◌}
use Rattle.rip_base.specs.declared.value.Value.{Value}
use Rattle.rip_base.specs.declared.value.Limit.TheVariants.{Depth}
use Rattle.rip_heap.specs.declared.host.HostDone.{HostDone}
use Rattle.rip_heap.specs.Host.{Request}
use Rattle.rip_heap.specs.World.{World}
use Rattle.rip_eval_rows.specs.declared.completion.Completion.{Completion}
use Rattle.rip_eval_rows.specs.declared.completion.Completion.TheVariants.{Normal, Thrown, Returned, Broken, Continued, Referred, Method}
use Rattle.rip_eval_rows.specs.declared.completion.Stop.{Stop}
use Rattle.rip_eval_rows.specs.declared.completion.Stop.TheVariants.{Limit as AtLimit}
use Rattle.rip_eval_rows.specs.declared.part.Part.{Part}
use Rattle.rip_eval_rows.specs.Stack.{Open}

-- a row ends with a completion; or stops the run; or asks for a part, and goes on with its completion and the world
-- after it; or asks for a part of a turn of a loop, after which the row of an open frame goes on; or asks the host
pub data Row : Type 0 where
  Ends : Completion → World → Row
  Halts : Stop → World → Row
  Asks : Part → World → (Completion → World → Row) → Row
  Again : Part → World → Open → Row
  AsksHost : Request → World → (HostDone → World → Row) → Row

-- the meaning of a program: the row of each part, and what remains of a row at each open frame, once the part that it
-- waits for has this completion
pub record Table : Type 0 where
  pub row : Part → World → Row
  pub rest : Open → Completion → World → Row

-- the row of a part that is entered: where no depth is left for it, the limit
abbrev pub entered : Table → Part → World → Row
entered t part w = if part.room == 0 then Halts (AtLimit Depth) w else t.row part w

-- a completion that is normal goes on with its value; any other ends the row
abbrev pub with_value : Completion → World → (Value → Row) → Row
with_value (Normal v) w go = go v
with_value (Thrown v) w go = Ends (Thrown v) w
with_value (Returned v) w go = Ends (Returned v) w
with_value Broken w go = Ends Broken w
with_value Continued w go = Ends Continued w
with_value (Referred r) w go = Ends (Referred r) w
with_value (Method f this) w go = Ends (Method f this) w

-- goes on with the value of a part; any other completion ends the row
abbrev pub value_of : Part → World → (Value → World → Row) → Row
value_of part w go = Asks part w (λ c x. with_value c x (λ v. go v x))

-- what is left of a row once the part that it asks for has this completion. It is asked of such rows alone
abbrev pub after : Row → Completion → World → Row
after (Ends d w) c x = Ends d w
after (Halts stop w) c x = Halts stop w
after (Asks part w go) c x = go c x
after (Again part w o) c x = Again part w o
after (AsksHost request w go) c x = AsksHost request w go

-- what is left of a row after its first part
abbrev pub after_first : (World → Row) → Completion → World → Row
after_first row c w = after (row w) c w
