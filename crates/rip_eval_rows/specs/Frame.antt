-- Parts inside open ones, and the frames of open parts.
use Rattle.std.specs.Prelude.{ℕ, ◌-◌}
use Rattle.rip_eval_rows.specs.declared.frame.Frame.{Frame}
use Rattle.rip_eval_rows.specs.declared.frame.Wait.{Wait}
use Rattle.rip_eval_rows.specs.declared.part.Inner.{Inner}
use Rattle.rip_eval_rows.specs.declared.part.Part.{Part}
use Rattle.rip_eval_rows.specs.declared.part.Role.TheVariants.{Value}

-- a part inside an open one: one of depth less is left for it
abbrev pub inside : Part → Inner → Part
inside at inner = record { node = inner.node; scope = inner.scope; this = inner.this; room = at.room - 1; role = inner.role }

-- a node as a part inside an open one, in its scope
abbrev pub inner : Part → ℕ → Inner
inner at node = record { node = node; scope = at.scope; this = at.this; role = Value }

-- another node at the same place
abbrev pub sibling : Inner → ℕ → Inner
sibling part node = record part { node = node }

-- an open part that waits so
abbrev pub waiting : Part → Wait → Frame
waiting at wait = record { at = at; wait = wait }
