-- The reasons of endings, and their words.
use Rattle.std.specs.Prelude.{ℕ, List, codes}
use Rattle.rip_base.specs.declared.value.Limit.{Limit}
use Rattle.rip_base.specs.declared.value.Limit.TheVariants as L
use Rattle.rip_base.specs.declared.value.Fault.{Fault}
use Rattle.rip_base.specs.declared.value.Fault.TheVariants as F
use Rattle.rip_wire.specs.declared.ending.Ending.{Ending}
use Rattle.rip_wire.specs.declared.ending.Ending.TheVariants as E
use Rattle.rip_wire.specs.declared.ending.Reason.{Reason}
use Rattle.rip_wire.specs.declared.ending.Reason.TheVariants as R

abbrev pub limit_reason : Limit → Reason
limit_reason L.Fuel = R.Fuel
limit_reason L.Cells = R.Cells
limit_reason L.Units = R.Units
limit_reason L.Nodes = R.Nodes
limit_reason L.Depth = R.Depth
limit_reason L.Queue = R.Queue
limit_reason L.Replies = R.Replies

abbrev pub fault_reason : Fault → Reason
fault_reason F.NotWhole = R.NotWhole
fault_reason F.Infinite = R.Infinite
fault_reason F.OutOfRange = R.OutOfRange
fault_reason F.Hole = R.Hole
fault_reason F.NotInProfile = R.NotInProfile
fault_reason F.ObjectToPrimitive = R.ObjectToPrimitive
fault_reason F.BadArgument = R.BadArgument
fault_reason F.LoneSurrogate = R.LoneSurrogate
fault_reason F.TextTooLong = R.TextTooLong

-- the reason of an ending, without what the ending keeps
abbrev pub reason_of : Ending → Reason
reason_of (E.Mismatch item number reported made) = R.Mismatch
reason_of (E.BadReport item kind) = R.Report
reason_of (E.Limit item limit) = limit_reason limit
reason_of (E.Fault item fault) = fault_reason fault
reason_of (E.Memory item) = R.Memory
reason_of E.Closed = R.Closed

abbrev pub reason_word : Reason → List ℕ
reason_word R.Mismatch = codes "mismatch"
reason_word R.Report = codes "report"
reason_word R.Fuel = codes "fuel"
reason_word R.Cells = codes "cells"
reason_word R.Units = codes "units"
reason_word R.Nodes = codes "nodes"
reason_word R.Depth = codes "depth"
reason_word R.Queue = codes "queue"
reason_word R.Replies = codes "replies"
reason_word R.NotWhole = codes "not-whole"
reason_word R.Infinite = codes "infinite"
reason_word R.OutOfRange = codes "out-of-range"
reason_word R.Hole = codes "hole"
reason_word R.NotInProfile = codes "not-in-profile"
reason_word R.ObjectToPrimitive = codes "object-to-primitive"
reason_word R.BadArgument = codes "bad-argument"
reason_word R.LoneSurrogate = codes "lone-surrogate"
reason_word R.TextTooLong = codes "text-too-long"
reason_word R.Memory = codes "memory"
reason_word R.Closed = codes "closed"
