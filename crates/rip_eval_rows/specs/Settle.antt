-- The calls of the host that a row begins with.
use Rattle.rip_heap.specs.declared.host.HostDone.{HostDone}
use Rattle.rip_heap.specs.World.{World}
use Rattle.rip_eval_rows.specs.Row.{Row, Ends, Halts, Asks, Again, AsksHost}
use Rattle.rip_eval_rows.specs.Run.{Calling}

-- goes on with a reply of the host, the world and the host after it
abbrev pub replied : {S A : Type 0} → HostDone × World × S → (HostDone → World → S → A) → A
replied reply go = go reply.0 reply.1 reply.2

-- what is left of a row once the host has answered all that the row asks of it before any part, and the host then
abbrev pub settle : {S : Type 0} → Calling S → Row → S → Row × S
settle h (Ends c w) s = (Ends c w, s)
settle h (Halts stop w) s = (Halts stop w, s)
settle h (Asks part w k) s = (Asks part w k, s)
settle h (Again part w o) s = (Again part w o, s)
settle h (AsksHost request w k) s = replied (h s w request) (λ d x r. settle h (k d x) r)
