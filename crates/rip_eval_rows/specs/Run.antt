-- Runs: the one interpreter of rows, which has the units and the depth. One of each is taken where a part is entered, and
-- the depth is given back where the part has completed (ECMA-262 has neither).
use Rattle.std.specs.Prelude.{ℕ, zero, suc, ◌-◌}
use Rattle.rip_heap.specs.declared.host.HostDone.{HostDone}
use Rattle.rip_heap.specs.Host.{Request}
use Rattle.rip_heap.specs.World.{World}
use Rattle.rip_eval_rows.specs.declared.completion.Completion.{Completion}
use Rattle.rip_eval_rows.specs.declared.completion.Stop.{Stop}
use Rattle.rip_eval_rows.specs.declared.part.Part.{Part}
use Rattle.rip_eval_rows.specs.Row.{Row, Ends, Halts, Asks, Again, AsksHost, Table, entered}

-- how a run comes out, where S is the host's type: with a completion, or stopped, each with the units left; or cut where
-- no unit was left for a part. Where it is stopped or cut, so much depth is left: what is open there has taken the rest
pub data Answer (S : Type 0) : Type 0 where
  Completes : Completion → ℕ → World → S → Answer S
  Stops : Stop → ℕ → ℕ → World → S → Answer S
  Cuts : ℕ → World → S → Answer S

-- what a host answers: the answer, the world and the host after it
abbrev pub Calling : Type 0 → Type 0
Calling S = S → World → Request → HostDone × World × S

-- goes on with a completion; a stop and a cut leave through every open part
abbrev pub follow : {S : Type 0} → Answer S → (Completion → ℕ → World → S → Answer S) → Answer S
follow (Completes c u w s) go = go c u w s
follow (Stops stop room u w s) go = Stops stop room u w s
follow (Cuts room w s) go = Cuts room w s

-- goes on with what the host answered
abbrev pub with_reply : {S : Type 0} → HostDone × World × S → (HostDone → World → S → Answer S) → Answer S
with_reply reply go = go reply.0 reply.1 reply.2

-- a part is entered for one unit and one of the depth, by this way of running rows with what is left
abbrev pub enter : {S : Type 0} → (ℕ → Row → ℕ → S → Answer S) → Table → Part → ℕ → World → S → Answer S
enter go t part zero w s = Cuts part.room w s
enter go t part (suc u) w s = go (part.room - 1) (entered t part w) u s

-- a row with so much depth left and u units, where `go` runs the rows of its parts. A part that has completed has given
-- back the depth that it took
abbrev pub run_by : {S : Type 0} → Calling S → (ℕ → Row → ℕ → S → Answer S) → Table → ℕ → Row → ℕ → S → Answer S
run_by h go t room (Ends c w) u s = Completes c u w s
run_by h go t room (Halts stop w) u s = Stops stop room u w s
run_by h go t room (Asks part w k) u s = follow (enter go t part u w s) (λ c v x r. run_by h go t part.room (k c x) v r)
run_by h go t room (Again part w o) u s = follow (enter go t part u w s) (λ c v x r. go part.room (t.rest o c x) v r)
run_by h go t room (AsksHost request w k) u s = with_reply (h s w request) (λ d x r. run_by h go t room (k d x) u r)

-- the world at which a row begins
abbrev pub world_at : Row → World
world_at (Ends c w) = w
world_at (Halts stop w) = w
world_at (Asks part w k) = w
world_at (Again part w o) = w
world_at (AsksHost request w k) = w

-- the same with rows nested at most g deep, which is enough for fewer than g units: each nested row was entered for one
unfoldable pub run_to : {S : Type 0} → Calling S → Table → ℕ → ℕ → Row → ℕ → S → Answer S
run_to h t zero room row u s = Cuts room (world_at row) s
run_to h t (suc g) room row u s = run_by h (run_to h t g) t room row u s

-- a row with so much depth left and u units
abbrev pub run : {S : Type 0} → Calling S → Table → ℕ → Row → ℕ → S → Answer S
run h t room row u s = run_to h t (suc u) room row u s

-- a part with u units, one of which it takes where it is entered
abbrev pub ev : {S : Type 0} → Calling S → Table → Part → ℕ → World → S → Answer S
ev h t part u w s = enter (run_to h t u) t part u w s
