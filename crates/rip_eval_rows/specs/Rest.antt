-- What is left of a run that stands.
use Rattle.std.specs.Prelude.{ℕ, ◌-◌, ◌==◌, if◌then◌else◌, List, [], ◌∷◌, ◌++◌}
use Rattle.rip_base.specs.declared.value.Value.{Value}
use Rattle.rip_base.specs.declared.value.Limit.TheVariants.{Depth}
use Rattle.rip_heap.specs.World.{World}
use Rattle.rip_eval_rows.specs.declared.completion.Stop.TheVariants.{Limit as AtLimit}
use Rattle.rip_eval_rows.specs.declared.frame.Frame.{Frame}
use Rattle.rip_eval_rows.specs.declared.frame.Wait.{Wait}
use Rattle.rip_eval_rows.specs.declared.next.Control.{Control}
use Rattle.rip_eval_rows.specs.declared.next.Control.TheVariants.{Enter, Give, Halted}
use Rattle.rip_eval_rows.specs.declared.next.Next.{Next}
use Rattle.rip_eval_rows.specs.declared.next.Next.TheVariants.{End, Halt, Ask, Keep, Turn, Call}
use Rattle.rip_eval_rows.specs.declared.part.Part.{Part}
use Rattle.rip_eval_rows.specs.Frame.{inner, inside, waiting}
use Rattle.rip_eval_rows.specs.Row.{Row, Ends, Halts, Asks, Again, Table}
use Rattle.rip_eval_rows.specs.Run.{Answer, Completes, Stops, Calling, follow, run, ev}
use Rattle.rip_eval_rows.specs.Stack.{Open, framed}

-- the depth that is left inside the part that is open at a frame
abbrev pub room_in : Frame → ℕ
room_in frame = frame.at.room - 1

-- the row of an open frame, once the part that it waits for has come out so
abbrev pub finish : {S : Type 0} → Calling S → Table → Open → Answer S → Answer S
finish h t o answer = follow answer (λ c u w s. run h t (room_in o.frame) (t.rest o c w) u s)

-- the same of all open frames, from the innermost outwards; the outermost stands first
unfoldable pub unwind : {S : Type 0} → Calling S → Table → List Open → Answer S → Answer S
unwind h t [] answer = answer
unwind h t (o ∷ os) answer = finish h t o (unwind h t os answer)

-- what a run goes on with: a part whose unit is about to be taken, or a completion, or nothing
abbrev pub at_hand : {S : Type 0} → Calling S → Table → Control → ℕ → World → S → Answer S
at_hand h t (Enter part) u w s = ev h t part u w s
at_hand h t (Give c) u w s = Completes c u w s
at_hand h t (Halted stop room) u w s = Stops stop room u w s

-- the rest of a run with u units
unfoldable pub rest : {S : Type 0} → Calling S → Table → Control → List Open → ℕ → World → S → Answer S
rest h t control os u w s = unwind h t os (at_hand h t control u w s)

-- the row of a part that is called inside the open one, and waits for this node: where no depth is left for it, the limit
abbrev pub called_row : Table → Part → ℕ → Wait → World → Row
called_row t at node wait w =
    if at.room == 0 then Halts (AtLimit Depth) w else Asks (inside at (inner at node)) w (t.rest (framed (waiting at wait) []))

-- the row that stands for what an open part does next, where these values were beside its frame
abbrev pub as_row : Table → Part → Next → List Value → World → Row
as_row t at (End c) values w = Ends c w
as_row t at (Halt stop) values w = Halts stop w
as_row t at (Ask part wait) values w = Asks (inside at part) w (t.rest (framed (waiting at wait) []))
as_row t at (Keep part wait v) values w = Asks (inside at part) w (t.rest (framed (waiting at wait) (values ++ v ∷ [])))
as_row t at (Turn part wait) values w = Again (inside at part) w (framed (waiting at wait) [])
as_row t at (Call part node wait) values w = called_row t (inside at part) node wait w

-- the run of what an open part does next, where no values are beside its frame
abbrev pub next_run : {S : Type 0} → Calling S → Table → Part → Next → ℕ → World → S → Answer S
next_run h t at next u w s = run h t (at.room - 1) (as_row t at next [] w) u s

-- what the run goes on with where a part was called inside the open one
abbrev pub called_control : Part → ℕ → Control
called_control at node = if at.room == 0 then Halted (AtLimit Depth) at.room else Enter (inside at (inner at node))

-- what the run goes on with then
abbrev pub control_of : Part → Next → Control
control_of at (End c) = Give c
control_of at (Halt stop) = Halted stop (at.room - 1)
control_of at (Ask part wait) = Enter (inside at part)
control_of at (Keep part wait v) = Enter (inside at part)
control_of at (Turn part wait) = Enter (inside at part)
control_of at (Call part node wait) = called_control (inside at part) node

-- the frame of a part that was called inside the open one
abbrev pub called_frame : Part → Wait → List Open
called_frame at wait = if at.room == 0 then [] else framed (waiting at wait) [] ∷ []

-- the frame that is open then
abbrev pub frame_of : Part → Next → List Value → List Open
frame_of at (End c) values = []
frame_of at (Halt stop) values = []
frame_of at (Ask part wait) values = framed (waiting at wait) [] ∷ []
frame_of at (Keep part wait v) values = framed (waiting at wait) (values ++ v ∷ []) ∷ []
frame_of at (Turn part wait) values = framed (waiting at wait) [] ∷ []
frame_of at (Call part node wait) values = called_frame (inside at part) wait
