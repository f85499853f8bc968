-- What is left of a run, when a frame is put on or taken off.
use Rattle.std.proofs.Common.{◌≡◌, ℕ, suc, ◌-◌, ◌==◌, if◌then◌else◌, Bool, true, false, List, [], ◌∷◌, ◌++◌, refl, ap, sym, ◌∙◌, append-nil}
use Rattle.rip_base.specs.declared.value.Value.{Value}
use Rattle.rip_base.specs.declared.value.Limit.TheVariants.{Depth}
use Rattle.rip_heap.specs.World.{World}
use Rattle.rip_eval_rows.specs.declared.completion.Completion.{Completion}
use Rattle.rip_eval_rows.specs.declared.completion.Stop.{Stop}
use Rattle.rip_eval_rows.specs.declared.completion.Stop.TheVariants.{Limit as AtLimit}
use Rattle.rip_eval_rows.specs.declared.next.Control.TheVariants.{Enter, Give, Halted}
use Rattle.rip_eval_rows.specs.declared.next.Next.{Next}
use Rattle.rip_eval_rows.specs.declared.next.Next.TheVariants.{End, Halt, Ask, Keep, Turn, Call}
use Rattle.rip_eval_rows.specs.declared.part.Part.{Part}
use Rattle.rip_eval_rows.specs.Frame.{inner, inside, waiting}
use Rattle.rip_eval_rows.specs.Rest.{finish, unwind, rest, room_in, as_row, control_of, frame_of}
use Rattle.rip_eval_rows.specs.Row.{Halts, Asks, Table, entered}
use Rattle.rip_eval_rows.specs.Run.{Answer, Stops, Cuts, Calling, follow, run_to, run, ev}
use Rattle.rip_eval_rows.specs.Stack.{Open, framed}
use Rattle.rip_eval_rows.proofs.Runs.{run-asks, run-again}

-- the innermost frame is finished first
pub unwind-push : {S : Type 0} (h : Calling S) (t : Table) (os : List Open) (o : Open) (a : Answer S) → unwind h t (os ++ o ∷ []) a ≡ unwind h t os (finish h t o a)
unfolding unwind
unwind-push h t [] o a = refl
unwind-push h t (p ∷ os) o a = ap (finish h t p) (unwind-push h t os o a)

-- a stop and a cut leave through every open frame
pub unwind-stops : {S : Type 0} (h : Calling S) (t : Table) (os : List Open) (stop : Stop) (room u : ℕ) (w : World) (s : S) → unwind h t os (Stops stop room u w s) ≡ Stops stop room u w s
unfolding unwind
unwind-stops h t [] stop room u w s = refl
unwind-stops h t (o ∷ os) stop room u w s = ap (finish h t o) (unwind-stops h t os stop room u w s)

pub unwind-cuts : {S : Type 0} (h : Calling S) (t : Table) (os : List Open) (room : ℕ) (w : World) (s : S) → unwind h t os (Cuts room w s) ≡ Cuts room w s
unfolding unwind
unwind-cuts h t [] room w s = refl
unwind-cuts h t (o ∷ os) room w s = ap (finish h t o) (unwind-cuts h t os room w s)

-- a row that asks for a part, under the open frames
asks-next : {S : Type 0} (h : Calling S) (t : Table) (room : ℕ) (part : Part) (o : Open) (os : List Open) (u : ℕ) (w : World) (s : S) → part.room ≡ room_in o.frame
    → unwind h t os (run h t room (Asks part w (t.rest o)) u s) ≡ rest h t (Enter part) (os ++ o ∷ []) u w s
unfolding rest run_to
asks-next h t room part o os u w s inside =
    ap (unwind h t os) (run-asks h t room part w (t.rest o) u s)
    ∙ ap (λ left. unwind h t os (follow (ev h t part u w s) (λ c v x r. run h t left (t.rest o c x) v r))) inside ∙ sym (unwind-push h t os o (ev h t part u w s))

-- the same of a part that is called, where there is depth for it or not
called-next : {S : Type 0} (h : Calling S) (t : Table) (at part : Part) (o : Open) (os : List Open) (u : ℕ) (w : World) (s : S) (full : Bool) → part.room ≡ room_in o.frame
    → unwind h t os (run h t at.room (if full then Halts (AtLimit Depth) w else Asks part w (t.rest o)) u s)
    ≡ rest h t (if full then Halted (AtLimit Depth) at.room else Enter part) (os ++ (if full then [] else o ∷ [])) u w s
unfolding rest run_to
called-next h t at part o os u w s true inside = rw append-nil refl
called-next h t at part o os u w s false inside = asks-next h t at.room part o os u w s inside

-- the row that stands for what an open part does next, under the open frames, is what is left of the run then
pub rest-next : {S : Type 0} (h : Calling S) (t : Table) (at : Part) (next : Next) (values : List Value) (os : List Open) (u : ℕ) (w : World) (s : S)
    → unwind h t os (run h t (at.room - 1) (as_row t at next values w) u s) ≡ rest h t (control_of at next) (os ++ frame_of at next values) u w s
unfolding rest run_to
rest-next h t at (End c) values os u w s = rw append-nil refl
rest-next h t at (Halt stop) values os u w s = rw append-nil refl
rest-next h t at (Ask part wait) values os u w s = asks-next h t (at.room - 1) (inside at part) (framed (waiting at wait) []) os u w s refl
rest-next h t at (Keep part wait v) values os u w s = asks-next h t (at.room - 1) (inside at part) (framed (waiting at wait) (values ++ v ∷ [])) os u w s refl
rest-next h t at (Turn part wait) values os u w s =
    ap (unwind h t os) (run-again h t (at.room - 1) (inside at part) w (framed (waiting at wait) []) u s)
    ∙ sym (unwind-push h t os (framed (waiting at wait) []) (ev h t (inside at part) u w s))
rest-next h t at (Call part node wait) values os u w s =
    let a : Part = inside at part in
    called-next h t a (inside a (inner a node)) (framed (waiting a wait) []) os u w s (a.room == 0) refl

-- a part is entered for one unit
pub rest-enters : {S : Type 0} (h : Calling S) (t : Table) (part : Part) (os : List Open) (u : ℕ) (w : World) (s : S)
    → rest h t (Enter part) os (suc u) w s ≡ unwind h t os (run h t (part.room - 1) (entered t part w) u s)
unfolding rest
rest-enters h t part os u w s = refl

-- a completion is given to the innermost frame
pub rest-gives : {S : Type 0} (h : Calling S) (t : Table) (c : Completion) (os : List Open) (o : Open) (u : ℕ) (w : World) (s : S)
    → rest h t (Give c) (os ++ o ∷ []) u w s ≡ unwind h t os (run h t (room_in o.frame) (t.rest o c w) u s)
unfolding rest
rest-gives h t c os o u w s = unwind-push h t os o _
