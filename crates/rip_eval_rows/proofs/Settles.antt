-- A row whose calls of the host were made runs on as the row did.
use Rattle.std.proofs.Common.{◌≡◌, ℕ, ◌==◌, if◌then◌else◌, Bool, true, false, List, [], refl}
use Rattle.rip_base.specs.declared.value.Limit.TheVariants.{Depth}
use Rattle.rip_base.specs.declared.value.Value.{Value}
use Rattle.rip_heap.specs.World.{World}
use Rattle.rip_eval_rows.specs.declared.completion.Stop.TheVariants.{Limit as AtLimit}
use Rattle.rip_eval_rows.specs.declared.next.Next.{Next}
use Rattle.rip_eval_rows.specs.declared.next.Next.TheVariants.{End, Halt, Ask, Keep, Turn, Call}
use Rattle.rip_eval_rows.specs.declared.part.Part.{Part}
use Rattle.rip_eval_rows.specs.Frame.{inner, inside, waiting}
use Rattle.rip_eval_rows.specs.Rest.{as_row}
use Rattle.rip_eval_rows.specs.Row.{Row, Ends, Halts, Asks, Again, AsksHost, Table}
use Rattle.rip_eval_rows.specs.Run.{Answer, Calling, run_by, run_to, run}
use Rattle.rip_eval_rows.specs.Settle.{settle}
use Rattle.rip_eval_rows.specs.Stack.{Open, framed}

by-settles : {S : Type 0} (h : Calling S) (go : ℕ → Row → ℕ → S → Answer S) (t : Table) (room : ℕ) (row : Row) (u : ℕ) (s : S)
    → run_by h go t room (settle h row s).0 u (settle h row s).1 ≡ run_by h go t room row u s
by-settles h go t room (Ends c w) u s = refl
by-settles h go t room (Halts stop w) u s = refl
by-settles h go t room (Asks part w k) u s = refl
by-settles h go t room (Again part w o) u s = refl
by-settles h go t room (AsksHost request w k) u s = by-settles h go t room (k (h s w request).0 (h s w request).1) u (h s w request).2

pub run-settles : {S : Type 0} (h : Calling S) (t : Table) (room : ℕ) (row : Row) (u : ℕ) (s : S) → run h t room (settle h row s).0 u (settle h row s).1 ≡ run h t room row u s
unfolding run_to
run-settles h t room row u s = by-settles h (run_to h t u) t room row u s

-- what a part that is called does asks the host for nothing
settled-call : {S : Type 0} (h : Calling S) (t : Table) (part : Part) (o : Open) (w : World) (s : S) (full : Bool)
    → settle h (if full then Halts (AtLimit Depth) w else Asks part w (t.rest o)) s ≡ (if full then Halts (AtLimit Depth) w else Asks part w (t.rest o), s)
settled-call h t part o w s true = refl
settled-call h t part o w s false = refl

-- what a part does next asks the host for nothing more
pub settled : {S : Type 0} (h : Calling S) (t : Table) (at : Part) (next : Next) (values : List Value) (w : World) (s : S)
    → settle h (as_row t at next values w) s ≡ (as_row t at next values w, s)
settled h t at (End c) values w s = refl
settled h t at (Halt stop) values w s = refl
settled h t at (Ask part wait) values w s = refl
settled h t at (Keep part wait v) values w s = refl
settled h t at (Turn part wait) values w s = refl
settled h t at (Call part node wait) values w s =
    let a : Part = inside at part in
    settled-call h t (inside a (inner a node)) (framed (waiting a wait) []) w s (a.room == 0)
