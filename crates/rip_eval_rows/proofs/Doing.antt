-- Parts that are done at once: their runs, whatever the host and whatever is left.
use Rattle.std.proofs.Common.{◌≡◌, ℕ, suc, ◌+◌, ◌-◌, ◌<◌, if◌then◌else◌, List, [], ap, sym, subst, ◌∙◌, arith, refl}
use Rattle.std.proofs.lemmas.Bool.{ne_eqb}
use Rattle.rip_heap.specs.World.{World}
use Rattle.rip_base.specs.declared.value.Limit.TheVariants.{Depth}
use Rattle.rip_eval_rows.specs.declared.completion.Completion.{Completion}
use Rattle.rip_eval_rows.specs.declared.completion.Stop.TheVariants.{Limit as AtLimit}
use Rattle.rip_eval_rows.specs.declared.next.Control.TheVariants.{Enter, Give}
use Rattle.rip_eval_rows.specs.declared.frame.Wait.{Wait}
use Rattle.rip_eval_rows.specs.declared.next.Next.{Next}
use Rattle.rip_eval_rows.specs.declared.next.Next.TheVariants.{Ask, Turn}
use Rattle.rip_eval_rows.specs.declared.part.Inner.{Inner}
use Rattle.rip_eval_rows.specs.declared.part.Part.{Part}
use Rattle.rip_eval_rows.specs.declared.frame.Wait.TheVariants.{Own}
use Rattle.rip_eval_rows.specs.declared.round.RoundWait.{RoundWait}
use Rattle.rip_eval_rows.specs.declared.round.RoundWait.TheVariants.{Statement, DoBody, DoTest, WhileTest, WhileBody, ForTest, ForUpdate, ForBody}
use Rattle.rip_eval_rows.specs.Frame.{inside, waiting}
use Rattle.rip_eval_rows.specs.Done.{Comes, Ended, Went, Turned, Done}
use Rattle.rip_eval_rows.specs.Rest.{as_row, next_run, rest, unwind}
use Rattle.rip_eval_rows.specs.Round.{asked_at, own_wait, rest_at}
use Rattle.rip_eval_rows.specs.Row.{Row, Ends, Halts, Asks, Again, Table}
use Rattle.rip_eval_rows.specs.Run.{Completes, Calling, follow, run_to, run, ev}
use Rattle.rip_eval_rows.specs.Settle.{settle}
use Rattle.rip_eval_rows.specs.Stack.{Open, framed}
use Rattle.rip_eval_rows.proofs.Runs.{run-asks, run-again}
use Rattle.rip_eval_rows.proofs.Settles.{run-settles}

-- a part for which some depth is left goes on as its row does
ev-enters : {S : Type 0} (h : Calling S) (t : Table) (part : Part) (u : ℕ) (w : World) (s : S) → 0 < part.room
    → ev h t part (suc u) w s ≡ run h t (part.room - 1) (t.row part w) u s
ev-enters h t part u w s some =
    let ne : part.room ≡ 0 → ⊥ = λ e. omega (arith, some, e) in
    ap (λ full. run h t (part.room - 1) (if full then Halts (AtLimit Depth) w else t.row part w) u s) (ne_eqb part.room 0 ne)

-- the run of a row that comes to a completion completes so, with what is left of the units
comes-run : {S : Type 0} (h : Calling S) (t : Table) (row : Row) (n : ℕ) (c : Completion) (x : World) → Comes t row n c x
    → (room u : ℕ) (s : S) → run h t room row (n + u) s ≡ Completes c u x s
unfolding run_to
comes-run h t _ _ _ _ (Ended c w) room u s = ap (λ v. Completes c v w s) (omega arith)
comes-run h t _ _ _ _ (Went part w go n m d c y x some first later) room u s =
    let sum : 1 + n + m + u ≡ suc (n + (m + u)) = omega arith in
    ap (λ v. run h t room (Asks part w go) v s) sum
    ∙ run-asks h t room part w go (suc (n + (m + u))) s
    ∙ ap (λ a. follow a (λ e v z r. run h t part.room (go e z) v r))
    (ev-enters h t part (n + (m + u)) w s some ∙ comes-run h t (t.row part w) n d y first (part.room - 1) (m + u) s)
    ∙ comes-run h t (go d y) m c x later part.room u s
comes-run h t _ _ _ _ (Turned part w o n m d c y x some first later) room u s =
    let sum : 1 + n + m + u ≡ suc (n + (m + u)) = omega arith in
    ap (λ v. run h t room (Again part w o) v s) sum
    ∙ run-again h t room part w o (suc (n + (m + u))) s
    ∙ ap (λ a. follow a (λ e v z r. run h t part.room (t.rest o e z) v r))
    (ev-enters h t part (n + (m + u)) w s some ∙ comes-run h t (t.row part w) n d y first (part.room - 1) (m + u) s)
    ∙ comes-run h t (t.rest o d y) m c x later part.room u s

-- a part that is done at once completes with these units
pub ev-done : {S : Type 0} (h : Calling S) (t : Table) (part : Part) (n u : ℕ) (c : Completion) (w x : World) (s : S) → Done t part n w c x
    → ev h t part (n + u) w s ≡ Completes c u x s
ev-done h t part n u c w x s done =
    let sum : n + u ≡ suc (done.0 + u) = omega (arith, done.1) in
    ap (λ v. ev h t part v w s) sum ∙ ev-enters h t part (done.0 + u) w s done.2
    ∙ comes-run h t (t.row part w) done.0 c x done.3 (part.room - 1) u s

-- and gives its completion to the innermost frame
pub rest-done : {S : Type 0} (h : Calling S) (t : Table) (part : Part) (os : List Open) (n l m k : ℕ) (c : Completion) (w x : World) (s : S) → Done t part n w c x → l ≡ n + m
    → rest h t (Give c) os (m + k) x s ≡ rest h t (Enter part) os (l + k) w s
unfolding rest
rest-done h t part os n l m k c w x s done units =
    let sum : l + k ≡ n + (m + k) = omega (arith, units) in
    sym (ap (λ v. unwind h t os (ev h t part v w s)) sum ∙ ap (unwind h t os) (ev-done h t part n (m + k) c w x s done))

-- what is left of a row behind a part that is done at once runs on as the row did that asks for the part
past-asked : {S : Type 0} (h : Calling S) (t : Table) (at : Part) (inner : Inner) (wait : Wait) (n l m k : ℕ) (d : Completion) (w y : World) (s : S)
    → Done t (inside at inner) n w d y → l ≡ n + m
    → run h t (at.room - 1) (t.rest (framed (waiting at wait) []) d y) (m + k) s
    ≡ follow (ev h t (inside at inner) (l + k) w s) (λ e v x q. run h t (at.room - 1) (t.rest (framed (waiting at wait) []) e x) v q)
past-asked h t at inner wait n l m k d w y s done units =
    let o : Open = framed (waiting at wait) [] in
    let sum : l + k ≡ n + (m + k) = omega (arith, units) in
    sym (ap (λ v. follow (ev h t (inside at inner) v w s) (λ e v x q. run h t (at.room - 1) (t.rest o e x) v q)) sum
    ∙ ap (λ a. follow a (λ e v x q. run h t (at.room - 1) (t.rest o e x) v q)) (ev-done h t (inside at inner) n (m + k) d w y s done))

-- a part that an open one waits for, with no values beside its frame, is done at once, and what the open one does then is next
goes-on : {S : Type 0} (h : Calling S) (t : Table) (at : Part) (inner : Inner) (wait : Wait) (next : Next) (n l m k : ℕ) (c : Completion) (w y z : World) (s r : S)
    → Done t (inside at inner) n w c y → l ≡ n + m → (as_row t at next [] z, r) ≡ settle h (t.rest (framed (waiting at wait) []) c y) s
    → next_run h t at next (m + k) z r
    ≡ follow (ev h t (inside at inner) (l + k) w s) (λ e v x q. run h t (at.room - 1) (t.rest (framed (waiting at wait) []) e x) v q)
goes-on {S = S} h t at inner wait next n l m k c w y z s r done units row =
    let o : Open = framed (waiting at wait) [] in
    ap (λ (after : Row × S). run h t (at.room - 1) after.0 (m + k) after.1) row
    ∙ run-settles h t (at.room - 1) (t.rest o c y) (m + k) s
    ∙ past-asked h t at inner wait n l m k c w y s done units

pub part-asked : {S : Type 0} (h : Calling S) (t : Table) (at : Part) (inner : Inner) (wait : Wait) (next : Next) (n l m k : ℕ) (c : Completion) (w y z : World) (s r : S)
    → Done t (inside at inner) n w c y → l ≡ n + m → (as_row t at next [] z, r) ≡ settle h (t.rest (framed (waiting at wait) []) c y) s
    → next_run h t at next (m + k) z r ≡ next_run h t at (Ask inner wait) (l + k) w s
part-asked h t at inner wait next n l m k c w y z s r done units row =
    goes-on h t at inner wait next n l m k c w y z s r done units row
    ∙ sym (run-asks h t (at.room - 1) (inside at inner) w (t.rest (framed (waiting at wait) [])) (l + k) s)

pub part-turned : {S : Type 0} (h : Calling S) (t : Table) (at : Part) (inner : Inner) (wait : Wait) (next : Next) (n l m k : ℕ) (c : Completion) (w y z : World) (s r : S)
    → Done t (inside at inner) n w c y → l ≡ n + m → (as_row t at next [] z, r) ≡ settle h (t.rest (framed (waiting at wait) []) c y) s
    → next_run h t at next (m + k) z r ≡ next_run h t at (Turn inner wait) (l + k) w s
part-turned h t at inner wait next n l m k c w y z s r done units row =
    goes-on h t at inner wait next n l m k c w y z s r done units row
    ∙ sym (run-again h t (at.room - 1) (inside at inner) w (framed (waiting at wait) []) (l + k) s)

pub rest-asked : {S : Type 0} (h : Calling S) (t : Table) (at : Part) (inner : Inner) (wait : Wait) (n l m k : ℕ) (d : Completion) (w y : World) (s : S)
    → Done t (inside at inner) n w d y → l ≡ n + m
    → run h t (at.room - 1) (t.rest (framed (waiting at wait) []) d y) (m + k) s ≡ next_run h t at (Ask inner wait) (l + k) w s
rest-asked h t at inner wait n l m k d w y s done units =
    past-asked h t at inner wait n l m k d w y s done units
    ∙ sym (run-asks h t (at.room - 1) (inside at inner) w (t.rest (framed (waiting at wait) [])) (l + k) s)

pub rest-turned : {S : Type 0} (h : Calling S) (t : Table) (at : Part) (inner : Inner) (wait : Wait) (n l m k : ℕ) (d : Completion) (w y : World) (s : S)
    → Done t (inside at inner) n w d y → l ≡ n + m
    → run h t (at.room - 1) (t.rest (framed (waiting at wait) []) d y) (m + k) s ≡ next_run h t at (Turn inner wait) (l + k) w s
rest-turned h t at inner wait n l m k d w y s done units =
    past-asked h t at inner wait n l m k d w y s done units
    ∙ sym (run-again h t (at.room - 1) (inside at inner) w (framed (waiting at wait) []) (l + k) s)

round-of : {S : Type 0} (h : Calling S) (t : Table) (at : Part) (inner : Inner) (wait : RoundWait) (n l m k : ℕ) (d : Completion) (w y : World) (s : S)
    → Done t (inside at inner) n w d y → l ≡ n + m
    → run h t (at.room - 1) (rest_at t at wait d y) (m + k) s ≡ next_run h t at (asked_at wait inner) (l + k) w s
round-of h t at inner (Statement place ending) n l m k d w y s done units = rest-asked h t at inner (Own (own_wait (Statement place ending))) n l m k d w y s done units
round-of h t at inner DoBody n l m k d w y s done units = rest-turned h t at inner (Own (own_wait DoBody)) n l m k d w y s done units
round-of h t at inner DoTest n l m k d w y s done units = rest-turned h t at inner (Own (own_wait DoTest)) n l m k d w y s done units
round-of h t at inner WhileTest n l m k d w y s done units = rest-turned h t at inner (Own (own_wait WhileTest)) n l m k d w y s done units
round-of h t at inner WhileBody n l m k d w y s done units = rest-turned h t at inner (Own (own_wait WhileBody)) n l m k d w y s done units
round-of h t at inner ForTest n l m k d w y s done units = rest-turned h t at inner (Own (own_wait ForTest)) n l m k d w y s done units
round-of h t at inner ForUpdate n l m k d w y s done units = rest-turned h t at inner (Own (own_wait ForUpdate)) n l m k d w y s done units
round-of h t at inner ForBody n l m k d w y s done units = rest-turned h t at inner (Own (own_wait ForBody)) n l m k d w y s done units

-- where a list or a loop waits for a part that is done at once, what is left of it runs on as it did
pub round-done : {S : Type 0} (h : Calling S) (t : Table) (at : Part) (inner : Inner) (wait : RoundWait) (row : Row) (n l m k : ℕ) (d : Completion) (w y : World) (s : S)
    → Done t (inside at inner) n w d y → l ≡ n + m → as_row t at (asked_at wait inner) [] w ≡ row
    → run h t (at.room - 1) (rest_at t at wait d y) (m + k) s ≡ run h t (at.room - 1) row (l + k) s
round-done h t at inner wait row n l m k d w y s done units is =
    round-of h t at inner wait n l m k d w y s done units ∙ ap (λ r. run h t (at.room - 1) r (l + k) s) is

-- a row that asks for a part which is done at once
pub asked : (t : Table) (part : Part) (w : World) (go : Completion → World → Row) (n m units : ℕ) (d c : Completion) (y x : World)
    → Done t part n w d y → Comes t (go d y) m c x → units ≡ n + m → Comes t (Asks part w go) units c x
asked t part w go n m units d c y x first later sum =
    let same : 1 + first.0 + m ≡ units = omega (arith, first.1, sum) in
    subst (λ u. Comes t (Asks part w go) u c x) same (Went part w go first.0 m d c y x first.2 first.3 later)

-- a row that has ended
pub ended_at : (t : Table) (row : Row) (c : Completion) (w : World) → row ≡ Ends c w → Comes t row 0 c w
ended_at t row c w is = subst (λ r. Comes t r 0 c w) (sym is) (Ended c w)

-- a row that is another comes where that comes
pub same_row : (t : Table) (row other : Row) (n : ℕ) (c : Completion) (x : World) → row ≡ other → Comes t row n c x → Comes t other n c x
same_row t row other n c x is comes = subst (λ r. Comes t r n c x) is comes
