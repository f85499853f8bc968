-- Runs of rows: units never grow, and rows nested deeper than there are units change nothing.
use Rattle.std.proofs.Common.{◌≡◌, ℕ, zero, suc, ◌-◌, ◌<◌, ◌≤◌, refl, ap, ◌∙◌, arith, le_trans}
use Rattle.rip_heap.specs.World.{World}
use Rattle.rip_eval_rows.specs.declared.completion.Completion.{Completion}
use Rattle.rip_eval_rows.specs.declared.part.Part.{Part}
use Rattle.rip_eval_rows.specs.Row.{Row, Ends, Halts, Asks, Again, AsksHost, Table, entered}
use Rattle.rip_eval_rows.specs.Run.{Answer, Completes, Stops, Cuts, Calling, follow, enter, run_by, run_to, run, ev}
use Rattle.rip_eval_rows.specs.Stack.{Open}

-- no more units are left than this
abbrev pub HasAtMost : {S : Type 0} → ℕ → Answer S → Type 0
HasAtMost u (Completes c v w s) = v ≤ u
HasAtMost u (Stops stop room v w s) = v ≤ u
HasAtMost u (Cuts room w s) = Unit {0}

more : {S : Type 0} (u v : ℕ) (a : Answer S) → u ≤ v → HasAtMost u a → HasAtMost v a
more u v (Completes c x w s) h g = le_trans g h
more u v (Stops stop room x w s) h g = le_trans g h
more u v (Cuts room w s) h g = tt

follow-at_most : {S : Type 0} (u : ℕ) (a : Answer S) (go : Completion → ℕ → World → S → Answer S) → HasAtMost u a
    → ((c : Completion) (v : ℕ) (w : World) (s : S) → v ≤ u → HasAtMost v (go c v w s)) → HasAtMost u (follow a go)
follow-at_most u (Completes c v w s) go h g = more v u (go c v w s) h (g c v w s h)
follow-at_most u (Stops stop room v w s) go h g = h
follow-at_most u (Cuts room w s) go h g = tt

follow-same : {S : Type 0} (u : ℕ) (a : Answer S) (go og : Completion → ℕ → World → S → Answer S) → HasAtMost u a
    → ((c : Completion) (v : ℕ) (w : World) (s : S) → v ≤ u → go c v w s ≡ og c v w s) → follow a go ≡ follow a og
follow-same u (Completes c v w s) go og h g = g c v w s h
follow-same u (Stops stop room v w s) go og h g = refl
follow-same u (Cuts room w s) go og h g = refl

enter-at_most : {S : Type 0} (go : ℕ → Row → ℕ → S → Answer S) → ((room : ℕ) (row : Row) (v : ℕ) (s : S) → HasAtMost v (go room row v s))
    → (t : Table) (part : Part) (u : ℕ) (w : World) (s : S) → HasAtMost u (enter go t part u w s)
enter-at_most go h t part zero w s = tt
enter-at_most go h t part (suc u) w s = more u (suc u) (go (part.room - 1) (entered t part w) u s) (omega arith) (h (part.room - 1) (entered t part w) u s)

by-at_most : {S : Type 0} (h : Calling S) (go : ℕ → Row → ℕ → S → Answer S) (t : Table) → ((room : ℕ) (row : Row) (v : ℕ) (s : S) → HasAtMost v (go room row v s))
    → (room : ℕ) (row : Row) (u : ℕ) (s : S) → HasAtMost u (run_by h go t room row u s)
by-at_most h go t g room (Ends c w) u s = omega arith
by-at_most h go t g room (Halts stop w) u s = omega arith
by-at_most h go t g room (Asks part w k) u s =
    follow-at_most u (enter go t part u w s) _ (enter-at_most go g t part u w s) (λ c v x r le. by-at_most h go t g part.room (k c x) v r)
by-at_most h go t g room (Again part w o) u s =
    follow-at_most u (enter go t part u w s) _ (enter-at_most go g t part u w s) (λ c v x r le. g part.room (t.rest o c x) v r)
by-at_most h go t g room (AsksHost request w k) u s = by-at_most h go t g room (k (h s w request).0 (h s w request).1) u (h s w request).2

pub to-at_most : {S : Type 0} (h : Calling S) (t : Table) (g room : ℕ) (row : Row) (u : ℕ) (s : S) → HasAtMost u (run_to h t g room row u s)
unfolding run_to
to-at_most h t zero room row u s = tt
to-at_most h t (suc g) room row u s = by-at_most h (run_to h t g) t (to-at_most h t g) room row u s

-- what was entered took a unit
enter-below : {S : Type 0} (go : ℕ → Row → ℕ → S → Answer S) → ((room : ℕ) (row : Row) (v : ℕ) (s : S) → HasAtMost v (go room row v s))
    → (t : Table) (part : Part) (u : ℕ) (w : World) (s : S) (f og : Completion → ℕ → World → S → Answer S)
    → ((c : Completion) (v : ℕ) (x : World) (r : S) → v < u → f c v x r ≡ og c v x r) → follow (enter go t part u w s) f ≡ follow (enter go t part u w s) og
enter-below go h t part zero w s f og g = refl
enter-below go h t part (suc u) w s f og g = follow-same u (go (part.room - 1) (entered t part w) u s) f og (h (part.room - 1) (entered t part w) u s) (λ c v x r le. g c v x r (omega arith))

enter-same : {S : Type 0} (go og : ℕ → Row → ℕ → S → Answer S) (t : Table) (part : Part) (u : ℕ) (w : World) (s : S)
    → ((room : ℕ) (row : Row) (v : ℕ) (r : S) → v < u → go room row v r ≡ og room row v r) → enter go t part u w s ≡ enter og t part u w s
enter-same go og t part zero w s h = refl
enter-same go og t part (suc u) w s h = h (part.room - 1) (entered t part w) u s (omega arith)

-- two ways of running that agree below u run a row with u units alike
by-same : {S : Type 0} (h : Calling S) (go og : ℕ → Row → ℕ → S → Answer S) (t : Table)
    → ((room : ℕ) (row : Row) (v : ℕ) (s : S) → HasAtMost v (og room row v s))
    → (room : ℕ) (row : Row) (u : ℕ) (s : S) → ((room : ℕ) (row : Row) (v : ℕ) (r : S) → v < u → go room row v r ≡ og room row v r) → run_by h go t room row u s ≡ run_by h og t room row u s
by-same h go og t g room (Ends c w) u s same = refl
by-same h go og t g room (Halts stop w) u s same = refl
by-same h go og t g room (Asks part w k) u s same =
    ap (λ a. follow a (λ c v x r. run_by h go t part.room (k c x) v r)) (enter-same go og t part u w s same)
    ∙ follow-same u (enter og t part u w s) _ _ (enter-at_most og g t part u w s) (λ c v x r le. by-same h go og t g part.room (k c x) v r (λ room row n q lt. same room row n q (omega arith)))
by-same h go og t g room (Again part w o) u s same =
    ap (λ a. follow a (λ c v x r. go part.room (t.rest o c x) v r)) (enter-same go og t part u w s same)
    ∙ enter-below og g t part u w s _ _ (λ c v x r lt. same part.room (t.rest o c x) v r lt)
by-same h go og t g room (AsksHost request w k) u s same = by-same h go og t g room (k (h s w request).0 (h s w request).1) u (h s w request).2 same

-- any depth of nested rows above the units gives the same
pub to-same : {S : Type 0} (h : Calling S) (t : Table) (f g room : ℕ) (row : Row) (u : ℕ) (s : S) → u < f → u < g → run_to h t f room row u s ≡ run_to h t g room row u s
unfolding run_to
to-same h t zero g room row u s a b = absurd (omega arith)
to-same h t (suc f) zero room row u s a b = absurd (omega arith)
to-same h t (suc f) (suc g) room row u s a b =
    by-same h (run_to h t f) (run_to h t g) t (to-at_most h t g) room row u s (λ room row v r lt. to-same h t f g room row v r (omega arith) (omega arith))

-- the run of a row that asks for a part
pub run-asks : {S : Type 0} (h : Calling S) (t : Table) (room : ℕ) (part : Part) (w : World) (k : Completion → World → Row) (u : ℕ) (s : S)
    → run h t room (Asks part w k) u s ≡ follow (ev h t part u w s) (λ c v x r. run h t part.room (k c x) v r)
unfolding run_to
run-asks h t room part w k u s =
    follow-same u (ev h t part u w s) _ _ (enter-at_most (run_to h t u) (to-at_most h t u) t part u w s) (λ c v x r le. to-same h t (suc u) (suc v) part.room (k c x) v r (omega arith) (omega arith))

-- the run of a row that begins one more turn
pub run-again : {S : Type 0} (h : Calling S) (t : Table) (room : ℕ) (part : Part) (w : World) (o : Open) (u : ℕ) (s : S)
    → run h t room (Again part w o) u s ≡ follow (ev h t part u w s) (λ c v x r. run h t part.room (t.rest o c x) v r)
unfolding run_to
run-again h t room part w o u s =
    enter-below (run_to h t u) (to-at_most h t u) t part u w s _ _ (λ c v x r lt. to-same h t u (suc v) part.room (t.rest o c x) v r lt (omega arith))
