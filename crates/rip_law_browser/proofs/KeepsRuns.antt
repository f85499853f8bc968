-- What a host keeps in each answer, a run keeps.
use Rattle.std.proofs.Common.{ℕ, zero, suc, ◌-◌, min, Bool, true, false, List, [], ◌∷◌, nat_le}
use Rattle.rip_heap.specs.Host.{Request}
use Rattle.rip_heap.specs.World.{World}
use Rattle.rip_eval_rows.specs.declared.completion.Completion.{Completion}
use Rattle.rip_eval_rows.specs.declared.part.Part.{Part}
use Rattle.rip_eval_rows.specs.declared.next.Control.{Control}
use Rattle.rip_eval_rows.specs.declared.next.Control.TheVariants.{Enter, Give, Halted}
use Rattle.rip_eval_rows.specs.Cut.{conclude, rest_of, run_of}
use Rattle.rip_eval_rows.specs.Evaluation.{Reached, Passes, Breaks, Pauses, reached}
use Rattle.rip_eval_rows.specs.Rest.{at_hand, finish, rest, room_in, unwind}
use Rattle.rip_eval_rows.specs.Stack.{Open}
use Rattle.rip_eval_rows.specs.Row.{Row, Ends, Halts, Asks, Again, AsksHost, Table, entered}
use Rattle.rip_eval_rows.specs.Run.{Answer, Completes, Stops, Cuts, Calling, follow, enter, run, run_by, run_to}
use Rattle.rip_machine.specs.Run.{run_begun}
use Rattle.rip_machine.specs.Starting.{Beginning, Runs, Exceeds}

abbrev pub Has : {S : Type 0} → (S → Type 0) → Answer S → Type 0
Has P (Completes c u w s) = P s
Has P (Stops stop room u w s) = P s
Has P (Cuts room w s) = P s

abbrev pub HasReached : {S : Type 0} → (S → Type 0) → Reached S → Type 0
HasReached P (Passes u w s) = P s
HasReached P (Breaks stop u w s) = P s
HasReached P (Pauses open_depth w s) = P s

-- each answer of the host keeps it
abbrev pub KeptBy : {S : Type 0} → (S → Type 0) → Calling S → Type 0
KeptBy P h = (s : _) (w : World) (r : Request) → P s → P (let a = h s w r in a.2)

follow_has : {S : Type 0} (P : S → Type 0) (a : Answer S) (go : Completion → ℕ → World → S → Answer S) → Has P a → ((c : Completion) (u : ℕ) (w : World) (s : S) → P s → Has P (go c u w s)) → Has P (follow a go)
follow_has P (Completes c u w s) go h g = g c u w s h
follow_has P (Stops stop room u w s) go h g = h
follow_has P (Cuts room w s) go h g = h

enter_has : {S : Type 0} (P : S → Type 0) (go : ℕ → Row → ℕ → S → Answer S) → ((room : ℕ) (row : Row) (u : ℕ) (s : S) → P s → Has P (go room row u s))
    → (t : Table) (part : Part) (u : ℕ) (w : World) (s : S) → P s → Has P (enter go t part u w s)
enter_has P go h t part zero w s p = p
enter_has P go h t part (suc u) w s p = h (part.room - 1) (entered t part w) u s p

by_has : {S : Type 0} (P : S → Type 0) (h : Calling S) → KeptBy P h → (go : ℕ → Row → ℕ → S → Answer S) (t : Table) → ((room : ℕ) (row : Row) (u : ℕ) (s : S) → P s → Has P (go room row u s))
    → (room : ℕ) (row : Row) (u : ℕ) (s : S) → P s → Has P (run_by h go t room row u s)
by_has P h keeps go t g room (Ends c w) u s p = p
by_has P h keeps go t g room (Halts stop w) u s p = p
by_has P h keeps go t g room (Asks part w k) u s p =
    follow_has P (enter go t part u w s) _ (enter_has P go g t part u w s p) (λ c v x r q. by_has P h keeps go t g part.room (k c x) v r q)
by_has P h keeps go t g room (Again part w o) u s p =
    follow_has P (enter go t part u w s) _ (enter_has P go g t part u w s p) (λ c v x r q. g part.room (t.rest o c x) v r q)
by_has P h keeps go t g room (AsksHost request w k) u s p = by_has P h keeps go t g room (k (h s w request).0 (h s w request).1) u (h s w request).2 (keeps s w request p)

to_has : {S : Type 0} (P : S → Type 0) (h : Calling S) → KeptBy P h → (t : Table) (g room : ℕ) (row : Row) (u : ℕ) (s : S) → P s → Has P (run_to h t g room row u s)
unfolding run_to
to_has P h keeps t zero room row u s p = p
to_has P h keeps t (suc g) room row u s p = by_has P h keeps (run_to h t g) t (to_has P h keeps t g) room row u s p

conclude_has : {S : Type 0} (P : S → Type 0) (b : Bool) (a : Answer S) → Has P a → Has P (conclude b a)
conclude_has P false a h = h
conclude_has P true (Completes c u w s) h = h
conclude_has P true (Stops stop room u w s) h = h
conclude_has P true (Cuts room w s) h = h

reached_has : {S : Type 0} (P : S → Type 0) (depth : ℕ) (a : Answer S) → Has P a → HasReached P (reached depth a)
reached_has P depth (Completes c u w s) h = h
reached_has P depth (Stops stop room u w s) h = h
reached_has P depth (Cuts room w s) h = h

pub begun_has : {S : Type 0} (P : S → Type 0) (h : Calling S) → KeptBy P h → (t : Table) (depth : ℕ) (b : Beginning) (w : World) (s : S) (fuel k : ℕ) → P s
    → HasReached P (reached depth (run_begun h t depth b w s fuel k))
begun_has P h keeps t depth (Runs row x) w s fuel k p =
    reached_has P depth (run_of h t depth row s fuel k) (conclude_has P (nat_le fuel k) (run h t depth row (min fuel k) s) (to_has P h keeps t (suc (min fuel k)) depth row (min fuel k) s p))
begun_has P h keeps t depth (Exceeds limit) w s fuel k p = p

-- ---- a run that stands

finish_has : {S : Type 0} (P : S → Type 0) (h : Calling S) → KeptBy P h → (t : Table) (o : Open) (a : Answer S) → Has P a → Has P (finish h t o a)
finish_has P h keeps t o a p =
    follow_has P a _ p (λ c u w s q. to_has P h keeps t (suc u) (room_in (let f = o in f.frame)) (t.rest o c w) u s q)

unwind_has : {S : Type 0} (P : S → Type 0) (h : Calling S) → KeptBy P h → (t : Table) (os : List Open) (a : Answer S) → Has P a → Has P (unwind h t os a)
unfolding unwind
unwind_has P h keeps t [] a p = p
unwind_has P h keeps t (o ∷ os) a p = finish_has P h keeps t o (unwind h t os a) (unwind_has P h keeps t os a p)

hand_has : {S : Type 0} (P : S → Type 0) (h : Calling S) → KeptBy P h → (t : Table) (control : Control) (u : ℕ) (w : World) (s : S) → P s → Has P (at_hand h t control u w s)
hand_has P h keeps t (Enter part) u w s p = enter_has P (run_to h t u) (to_has P h keeps t u) t part u w s p
hand_has P h keeps t (Give c) u w s p = p
hand_has P h keeps t (Halted stop room) u w s p = p

rest_has : {S : Type 0} (P : S → Type 0) (h : Calling S) → KeptBy P h → (t : Table) (control : Control) (os : List Open) (u : ℕ) (w : World) (s : S) → P s → Has P (rest h t control os u w s)
unfolding rest
rest_has P h keeps t control os u w s p = unwind_has P h keeps t os (at_hand h t control u w s) (hand_has P h keeps t control u w s p)

pub left_has : {S : Type 0} (P : S → Type 0) (h : Calling S) → KeptBy P h → (t : Table) (depth : ℕ) (control : Control) (os : List Open) (w : World) (s : S) (fuel k : ℕ) → P s
    → HasReached P (reached depth (rest_of h t control os w s fuel k))
left_has P h keeps t depth control os w s fuel k p =
    reached_has P depth (rest_of h t control os w s fuel k) (conclude_has P (nat_le fuel k) (rest h t control os (min fuel k) w s) (rest_has P h keeps t control os (min fuel k) w s p))
