-- What a host does alike where it is changed so, a run over it does alike.
use Rattle.std.proofs.Common.{◌≡◌, ◌∙◌, ℕ, zero, suc, ◌-◌, min, Bool, true, false, nat_le, refl, ap}
use Rattle.rip_heap.specs.Host.{Request}
use Rattle.rip_heap.specs.World.{World}
use Rattle.rip_eval_rows.specs.declared.completion.Completion.{Completion}
use Rattle.rip_eval_rows.specs.declared.part.Part.{Part}
use Rattle.rip_eval_rows.specs.Cut.{conclude, run_of}
use Rattle.rip_eval_rows.specs.Row.{Row, Ends, Halts, Asks, Again, AsksHost, Table, entered}
use Rattle.rip_eval_rows.specs.Run.{Answer, Completes, Stops, Cuts, Calling, follow, enter, run, run_by, run_to, with_reply}
use Rattle.rip_machine.specs.Run.{run_begun}
use Rattle.rip_machine.specs.Starting.{Beginning, Runs, Exceeds}

-- a run behind which the host is changed so
abbrev pub behind : {S : Type 0} → (S → S) → Answer S → Answer S
behind f (Completes c u w s) = Completes c u w (f s)
behind f (Stops stop room u w s) = Stops stop room u w (f s)
behind f (Cuts room w s) = Cuts room w (f s)

-- each answer of the host is alike, and behind it the host is changed so
abbrev pub Alike : {S : Type 0} → (S → S) → Calling S → Type 0
Alike f h = (s : _) (w : World) (r : Request) → h (f s) w r ≡ (let a = h s w r in (a.0, a.1, f a.2))

abbrev Rows : Type 0 → Type 0
Rows S = ℕ → Row → ℕ → S → Answer S

-- rows are run alike
abbrev Same : {S : Type 0} → (S → S) → Rows S → Type 0
Same f go = (room : ℕ) (row : Row) (u : ℕ) (s : _) → go room row u (f s) ≡ behind f (go room row u s)

follow_same : {S : Type 0} (f : S → S) (a : Answer S) (go : Completion → ℕ → World → S → Answer S)
    → ((c : Completion) (u : ℕ) (w : World) (s : S) → go c u w (f s) ≡ behind f (go c u w s)) → follow (behind f a) go ≡ behind f (follow a go)
follow_same f (Completes c u w s) go g = g c u w s
follow_same f (Stops stop room u w s) go g = refl
follow_same f (Cuts room w s) go g = refl

enter_same : {S : Type 0} (f : S → S) (go : Rows S) → Same f go → (t : Table) (part : Part) (u : ℕ) (w : World) (s : S) → enter go t part u w (f s) ≡ behind f (enter go t part u w s)
enter_same f go g t part zero w s = refl
enter_same f go g t part (suc u) w s = g (part.room - 1) (entered t part w) u s

by_same : {S : Type 0} (f : S → S) (h : Calling S) → Alike f h → (go : Rows S) (t : Table) → Same f go → Same f (run_by h go t)
by_same f h alike go t g room (Ends c w) u s = refl
by_same f h alike go t g room (Halts stop w) u s = refl
by_same f h alike go t g room (Asks part w k) u s =
    ap (λ a. follow a (λ c v x r. run_by h go t part.room (k c x) v r)) (enter_same f go g t part u w s)
    ∙ follow_same f (enter go t part u w s) (λ c v x r. run_by h go t part.room (k c x) v r) (λ c v x r. by_same f h alike go t g part.room (k c x) v r)
by_same f h alike go t g room (Again part w o) u s =
    ap (λ a. follow a (λ c v x r. go part.room (t.rest o c x) v r)) (enter_same f go g t part u w s)
    ∙ follow_same f (enter go t part u w s) (λ c v x r. go part.room (t.rest o c x) v r) (λ c v x r. g part.room (t.rest o c x) v r)
by_same f h alike go t g room (AsksHost request w k) u s =
    ap (λ a. with_reply a (λ d x r. run_by h go t room (k d x) u r)) (alike s w request)
    ∙ by_same f h alike go t g room (k (h s w request).0 (h s w request).1) u (h s w request).2

to_same : {S : Type 0} (f : S → S) (h : Calling S) → Alike f h → (t : Table) (n : ℕ) → Same f (run_to h t n)
unfolding run_to
to_same f h alike t zero room row u s = refl
to_same f h alike t (suc n) room row u s = by_same f h alike (run_to h t n) t (to_same f h alike t n) room row u s

conclude_same : {S : Type 0} (f : S → S) (b : Bool) (a : Answer S) → conclude b (behind f a) ≡ behind f (conclude b a)
conclude_same f false a = refl
conclude_same f true (Completes c u w s) = refl
conclude_same f true (Stops stop room u w s) = refl
conclude_same f true (Cuts room w s) = refl

pub begun_same : {S : Type 0} (f : S → S) (h : Calling S) → Alike f h → (t : Table) (depth : ℕ) (b : Beginning) (w : World) (s : S) (fuel k : ℕ)
    → run_begun h t depth b w (f s) fuel k ≡ behind f (run_begun h t depth b w s fuel k)
begun_same f h alike t depth (Runs row x) w s fuel k =
    ap (conclude (nat_le fuel k)) (to_same f h alike t (suc (min fuel k)) depth row (min fuel k) s)
    ∙ conclude_same f (nat_le fuel k) (run h t depth row (min fuel k) s)
begun_same f h alike t depth (Exceeds limit) w s fuel k = refl
