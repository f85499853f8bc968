-- Runs count their units: more units change no run that has come to its end, and one that is cut wants one more at least.
use Rattle.std.proofs.Common.{◌≡◌, ℕ, zero, suc, ◌+◌, ◌-◌, ◌<◌, ◌≤◌, min, Bool, true, false, nat_le, refl, subst, arith}
use Rattle.std.proofs.lemmas.Bool.{leb-true, leb-false}
use Rattle.rip_heap.specs.World.{World}
use Rattle.rip_eval_rows.specs.declared.completion.Completion.{Completion}
use Rattle.rip_eval_rows.specs.declared.part.Part.{Part}
use Rattle.rip_eval_rows.specs.Cut.{conclude, run_of}
use Rattle.rip_eval_rows.specs.Evaluation.{reached}
use Rattle.rip_eval_rows.specs.Row.{Row, Ends, Halts, Asks, Again, AsksHost, Table, entered}
use Rattle.rip_eval_rows.specs.Run.{Answer, Completes, Stops, Cuts, Calling, follow, enter, run_by, run_to, run}
use Rattle.rip_eval_rows.proofs.Runs.{HasAtMost, to-at_most, to-same}
use Rattle.rip_replica.specs.Plays.{LeavesAtMost, WantsMore}

-- fewer units are left than this, where the run has come to its end
HasBelow : {S : Type 0} → ℕ → Answer S → Type 0
HasBelow k (Completes c u w s) = u < k
HasBelow k (Stops stop room u w s) = u < k
HasBelow k (Cuts room w s) = Unit {0}

-- an answer that is an end is the same with so many units more; one that is cut wants more
Later : {S : Type 0} → ℕ → Answer S → Answer S → Type 0
Later k (Completes c u w s) b = b ≡ Completes c (u + k) w s
Later k (Stops stop room u w s) b = b ≡ Stops stop room (u + k) w s
Later k (Cuts room w s) b = HasBelow k b

below-of : {S : Type 0} (m n : ℕ) (a : Answer S) → m < n → HasAtMost m a → HasBelow n a
unfolding HasBelow
below-of m n (Completes c u w s) less h = omega (arith, less, h)
below-of m n (Stops stop room u w s) less h = omega (arith, less, h)
below-of m n (Cuts room w s) less h = tt

below-follow : {S : Type 0} (k : ℕ) (b : Answer S) (go : Completion → ℕ → World → S → Answer S) → HasBelow k b → ((c : Completion) (v : ℕ) (w : World) (s : S) → HasAtMost v (go c v w s)) → HasBelow k (follow b go)
unfolding HasBelow
below-follow k (Completes c v w s) go h most = below-of v k (go c v w s) h (most c v w s)
below-follow k (Stops stop room v w s) go h most = h
below-follow k (Cuts room w s) go h most = tt

follow-later : {S : Type 0} (k : ℕ) (a b : Answer S) (go : Completion → ℕ → World → S → Answer S) → Later k a b → ((c : Completion) (v : ℕ) (w : World) (s : S) → HasAtMost v (go c v w s))
    → ((c : Completion) (v : ℕ) (w : World) (s : S) → Later k (go c v w s) (go c (v + k) w s)) → Later k (follow a go) (follow b go)
unfolding Later
follow-later k (Completes c v w s) b go h most g = rw h (g c v w s)
follow-later k (Stops stop room v w s) b go h most g = rw h refl
follow-later k (Cuts room w s) b go h most g = below-follow k b go h most

enter-later : {S : Type 0} (k : ℕ) (go : ℕ → Row → ℕ → S → Answer S) → ((room : ℕ) (row : Row) (v : ℕ) (s : S) → HasAtMost v (go room row v s))
    → ((room : ℕ) (row : Row) (v : ℕ) (s : S) → Later k (go room row v s) (go room row (v + k) s))
    → (t : Table) (part : Part) (u : ℕ) (w : World) (s : S) → Later k (enter go t part u w s) (enter go t part (u + k) w s)
unfolding Later HasBelow
enter-later zero go most h t part zero w s = tt
enter-later (suc k) go most h t part zero w s =
    let e : suc k ≡ zero + suc k = omega arith in
    let B : ℕ → Type 0 = λ n. HasBelow (suc k) (enter go t part n w s) in
    subst B e (below-of k (suc k) (go (part.room - 1) (entered t part w) k s) (omega arith) (most (part.room - 1) (entered t part w) k s))
enter-later k go most h t part (suc u) w s =
    let e : suc (u + k) ≡ suc u + k = omega arith in
    let B : ℕ → Type 0 = λ n. Later k (go (part.room - 1) (entered t part w) u s) (enter go t part n w s) in
    subst B e (h (part.room - 1) (entered t part w) u s)

by-most : {S : Type 0} (h : Calling S) (g : ℕ) (t : Table) (room : ℕ) (row : Row) (u : ℕ) (s : S) → HasAtMost u (run_by h (run_to h t g) t room row u s)
unfolding run_to
by-most h g t room row u s = to-at_most h t (suc g) room row u s

by-later : {S : Type 0} (h : Calling S) (k g : ℕ) (t : Table)
    → ((room : ℕ) (row : Row) (v : ℕ) (s : S) → Later k (run_to h t g room row v s) (run_to h t g room row (v + k) s))
    → (room : ℕ) (row : Row) (u : ℕ) (s : S) → Later k (run_by h (run_to h t g) t room row u s) (run_by h (run_to h t g) t room row (u + k) s)
unfolding Later
by-later h k g t ih room (Ends c w) u s = refl
by-later h k g t ih room (Halts stop w) u s = refl
by-later h k g t ih room (Asks part w on) u s =
    follow-later k (enter (run_to h t g) t part u w s) (enter (run_to h t g) t part (u + k) w s) _ (enter-later k (run_to h t g) (to-at_most h t g) ih t part u w s)
    (λ c v x r. by-most h g t part.room (on c x) v r) (λ c v x r. by-later h k g t ih part.room (on c x) v r)
by-later h k g t ih room (Again part w o) u s =
    follow-later k (enter (run_to h t g) t part u w s) (enter (run_to h t g) t part (u + k) w s) _ (enter-later k (run_to h t g) (to-at_most h t g) ih t part u w s)
    (λ c v x r. to-at_most h t g part.room (t.rest o c x) v r) (λ c v x r. ih part.room (t.rest o c x) v r)
by-later h k g t ih room (AsksHost request w on) u s =
    by-later h k g t ih room (on (h s w request).0 (h s w request).1) u (h s w request).2

to-later : {S : Type 0} (h : Calling S) (t : Table) (k g room : ℕ) (row : Row) (u : ℕ) (s : S) → Later k (run_to h t g room row u s) (run_to h t g room row (u + k) s)
unfolding run_to Later HasBelow
to-later h t k zero room row u s = tt
to-later h t k (suc g) room row u s = by-later h k g t (to-later h t k g) room row u s

run-later : {S : Type 0} (h : Calling S) (t : Table) (room : ℕ) (row : Row) (u k : ℕ) (s : S) → Later k (run h t room row u s) (run h t room row (u + k) s)
run-later h t room row u k s =
    let A : Answer _ → Type 0 = λ a. Later k a (run h t room row (u + k) s) in
    subst A (to-same h t (suc (u + k)) (suc u) room row u s (omega arith) (omega arith)) (to-later h t k (suc (u + k)) room row u s)

-- a run with fuel that is cut, of which this stands for more units

wants-by : {S : Type 0} (depth k : ℕ) (spent : Bool) (a b : Answer S) → Later k a b → 0 < k → WantsMore k (reached depth (conclude false a)) (reached depth (conclude spent b))
unfolding Later HasBelow
wants-by depth k spent (Completes c u w s) b h some = tt
wants-by depth k spent (Stops stop room u w s) b h some = tt
wants-by depth k false (Cuts room w s) (Completes c u x r) h some = h
wants-by depth k false (Cuts room w s) (Stops stop left u x r) h some = h
wants-by depth k false (Cuts room w s) (Cuts left x r) h some = tt
wants-by depth k true (Cuts room w s) (Completes c u x r) h some = h
wants-by depth k true (Cuts room w s) (Stops stop left u x r) h some = h
wants-by depth k true (Cuts room w s) (Cuts left x r) h some = some

wants-spent : {S : Type 0} (depth k : ℕ) (a b : Answer S) → WantsMore k (reached depth (conclude true a)) (reached depth b)
wants-spent depth k (Completes c u w s) b = tt
wants-spent depth k (Stops stop room u w s) b = tt
wants-spent depth k (Cuts room w s) b = tt

wants-same : {S : Type 0} (depth : ℕ) (spent : Bool) (a b : Answer S) → Later 0 a b → WantsMore 0 (reached depth (conclude false a)) (reached depth (conclude false b))
unfolding Later HasBelow
wants-same depth spent (Completes c u w s) b h = tt
wants-same depth spent (Stops stop room u w s) b h = tt
wants-same depth spent (Cuts room w s) (Completes c u x r) h = h
wants-same depth spent (Cuts room w s) (Stops stop left u x r) h = h
wants-same depth spent (Cuts room w s) (Cuts left x r) h = tt

of-wants-by : {S : Type 0} (h : Calling S) (t : Table) (depth room : ℕ) (row : Row) (s : S) (fuel u k : ℕ) (spent later : Bool) → nat_le fuel u ≡ spent → nat_le fuel (u + k) ≡ later
    → WantsMore (min (u + k) fuel - min u fuel) (reached depth (conclude spent (run h t room row (min fuel u) s))) (reached depth (conclude later (run h t room row (min fuel (u + k)) s)))
of-wants-by h t depth room row s fuel u k true later spent last =
    wants-spent depth (min (u + k) fuel - min u fuel) (run h t room row (min fuel u) s) (conclude later (run h t room row (min fuel (u + k)) s))
of-wants-by h t depth room row s fuel u k false true spent last =
    let within : u < fuel = leb-false fuel u spent in
    let over : fuel ≤ u + k = leb-true fuel (u + k) last in
    let j : ℕ = min (u + k) fuel - min u fuel in
    let more : min fuel u + j ≡ min fuel (u + k) = omega (arith, within, over) in
    let V : ℕ → Type 0 = λ v. Later j (run h t room row (min fuel u) s) (run h t room row v s) in
    wants-by depth j true (run h t room row (min fuel u) s) (run h t room row (min fuel (u + k)) s) (subst V more (run-later h t room row (min fuel u) j s)) (omega (arith, within, over))
of-wants-by h t depth room row s fuel u zero false false spent last =
    let within : u < fuel = leb-false fuel u spent in
    let none : 0 ≡ min (u + 0) fuel - min u fuel = omega arith in
    let same : min fuel u + 0 ≡ min fuel (u + 0) = omega arith in
    let V : ℕ → Type 0 = λ v. Later 0 (run h t room row (min fuel u) s) (run h t room row v s) in
    let N : ℕ → Type 0 = λ n. WantsMore n (reached depth (conclude false (run h t room row (min fuel u) s))) (reached depth (conclude false (run h t room row (min fuel (u + 0)) s))) in
    subst N none (wants-same depth false (run h t room row (min fuel u) s) (run h t room row (min fuel (u + 0)) s) (subst V same (run-later h t room row (min fuel u) 0 s)))
of-wants-by h t depth room row s fuel u (suc k) false false spent last =
    let within : u < fuel = leb-false fuel u spent in
    let j : ℕ = min (u + suc k) fuel - min u fuel in
    let more : min fuel u + j ≡ min fuel (u + suc k) = omega (arith, within) in
    let V : ℕ → Type 0 = λ v. Later j (run h t room row (min fuel u) s) (run h t room row v s) in
    wants-by depth j false (run h t room row (min fuel u) s) (run h t room row (min fuel (u + suc k)) s) (subst V more (run-later h t room row (min fuel u) j s)) (omega (arith, within))

pub of-wants : {S : Type 0} (h : Calling S) (t : Table) (depth room : ℕ) (row : Row) (s : S) (fuel u k : ℕ)
    → WantsMore (min (u + k) fuel - min u fuel) (reached depth (run_of h t room row s fuel u)) (reached depth (run_of h t room row s fuel (u + k)))
of-wants h t depth room row s fuel u k = of-wants-by h t depth room row s fuel u k (nat_le fuel u) (nat_le fuel (u + k)) refl refl

-- and no more units are left than there were

lent-by : {S : Type 0} (depth most : ℕ) (spent : Bool) (a : Answer S) → HasAtMost most a → LeavesAtMost most (reached depth (conclude spent a))
lent-by depth most false (Completes c u w s) h = h
lent-by depth most false (Stops stop room u w s) h = h
lent-by depth most false (Cuts room w s) h = tt
lent-by depth most true (Completes c u w s) h = h
lent-by depth most true (Stops stop room u w s) h = h
lent-by depth most true (Cuts room w s) h = omega arith

pub of-lent : {S : Type 0} (h : Calling S) (t : Table) (depth room : ℕ) (row : Row) (s : S) (fuel u : ℕ) → LeavesAtMost (min u fuel) (reached depth (run_of h t room row s fuel u))
of-lent h t depth room row s fuel u =
    let same : min fuel u ≡ min u fuel = omega arith in
    let M : ℕ → Type 0 = λ m. LeavesAtMost m (reached depth (run_of h t room row s fuel u)) in
    subst M same (lent-by depth (min fuel u) (nat_le fuel u) (run h t room row (min fuel u) s) (to-at_most h t (suc (min fuel u)) room row (min fuel u) s))
