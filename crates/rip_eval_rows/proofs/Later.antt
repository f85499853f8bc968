-- More units change no run that has come to its end: they are left over.
use Rattle.std.proofs.Common.{◌≡◌, ℕ, zero, suc, ◌+◌, ◌-◌, ◌<◌, ◌≤◌, min, Bool, true, false, nat_le, refl, ap, sym, subst, arith, add-zero}
use Rattle.std.proofs.lemmas.Bool.{le-leb}
use Rattle.rip_heap.specs.World.{World}
use Rattle.rip_eval_rows.specs.declared.completion.Completion.{Completion}
use Rattle.rip_eval_rows.specs.declared.completion.Stop.{Stop}
use Rattle.rip_eval_rows.specs.declared.part.Part.{Part}
use Rattle.rip_eval_rows.specs.Cut.{conclude, run_of}
use Rattle.rip_eval_rows.specs.Evaluation.{Breaks, IsEnded, IsLater, reached}
use Rattle.rip_eval_rows.specs.Row.{Row, Ends, Halts, Asks, Again, AsksHost, Table, entered}
use Rattle.rip_eval_rows.specs.Run.{Answer, Completes, Stops, Cuts, Calling, follow, enter, run_by, run_to, run}
use Rattle.rip_eval_rows.proofs.Runs.{to-same}

-- an answer that is an end is the same with so many units more, which are left over
pub OnlyMore : {S : Type 0} → ℕ → Answer S → Answer S → Type 0
OnlyMore k (Completes c u w s) b = b ≡ Completes c (u + k) w s
OnlyMore k (Stops stop room u w s) b = b ≡ Stops stop room (u + k) w s
OnlyMore k (Cuts room w s) b = Unit {0}

follow-later : {S : Type 0} (k : ℕ) (a b : Answer S) (go : Completion → ℕ → World → S → Answer S) → OnlyMore k a b
    → ((c : Completion) (v : ℕ) (w : World) (s : S) → OnlyMore k (go c v w s) (go c (v + k) w s)) → OnlyMore k (follow a go) (follow b go)
unfolding OnlyMore
follow-later k (Completes c v w s) b go h g = rw h (g c v w s)
follow-later k (Stops stop room v w s) b go h g = rw h refl
follow-later k (Cuts room w s) b go h g = tt

enter-later : {S : Type 0} (k : ℕ) (go : ℕ → Row → ℕ → S → Answer S) → ((room : ℕ) (row : Row) (v : ℕ) (s : S) → OnlyMore k (go room row v s) (go room row (v + k) s))
    → (t : Table) (part : Part) (u : ℕ) (w : World) (s : S) → OnlyMore k (enter go t part u w s) (enter go t part (u + k) w s)
unfolding OnlyMore
enter-later k go h t part zero w s = tt
enter-later k go h t part (suc u) w s =
    let e : suc u + k ≡ suc (u + k) = omega arith in
    rw e (h (part.room - 1) (entered t part w) u s)

by-later : {S : Type 0} (h : Calling S) (k : ℕ) (go : ℕ → Row → ℕ → S → Answer S) (t : Table)
    → ((room : ℕ) (row : Row) (v : ℕ) (s : S) → OnlyMore k (go room row v s) (go room row (v + k) s))
    → (room : ℕ) (row : Row) (u : ℕ) (s : S) → OnlyMore k (run_by h go t room row u s) (run_by h go t room row (u + k) s)
unfolding OnlyMore
by-later h k go t g room (Ends c w) u s = refl
by-later h k go t g room (Halts stop w) u s = refl
by-later h k go t g room (Asks part w on) u s =
    follow-later k (enter go t part u w s) (enter go t part (u + k) w s) _ (enter-later k go g t part u w s) (λ c v x r. by-later h k go t g part.room (on c x) v r)
by-later h k go t g room (Again part w o) u s =
    follow-later k (enter go t part u w s) (enter go t part (u + k) w s) _ (enter-later k go g t part u w s) (λ c v x r. g part.room (t.rest o c x) v r)
by-later h k go t g room (AsksHost request w on) u s =
    by-later h k go t g room (on (h s w request).0 (h s w request).1) u (h s w request).2

to-later : {S : Type 0} (h : Calling S) (t : Table) (k g room : ℕ) (row : Row) (u : ℕ) (s : S) → OnlyMore k (run_to h t g room row u s) (run_to h t g room row (u + k) s)
unfolding run_to OnlyMore
to-later h t k zero room row u s = tt
to-later h t k (suc g) room row u s = by-later h k (run_to h t g) t (to-later h t k g) room row u s

-- of a row
pub run-later : {S : Type 0} (h : Calling S) (t : Table) (room : ℕ) (row : Row) (u k : ℕ) (s : S) → OnlyMore k (run h t room row u s) (run h t room row (u + k) s)
run-later h t room row u k s =
    let A : Answer _ → Type 0 = λ a. OnlyMore k a (run h t room row (u + k) s) in
    subst A (to-same h t (suc (u + k)) (suc u) room row u s (omega arith) (omega arith)) (to-later h t k (suc (u + k)) room row u s)

-- where the fuel reaches no further, there is no more
conclude-none : {S : Type 0} (spent : Bool) (a : Answer S) → OnlyMore 0 (conclude spent a) (conclude spent a)
unfolding OnlyMore
conclude-none false (Completes c u w s) = ap (λ v. Completes c v w s) (sym (add-zero u))
conclude-none false (Stops stop room u w s) = ap (λ v. Stops stop room v w s) (sym (add-zero u))
conclude-none false (Cuts room w s) = tt
conclude-none true (Completes c u w s) = ap (λ v. Completes c v w s) (sym (add-zero u))
conclude-none true (Stops stop room u w s) = ap (λ v. Stops stop room v w s) (sym (add-zero u))
conclude-none true (Cuts room w s) = refl

conclude-more : {S : Type 0} (k : ℕ) (spent : Bool) (a b : Answer S) → OnlyMore k a b → OnlyMore k (conclude false a) (conclude spent b)
unfolding OnlyMore
conclude-more k false (Completes c u w s) b h = h
conclude-more k true (Completes c u w s) b h = ap (conclude true) h
conclude-more k false (Stops stop room u w s) b h = h
conclude-more k true (Stops stop room u w s) b h = ap (conclude true) h
conclude-more k false (Cuts room w s) b h = tt
conclude-more k true (Cuts room w s) b h = tt

of-later-by : {S : Type 0} (h : Calling S) (t : Table) (room : ℕ) (row : Row) (s : S) (fuel u k : ℕ) (spent : Bool) → nat_le fuel u ≡ spent
    → OnlyMore (min (u + k) fuel - min u fuel) (conclude spent (run h t room row (min fuel u) s)) (run_of h t room row s fuel (u + k))
of-later-by h t room row s fuel u k true spent =
    let within : fuel ≤ u = grind (arith, spent) in
    let none : 0 ≡ min (u + k) fuel - min u fuel = omega arith in
    let same : min fuel u ≡ min fuel (u + k) = omega arith in
    let too : true ≡ nat_le fuel (u + k) = sym (le-leb fuel (u + k) (omega arith)) in
    let N : ℕ → Type 0 = λ n. OnlyMore n (conclude true (run h t room row (min fuel u) s)) (run_of h t room row s fuel (u + k)) in
    let B : Bool → Type 0 = λ b. OnlyMore 0 (conclude true (run h t room row (min fuel u) s)) (conclude b (run h t room row (min fuel (u + k)) s)) in
    let V : ℕ → Type 0 = λ v. OnlyMore 0 (conclude true (run h t room row (min fuel u) s)) (conclude true (run h t room row v s)) in
    subst N none (subst B too (subst V same (conclude-none true (run h t room row (min fuel u) s))))
of-later-by h t room row s fuel u k false spent =
    let within : u < fuel = grind (arith, spent) in
    let all : u ≡ min fuel u = omega arith in
    let more : min fuel u + (min (u + k) fuel - min u fuel) ≡ min fuel (u + k) = omega arith in
    let j : ℕ = min (u + k) fuel - min u fuel in
    let V : ℕ → Type 0 = λ v. OnlyMore j (run h t room row (min fuel u) s) (run h t room row v s) in
    conclude-more j (nat_le fuel (u + k)) (run h t room row (min fuel u) s) (run h t room row (min fuel (u + k)) s)
    (subst V more (run-later h t room row (min fuel u) j s))

-- of a run with fuel
pub of-later : {S : Type 0} (h : Calling S) (t : Table) (room : ℕ) (row : Row) (s : S) (fuel u k : ℕ)
    → OnlyMore (min (u + k) fuel - min u fuel) (run_of h t room row s fuel u) (run_of h t room row s fuel (u + k))
of-later h t room row s fuel u k = of-later-by h t room row s fuel u k (nat_le fuel u) refl

-- the same of where it stands
pub reached-later : {S : Type 0} (depth k : ℕ) (a b : Answer S) → OnlyMore k a b → IsLater k (reached depth a) (reached depth b)
unfolding OnlyMore
reached-later depth k (Completes c u w s) b h = ap (reached depth) h
reached-later depth k (Stops stop room u w s) b h = ap (reached depth) h
reached-later depth k (Cuts room w s) b h = tt

-- a run whose fuel is spent is not cut
ended-by : {S : Type 0} (depth : ℕ) (spent : Bool) (a : Answer S) → spent ≡ true → IsEnded (reached depth (conclude spent a))
ended-by depth false a h = cc
ended-by depth true (Completes c u w s) h = tt
ended-by depth true (Stops stop room u w s) h = tt
ended-by depth true (Cuts room w s) h = tt

pub of-ended : {S : Type 0} (h : Calling S) (t : Table) (depth room : ℕ) (row : Row) (s : S) (fuel u : ℕ) → fuel ≤ u → IsEnded (reached depth (run_of h t room row s fuel u))
of-ended h t depth room row s fuel u le = ended-by depth (nat_le fuel u) (run h t room row (min fuel u) s) (le-leb fuel u le)

-- of a run that has stopped before its first unit
pub stopped-later : {S : Type 0} (stop : Stop) (w : World) (s : S) (fuel u k : ℕ) → IsLater (min (u + k) fuel - min u fuel) (Breaks stop (min fuel u) w s) (Breaks stop (min fuel (u + k)) w s)
stopped-later stop w s fuel u k =
    let e : min fuel (u + k) ≡ min fuel u + (min (u + k) fuel - min u fuel) = omega arith in ap (λ v. Breaks stop v w s) e
