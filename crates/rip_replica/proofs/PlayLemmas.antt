-- Plans leave no more units than they had, and what is cut wants more.
use Rattle.std.proofs.Common.{◌≡◌, ℕ, zero, suc, ◌+◌, ◌-◌, ◌<◌, ◌≤◌, min, List, [], ◌∷◌, sym, subst, arith, le_trans}
use Rattle.rip_heap.specs.World.{World}
use Rattle.rip_eval_rows.specs.Evaluation.{IsLater, Reached, Passes, Breaks, Pauses}
use Rattle.rip_eval_rows.specs.declared.close.Close.{Close}
use Rattle.rip_eval_rows.specs.declared.close.Close.TheVariants.{Fine, Refused, Mismatch, Stopped}
use Rattle.rip_eval_rows.specs.Plan.{IsNoMismatch, IsPlain, Plan, Over, Takes, Awaits, Runs}
use Rattle.rip_eval_rows.specs.Started.{Started}
use Rattle.rip_replica.specs.Laws.{IsClosed, IsPlayedLater}
use Rattle.rip_replica.specs.Play.{Played, Closes, Holds, after_run, play}
use Rattle.rip_replica.proofs.PlayLaws.{plain_closes, play_later}
use Rattle.rip_replica.specs.Plays.{CountsUnits, LeavesAtMost, LeavesLess, WantsMore}
use Rattle.rip_replica.specs.Rooms.{IsMismatch}

-- a plan leaves no more than this; fewer than this, where it closes
unfoldable pub AtMost : {S : Type 0} → ℕ → Played S → Type 0
AtMost most (Closes close gs fuel u w s) = u ≤ most
AtMost most (Holds open_depth w s) = Unit {0}

unfoldable pub Below : {S : Type 0} → ℕ → Played S → Type 0
Below most (Closes close gs fuel u w s) = u < most
Below most (Holds open_depth w s) = Unit {0}

-- one that is held wants more
unfoldable pub HeldWants : {S : Type 0} → ℕ → Played S → Played S → Type 0
HeldWants more (Closes close gs fuel u w s) later = Unit {0}
HeldWants more (Holds open_depth w s) later = Below more later

at_most_more : {S : Type 0} (m n : ℕ) (p : Played S) → m ≤ n → AtMost m p → AtMost n p
unfolding AtMost
at_most_more m n (Closes close gs fuel u w s) le h = le_trans h le
at_most_more m n (Holds open_depth w s) le h = tt

below_of : {S : Type 0} (m n : ℕ) (p : Played S) → m < n → AtMost m p → Below n p
unfolding AtMost Below
below_of m n (Closes close gs fuel u w s) le h = omega (arith, h, le)
below_of m n (Holds open_depth w s) le h = tt

after_at_most : {S : Type 0} (item : ℕ) (a : Reached S) (gs : List (S → S)) (fuel u : ℕ) (go : ℕ → ℕ → World → S → Played S)
    → LeavesAtMost (min u fuel) a → ((e v : ℕ) (x : World) (r : S) → AtMost v (go e v x r)) → AtMost u (after_run item a gs fuel u go)
unfolding AtMost
after_at_most item (Passes v w s) gs fuel u go h g =
    at_most_more (u - min u fuel + v) u (go (fuel - min u fuel + v) (u - min u fuel + v) w s) (omega (arith, h)) (g (fuel - min u fuel + v) (u - min u fuel + v) w s)
after_at_most item (Breaks stop v w s) gs fuel u go h g = omega (arith, h)
after_at_most item (Pauses d w s) gs fuel u go h g = tt

pub play_at_most : {S : Type 0} (run : Started → World → S → ℕ → ℕ → Reached S) (full : ℕ) → CountsUnits run
    → (plan : Plan S) (gs : List (S → S)) (fuel u : ℕ) → AtMost u (play run full plan gs fuel u)
unfolding AtMost
play_at_most run full counts (Over close w s) gs fuel u = omega arith
play_at_most run full counts (Takes w s plan) gs fuel zero = tt
play_at_most run full counts (Takes w s plan) gs fuel (suc u) = at_most_more u (suc u) (play run full plan gs full u) (omega arith) (play_at_most run full counts plan gs full u)
play_at_most run full counts (Awaits w s go) [] fuel u = tt
play_at_most run full counts (Awaits w s go) (g ∷ gs) fuel u = play_at_most run full counts (go (g s)) gs fuel u
play_at_most run full counts (Runs item start w s go) gs fuel u =
    after_at_most item (run start w s fuel u) gs fuel u _ (counts.lent start w s fuel u) (λ e v x r. play_at_most run full counts (go x r) gs e v)

-- after a run that is cut: with more units it comes to its end, and leaves fewer than there are more
cut_below : {S : Type 0} (item : ℕ) (b : Reached S) (gs : List (S → S)) (fuel u k : ℕ) (go : ℕ → ℕ → World → S → Played S)
    → LeavesLess (min (u + k) fuel - min u fuel) b → ((e v : ℕ) (x : World) (r : S) → AtMost v (go e v x r)) → Below k (after_run item b gs fuel (u + k) go)
unfolding AtMost Below
cut_below item (Passes v w s) gs fuel u k go h g =
    below_of (u + k - min (u + k) fuel + v) k (go (fuel - min (u + k) fuel + v) (u + k - min (u + k) fuel + v) w s) (omega (arith, h)) (g (fuel - min (u + k) fuel + v) (u + k - min (u + k) fuel + v) w s)
cut_below item (Breaks stop v w s) gs fuel u k go h g = omega (arith, h)
cut_below item (Pauses d w s) gs fuel u k go h g = tt

after_cut : {S : Type 0} (item : ℕ) (a b : Reached S) (gs : List (S → S)) (fuel u k : ℕ) (go : ℕ → ℕ → World → S → Played S)
    → IsLater (min (u + k) fuel - min u fuel) a b → WantsMore (min (u + k) fuel - min u fuel) a b
    → ((e v : ℕ) (x : World) (r : S) → AtMost v (go e v x r)) → ((e v : ℕ) (x : World) (r : S) → HeldWants k (go e v x r) (go e (v + k) x r))
    → HeldWants k (after_run item a gs fuel u go) (after_run item b gs fuel (u + k) go)
unfolding HeldWants
after_cut item (Passes v w s) b gs fuel u k go later wants most g =
    let f : fuel - min u fuel + v ≡ fuel - min (u + k) fuel + (v + (min (u + k) fuel - min u fuel)) = omega arith in
    let n : u - min u fuel + v + k ≡ u + k - min (u + k) fuel + (v + (min (u + k) fuel - min u fuel)) = omega arith in
    let B : Reached _ → Type 0 = λ b. HeldWants k (go (fuel - min u fuel + v) (u - min u fuel + v) w s) (after_run item b gs fuel (u + k) go) in
    let F : ℕ → Type 0 = λ f. HeldWants k (go (fuel - min u fuel + v) (u - min u fuel + v) w s) (go f (u + k - min (u + k) fuel + (v + (min (u + k) fuel - min u fuel))) w s) in
    let N : ℕ → Type 0 = λ n. HeldWants k (go (fuel - min u fuel + v) (u - min u fuel + v) w s) (go (fuel - min u fuel + v) n w s) in
    subst B (sym later) (subst F f (subst N n (g (fuel - min u fuel + v) (u - min u fuel + v) w s)))
after_cut item (Breaks stop v w s) b gs fuel u k go later wants most g = tt
after_cut item (Pauses d w s) b gs fuel u k go later wants most g = cut_below item b gs fuel u k go wants most

pub play_cut : {S : Type 0} (run : Started → World → S → ℕ → ℕ → Reached S) (full : ℕ) → CountsUnits run
    → (plan : Plan S) (gs : List (S → S)) (fuel u k : ℕ) → HeldWants k (play run full plan gs fuel u) (play run full plan gs fuel (u + k))
unfolding HeldWants Below AtMost
play_cut run full counts (Over close w s) gs fuel u k = tt
play_cut run full counts (Takes w s plan) gs fuel zero zero = tt
play_cut run full counts (Takes w s plan) gs fuel zero (suc k) =
    let e : zero + suc k ≡ suc k = omega arith in
    let N : ℕ → Type 0 = λ n. Below (suc k) (play run full (Takes w s plan) gs fuel n) in
    subst N (sym e) (below_of k (suc k) (play run full plan gs full k) (omega arith) (play_at_most run full counts plan gs full k))
play_cut run full counts (Takes w s plan) gs fuel (suc u) k =
    let e : suc (u + k) ≡ suc u + k = omega arith in
    let N : ℕ → Type 0 = λ n. HeldWants k (play run full plan gs full u) (play run full (Takes w s plan) gs fuel n) in
    subst N e (play_cut run full counts plan gs full u k)
play_cut run full counts (Awaits w s go) [] fuel u k = tt
play_cut run full counts (Awaits w s go) (g ∷ gs) fuel u k = play_cut run full counts (go (g s)) gs fuel u k
play_cut run full counts (Runs item start w s go) gs fuel u k =
    after_cut item (run start w s fuel u) (run start w s fuel (u + k)) gs fuel u k _ (counts.once start w s fuel u k) (counts.cut start w s fuel u k)
    (λ e v x r. play_at_most run full counts (go x r) gs e v) (λ e v x r. play_cut run full counts (go x r) gs e v k)

pub closes_later : {S : Type 0} (run : Started → World → S → ℕ → ℕ → Reached S) (full : ℕ) → CountsUnits run
    → (plan : Plan S) (gs : List (S → S)) (fuel u k : ℕ) → IsPlayedLater k (play run full plan gs fuel u) (play run full plan gs fuel (u + k))
closes_later run full counts plan gs fuel u k = play_later run full counts.once plan gs fuel u k

pub closes : {S : Type 0} (run : Started → World → S → ℕ → ℕ → Reached S) (full : ℕ) → CountsUnits run
    → (plan : Plan S) (gs : List (S → S)) (fuel u : ℕ) → IsPlain plan → fuel ≤ u → IsClosed (play run full plan gs fuel u)
closes run full counts plan gs fuel u plain le = plain_closes run full counts.ends plan gs fuel u plain le

-- a plan of an item that reports no call ends with no mismatch
abbrev pub EndsWell : {S : Type 0} → Played S → Type 0
EndsWell (Closes close gs fuel u w s) = IsNoMismatch close
EndsWell (Holds open_depth w s) = Unit {0}

after_ends_well : {S : Type 0} (item : ℕ) (a : Reached S) (gs : List (S → S)) (fuel u : ℕ) (go : ℕ → ℕ → World → S → Played S)
    → ((e v : ℕ) (x : World) (r : S) → EndsWell (go e v x r)) → EndsWell (after_run item a gs fuel u go)
after_ends_well item (Passes v w s) gs fuel u go h = h (fuel - min u fuel + v) (u - min u fuel + v) w s
after_ends_well item (Breaks stop v w s) gs fuel u go h = tt
after_ends_well item (Pauses d w s) gs fuel u go h = tt

pub plain_ends_well : {S : Type 0} (run : Started → World → S → ℕ → ℕ → Reached S) (full : ℕ) (plan : Plan S) (gs : List (S → S)) (fuel u : ℕ)
    → IsPlain plan → EndsWell (play run full plan gs fuel u)
plain_ends_well run full (Over close w s) gs fuel u h = h
plain_ends_well run full (Takes w s plan) gs fuel u h = absurd h
plain_ends_well run full (Awaits w s go) gs fuel u h = absurd h
plain_ends_well run full (Runs item start w s go) gs fuel u h =
    after_ends_well item (run start w s fuel u) gs fuel u _ (λ e v x r. plain_ends_well run full (go x r) gs e v (h x r))

pub well_no_mismatch : (close : Close) → IsNoMismatch close → IsMismatch close → ⊥
well_no_mismatch Fine well mismatch = mismatch
well_no_mismatch (Refused item kind) well mismatch = mismatch
well_no_mismatch (Mismatch item) well mismatch = well
well_no_mismatch (Stopped item stop) well mismatch = mismatch
