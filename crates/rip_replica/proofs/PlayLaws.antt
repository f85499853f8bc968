-- Plans, by induction on what they do.
use Rattle.std.proofs.Common.{◌≡◌, ℕ, zero, suc, ◌+◌, ◌-◌, ◌≤◌, min, List, [], ◌∷◌, refl, ap, sym, subst, ◌∙◌, arith}
use Rattle.rip_heap.specs.World.{World}
use Rattle.rip_eval_rows.specs.declared.close.Close.TheVariants.{Fine, Refused, Mismatch, Stopped}
use Rattle.rip_eval_rows.specs.Evaluation.{IsEnded, IsLater, Reached, Passes, Breaks, Pauses}
use Rattle.rip_eval_rows.specs.Plan.{IsPlain, Plan, Over, Takes, Awaits, Runs, and_then}
use Rattle.rip_eval_rows.specs.Started.{Started}
use Rattle.rip_replica.specs.Laws.{IsClosed, IsPlayedLater}
use Rattle.rip_replica.specs.Play.{Played, Closes, after_run, followed, play}

-- what follows a run, with more units
after_later : {S : Type 0} (item : ℕ) (a b : Reached S) (gs : List (S → S)) (fuel u k : ℕ) (go : ℕ → ℕ → World → S → Played S)
    → IsLater (min (u + k) fuel - min u fuel) a b
    → ((e v : ℕ) (x : World) (r : S) → IsPlayedLater k (go e v x r) (go e (v + k) x r))
    → IsPlayedLater k (after_run item a gs fuel u go) (after_run item b gs fuel (u + k) go)
after_later item (Passes v w s) b gs fuel u k go h g =
    let f : fuel - min u fuel + v ≡ fuel - min (u + k) fuel + (v + (min (u + k) fuel - min u fuel)) = omega arith in
    let n : u - min u fuel + v + k ≡ u + k - min (u + k) fuel + (v + (min (u + k) fuel - min u fuel)) = omega arith in
    let B : Reached _ → Type 0 = λ b. IsPlayedLater k (go (fuel - min u fuel + v) (u - min u fuel + v) w s) (after_run item b gs fuel (u + k) go) in
    let F : ℕ → Type 0 = λ f. IsPlayedLater k (go (fuel - min u fuel + v) (u - min u fuel + v) w s) (go f (u + k - min (u + k) fuel + (v + (min (u + k) fuel - min u fuel))) w s) in
    let N : ℕ → Type 0 = λ n. IsPlayedLater k (go (fuel - min u fuel + v) (u - min u fuel + v) w s) (go (fuel - min u fuel + v) n w s) in
    subst B (sym h) (subst F f (subst N n (g (fuel - min u fuel + v) (u - min u fuel + v) w s)))
after_later item (Breaks stop v w s) b gs fuel u k go h g =
    let f : fuel - min (u + k) fuel + (v + (min (u + k) fuel - min u fuel)) ≡ fuel - min u fuel + v = omega arith in
    let n : u + k - min (u + k) fuel + (v + (min (u + k) fuel - min u fuel)) ≡ u - min u fuel + v + k = omega arith in
    ap (λ b. after_run item b gs fuel (u + k) go) h
    ∙ ap (λ f. Closes (Stopped item stop) gs f (u + k - min (u + k) fuel + (v + (min (u + k) fuel - min u fuel))) w s) f
    ∙ ap (λ n. Closes (Stopped item stop) gs (fuel - min u fuel + v) n w s) n
after_later item (Pauses d w s) b gs fuel u k go h g = tt

pub play_later : {S : Type 0} (run : Started → World → S → ℕ → ℕ → Reached S) (full : ℕ)
    → ((start : Started) (w : World) (s : S) (fuel u k : ℕ) → IsLater (min (u + k) fuel - min u fuel) (run start w s fuel u) (run start w s fuel (u + k)))
    → (plan : Plan S) (gs : List (S → S)) (fuel u k : ℕ) → IsPlayedLater k (play run full plan gs fuel u) (play run full plan gs fuel (u + k))
play_later run full once (Over close w s) gs fuel u k = refl
play_later run full once (Takes w s plan) gs fuel zero k = tt
play_later run full once (Takes w s plan) gs fuel (suc u) k =
    let e : suc (u + k) ≡ suc u + k = omega arith in
    let N : ℕ → Type 0 = λ n. IsPlayedLater k (play run full plan gs full u) (play run full (Takes w s plan) gs fuel n) in
    subst N e (play_later run full once plan gs full u k)
play_later run full once (Awaits w s go) [] fuel u k = tt
play_later run full once (Awaits w s go) (g ∷ gs) fuel u k = play_later run full once (go (g s)) gs fuel u k
play_later run full once (Runs item start w s go) gs fuel u k =
    after_later item (run start w s fuel u) (run start w s fuel (u + k)) gs fuel u k _ (once start w s fuel u k) (λ e v x r. play_later run full once (go x r) gs e v k)

after_closes : {S : Type 0} (item : ℕ) (a : Reached S) (gs : List (S → S)) (fuel u : ℕ) (go : ℕ → ℕ → World → S → Played S)
    → fuel ≤ u → IsEnded a → ((e v : ℕ) (x : World) (r : S) → e ≤ v → IsClosed (go e v x r)) → IsClosed (after_run item a gs fuel u go)
after_closes item (Passes v w s) gs fuel u go le h g = g (fuel - min u fuel + v) (u - min u fuel + v) w s (omega arith)
after_closes item (Breaks stop v w s) gs fuel u go le h g = tt
after_closes item (Pauses d w s) gs fuel u go le h g = h

pub plain_closes : {S : Type 0} (run : Started → World → S → ℕ → ℕ → Reached S) (full : ℕ)
    → ((start : Started) (w : World) (s : S) (fuel u : ℕ) → fuel ≤ u → IsEnded (run start w s fuel u))
    → (plan : Plan S) (gs : List (S → S)) (fuel u : ℕ) → IsPlain plan → fuel ≤ u → IsClosed (play run full plan gs fuel u)
plain_closes run full ends (Over close w s) gs fuel u plain le = tt
plain_closes run full ends (Takes w s plan) gs fuel u plain le = absurd plain
plain_closes run full ends (Awaits w s go) gs fuel u plain le = absurd plain
plain_closes run full ends (Runs item start w s go) gs fuel u plain le =
    after_closes item (run start w s fuel u) gs fuel u _ le (ends start w s fuel u le) (λ e v x r within. plain_closes run full ends (go x r) gs e v (plain x r) within)

after_folds : {S : Type 0} (item : ℕ) (a : Reached S) (gs : List (S → S)) (fuel u : ℕ) (go og : ℕ → ℕ → World → S → Played S)
    (next : List (S → S) → ℕ → ℕ → World → S → Played S) → ((e v : ℕ) (x : World) (r : S) → og e v x r ≡ followed (go e v x r) next)
    → after_run item a gs fuel u og ≡ followed (after_run item a gs fuel u go) next
after_folds item (Passes v w s) gs fuel u go og next h = h (fuel - min u fuel + v) (u - min u fuel + v) w s
after_folds item (Breaks stop v w s) gs fuel u go og next h = refl
after_folds item (Pauses d w s) gs fuel u go og next h = refl

pub plans_fold : {S : Type 0} (run : Started → World → S → ℕ → ℕ → Reached S) (full : ℕ) (plan : Plan S) (next : World → S → Plan S) (gs : List (S → S)) (fuel u : ℕ)
    → play run full (and_then plan next) gs fuel u ≡ followed (play run full plan gs fuel u) (λ hs f v x r. play run full (next x r) hs f v)
plans_fold run full (Over Fine w s) next gs fuel u = refl
plans_fold run full (Over (Refused item kind) w s) next gs fuel u = refl
plans_fold run full (Over (Mismatch item) w s) next gs fuel u = refl
plans_fold run full (Over (Stopped item stop) w s) next gs fuel u = refl
plans_fold run full (Takes w s plan) next gs fuel zero = refl
plans_fold run full (Takes w s plan) next gs fuel (suc u) = plans_fold run full plan next gs full u
plans_fold run full (Awaits w s go) next [] fuel u = refl
plans_fold run full (Awaits w s go) next (g ∷ gs) fuel u = plans_fold run full (go (g s)) next gs fuel u
plans_fold run full (Runs item start w s go) next gs fuel u =
    after_folds item (run start w s fuel u) gs fuel u _ _ _ (λ e v x r. plans_fold run full (go x r) next gs e v)
