-- An item that was played for some units is the item that is played whole.
use Rattle.std.proofs.Common.{◌≡◌, ℕ, ◌+◌, ◌-◌, ◌<◌, ◌≤◌, Bool, true, false, nat_le, List, [], ◌∷◌, refl, ap, sym, subst, ◌∙◌, arith}
use Rattle.std.proofs.lemmas.Bool.{leb-true, leb-false, true≢false}
use Rattle.rip_heap.specs.World.{World}
use Rattle.rip_eval_rows.specs.declared.close.Close.{Close}
use Rattle.rip_eval_rows.specs.declared.close.Close.TheVariants.{Fine}
use Rattle.rip_eval_rows.specs.Evaluation.{Reached}
use Rattle.rip_eval_rows.specs.Plan.{Plan, Over, Takes, Awaits, Runs}
use Rattle.rip_eval_rows.specs.Started.{Started}
use Rattle.rip_replica.specs.Laws.{IsClosed, IsPlayedLater}
use Rattle.rip_replica.specs.Play.{Played, Closes, Holds, play}
use Rattle.rip_history.specs.Parts.{Fact, passes, serves, finishes, serves_call}
use Rattle.rip_replica.specs.Plays.{CountsUnits, IsCallPlan, IsItemPlan, IsStill, StandsStill}
use Rattle.rip_replica.specs.Rooms.{IsMismatch}
use Rattle.rip_replica.proofs.PlayLemmas.{AtMost, Below, EndsWell, HeldWants, closes, closes_later, plain_ends_well, play_at_most, play_cut, well_no_mismatch}

-- what a played plan has, where it closes
close_of : {S : Type 0} → Played S → Close
close_of (Closes close gs fuel u w s) = close
close_of (Holds open_depth w s) = Fine

world_of : {S : Type 0} → Played S → World
world_of (Closes close gs fuel u w s) = w
world_of (Holds open_depth w s) = w

page_of : {S : Type 0} → Played S → S
page_of (Closes close gs fuel u w s) = s
page_of (Holds open_depth w s) = s

units_of : {S : Type 0} → Played S → ℕ
units_of (Closes close gs fuel u w s) = u
units_of (Holds open_depth w s) = 0

fuel_of : {S : Type 0} → Played S → ℕ
fuel_of (Closes close gs fuel u w s) = fuel
fuel_of (Holds open_depth w s) = 0

changes_of : {S : Type 0} → Played S → List (S → S)
changes_of (Closes close gs fuel u w s) = gs
changes_of (Holds open_depth w s) = []

closed_is : {S : Type 0} → Played S → Bool
closed_is (Closes close gs fuel u w s) = true
closed_is (Holds open_depth w s) = false

pub never_both : {S : Type 0} (close : Close) (gs : List (S → S)) (fuel u depth : ℕ) (w x : World) (s r : S) → Closes close gs fuel u w s ≡ Holds depth x r → ⊥
unfolding closed_is
never_both close gs fuel u depth w x s r h = (let e : true ≡ false = ap closed_is h in cc)

-- what was played whole is what was played with more units, but for those
unfoldable pub WholeIs : {S : Type 0} → Played S → Close → List (S → S) → ℕ → World → S → ℕ → ℕ → ℕ → Type 0
WholeIs whole close gs fuel w s full more v = (u : ℕ) × (whole ≡ Closes close gs fuel u w s) × (u + more ≡ v) × (u ≤ full)

same_closes : {S : Type 0} (c d : Close) (gs hs : List (S → S)) (f e u v : ℕ) (w x : World) (s r : S) (k : ℕ) → Closes c gs f (u + k) w s ≡ Closes d hs e v x r
    → (Closes c gs f u w s ≡ Closes d hs e u x r) × (u + k ≡ v)
unfolding close_of world_of page_of units_of fuel_of changes_of
same_closes c d gs hs f e u v w x s r k h =
    let one : c ≡ d = ap close_of h in
    let two : gs ≡ hs = ap changes_of h in
    let three : f ≡ e = ap fuel_of h in
    let four : w ≡ x = ap world_of h in
    let five : s ≡ r = ap page_of h in
    let six : u + k ≡ v = ap units_of h in
    (rw (one, two, three, four, five) refl, six)

whole_by : {S : Type 0} (whole later : Played S) (close : Close) (gs : List (S → S)) (fuel full more v : ℕ) (w : World) (s : S)
    → IsClosed whole → IsPlayedLater more whole later → AtMost full whole → later ≡ Closes close gs fuel v w s → WholeIs whole close gs fuel w s full more v
unfolding WholeIs AtMost
whole_by (Closes c hs f u x r) later close gs fuel full more v w s closed h most is =
    let same : _ × _ = same_closes c close hs gs f fuel u v x w r s more (sym h ∙ is) in
    (u, same.0, same.1, most)
whole_by (Holds d x r) later close gs fuel full more v w s closed h most is = absurd closed

-- where a plan closes with some units, it closes alike with all its fuel
pub whole_of : {S : Type 0} (run : Started → World → S → ℕ → ℕ → Reached S) (full : ℕ) → CountsUnits run → (plan : Plan S) (gs hs : List (S → S)) (close : Close) (fuel more v : ℕ) (w : World) (s : S)
    → IsClosed (play run full plan gs full full) → play run full plan gs full (full + more) ≡ Closes close hs fuel v w s
    → WholeIs (play run full plan gs full full) close hs fuel w s full more v
whole_of run full counts plan gs hs close fuel more v w s closed is =
    whole_by (play run full plan gs full full) (play run full plan gs full (full + more)) close hs fuel full more v w s closed
    (closes_later run full counts plan gs full full more) (play_at_most run full counts plan gs full full) is

-- an item that is given something comes to its end with all its fuel
pub item_closes : {S : Type 0} (run : Started → World → S → ℕ → ℕ → Reached S) (full : ℕ) (may : S → Bool) → CountsUnits run → (fact : Fact) (plan : Plan S) (g : S → S)
    → IsItemPlan may fact plan → IsClosed (play run full plan (g ∷ []) full full)
item_closes run full may counts passes plan g h = closes run full counts plan (g ∷ []) full full h (omega arith)
item_closes run full may counts (serves number name args) (Over close w s) g h = tt
item_closes run full may counts (serves number name args) (Takes w s plan) g h = absurd h
item_closes run full may counts (serves number name args) (Awaits w s go) g h =
    let P : Plan _ → Type 0 = λ p. IsClosed (play run full p [] full full) in
    subst P (sym (h.1 (g s))) tt
item_closes run full may counts (serves number name args) (Runs item start w s go) g h = absurd h
item_closes run full may counts (finishes how) plan g h = absurd h

-- one that is over and fine with nothing given serves no call
pub fine_passes : {S : Type 0} (run : Started → World → S → ℕ → ℕ → Reached S) (full : ℕ) (may : S → Bool) (fact : Fact) (plan : Plan S) (fuel u v f : ℕ) (gs : List (S → S)) (w : World) (s : S)
    → IsItemPlan may fact plan → play run full plan [] fuel u ≡ Closes Fine gs f v w s → fact ≡ passes
unfolding close_of
fine_passes run full may passes plan fuel u v f gs w s h is = refl
fine_passes run full may (serves number name args) (Over close x r) fuel u v f gs w s h is = absurd (h (ap close_of is))
fine_passes run full may (serves number name args) (Takes x r plan) fuel u v f gs w s h is = absurd h
fine_passes run full may (serves number name args) (Awaits x r go) fuel u v f gs w s h is = absurd (never_both Fine gs f v 0 w x s r (sym is))
fine_passes run full may (serves number name args) (Runs item start x r go) fuel u v f gs w s h is = absurd h
fine_passes run full may (finishes how) plan fuel u v f gs w s h is = absurd h

-- one that closed with nothing given closes with all its fuel, whatever it is given
pub ended_closes : {S : Type 0} (run : Started → World → S → ℕ → ℕ → Reached S) (full : ℕ) (may : S → Bool) → CountsUnits run → (fact : Fact) (plan : Plan S) (gs hs : List (S → S)) (close : Close) (fuel u v : ℕ) (w : World) (s : S)
    → IsItemPlan may fact plan → play run full plan [] full u ≡ Closes close hs fuel v w s → IsClosed (play run full plan gs full full)
ended_closes run full may counts passes plan gs hs close fuel u v w s h is = closes run full counts plan gs full full h (omega arith)
ended_closes run full may counts (serves number name args) (Over other x r) gs hs close fuel u v w s h is = tt
ended_closes run full may counts (serves number name args) (Takes x r plan) gs hs close fuel u v w s h is = absurd h
ended_closes run full may counts (serves number name args) (Awaits x r go) gs hs close fuel u v w s h is = absurd (never_both close hs fuel v 0 w x s r (sym is))
ended_closes run full may counts (serves number name args) (Runs item start x r go) gs hs close fuel u v w s h is = absurd h
ended_closes run full may counts (finishes how) plan gs hs close fuel u v w s h is = absurd h

-- one that ends with a mismatch reports a call
pub mismatch_serves : {S : Type 0} (run : Started → World → S → ℕ → ℕ → Reached S) (full : ℕ) (may : S → Bool) (fact : Fact) (plan : Plan S) (gs hs : List (S → S)) (fuel f u v : ℕ) (w : World) (s : S) (close : Close)
    → IsItemPlan may fact plan → play run full plan gs fuel u ≡ Closes close hs f v w s → IsMismatch close → serves_call fact ≡ true
mismatch_serves run full may passes plan gs hs fuel f u v w s close shape is mismatch =
    let N : Played _ → Type 0 = λ p. EndsWell p in
    absurd (well_no_mismatch close (subst N is (plain_ends_well run full plan gs fuel u shape)) mismatch)
mismatch_serves run full may (serves number name args) plan gs hs fuel f u v w s close shape is mismatch = refl
mismatch_serves run full may (finishes how) plan gs hs fuel f u v w s close shape is mismatch = absurd shape

-- one that reports a call and ends stands where it began
pub over_still : {S : Type 0} (run : Started → World → S → ℕ → ℕ → Reached S) (full : ℕ) (may : S → Bool) (fact : Fact) (plan : Plan S) (hs : List (S → S)) (close : Close) (fuel f u v : ℕ) (y w : World) (t s : S)
    → serves_call fact ≡ true → IsItemPlan may fact plan → IsStill fact y t plan → play run full plan [] fuel u ≡ Closes close hs f v w s → (w ≡ y) × (s ≡ t)
unfolding world_of page_of
over_still run full may passes plan hs close fuel f u v y w t s call shape still is = absurd (true≢false (sym call))
over_still run full may (serves number name args) (Over other x r) hs close fuel f u v y w t s call shape still is =
    let world : x ≡ w = ap world_of is in
    let page : r ≡ s = ap page_of is in
    (sym world ∙ still.0, sym page ∙ still.1)
over_still run full may (serves number name args) (Takes x r plan) hs close fuel f u v y w t s call shape still is = absurd shape
over_still run full may (serves number name args) (Awaits x r go) hs close fuel f u v y w t s call shape still is = absurd (never_both close hs f v 0 w x s r (sym is))
over_still run full may (serves number name args) (Runs item start x r go) hs close fuel f u v y w t s call shape still is = absurd shape
over_still run full may (finishes how) plan hs close fuel f u v y w t s call shape still is = absurd shape

-- THE END OF AN ITEM, after so many units and some more, of which u are left

pub finished : {S : Type 0} (run : Started → World → S → ℕ → ℕ → Reached S) (full : ℕ) → CountsUnits run → (plan : Plan S) (gs hs : List (S → S)) (close : Close) (fuel q n u : ℕ) (w : World) (s : S)
    → IsClosed (play run full plan gs full full) → u ≤ n → play run full plan gs full (q + (n + full)) ≡ Closes close hs fuel (u + full) w s
    → (v : ℕ) × (play run full plan gs full full ≡ Closes close hs fuel v w s) × (full - v ≡ q + n - u)
unfolding WholeIs
finished run full counts plan gs hs close fuel q n u w s closed within is =
    let all : full + (q + n) ≡ q + (n + full) = omega arith in
    let whole : WholeIs _ _ _ _ _ _ _ _ _ = whole_of run full counts plan gs hs close fuel (q + n) (u + full) w s closed (ap (λ m. play run full plan gs full m) all ∙ is) in
    let sum : whole.0 + (q + n) ≡ u + full = whole.2 in
    let most : whole.0 ≤ full = whole.3 in
    (whole.0, whole.1, omega (arith, sum, most, within))

-- and so many units are left then
pub finished_whole : {S : Type 0} (run : Started → World → S → ℕ → ℕ → Reached S) (full : ℕ) → CountsUnits run → (plan : Plan S) (gs hs : List (S → S)) (close : Close) (fuel q n u : ℕ) (w : World) (s : S)
    → IsClosed (play run full plan gs full full) → u ≤ n → play run full plan gs full (q + (n + full)) ≡ Closes close hs fuel (u + full) w s
    → (play run full plan gs full full ≡ Closes close hs fuel (full - (q + n - u)) w s) × (q + n - u ≤ full)
unfolding WholeIs
finished_whole run full counts plan gs hs close fuel q n u w s closed within is =
    let all : full + (q + n) ≡ q + (n + full) = omega arith in
    let whole : WholeIs _ _ _ _ _ _ _ _ _ = whole_of run full counts plan gs hs close fuel (q + n) (u + full) w s closed (ap (λ m. play run full plan gs full m) all ∙ is) in
    let sum : whole.0 + (q + n) ≡ u + full = whole.2 in
    let most : whole.0 ≤ full = whole.3 in
    let left : whole.0 ≡ full - (q + n - u) = omega (arith, sum, most, within) in
    (whole.1 ∙ ap (λ v. Closes close hs fuel v w s) left, omega (arith, sum, most, within))

-- AN ITEM THAT IS CUT

closed_not_held : {S : Type 0} (k depth : ℕ) (a b : Played S) (w : World) (s : S) → IsClosed a → IsPlayedLater k a b → b ≡ Holds depth w s → ⊥
closed_not_held k depth (Closes close gs fuel u x r) b w s closed later is = never_both close gs fuel (u + k) depth x w r s (sym later ∙ is)
closed_not_held k depth (Holds d x r) b w s closed later is = closed

held_below : {S : Type 0} (k depth v fuel : ℕ) (close : Close) (gs : List (S → S)) (a b : Played S) (w x : World) (s r : S) → HeldWants k a b → a ≡ Holds depth w s → b ≡ Closes close gs fuel v x r → v < k
unfolding HeldWants Below
held_below k depth v fuel close gs a b w x s r h is ends =
    let A : Played _ → Type 0 = λ a. HeldWants k a b in
    let B : Played _ → Type 0 = λ b. Below k b in
    subst B ends (subst A is h)

cut_by : {S : Type 0} (run : Started → World → S → ℕ → ℕ → Reached S) (full : ℕ) → CountsUnits run → (plan : Plan S) (gs hs : List (S → S)) (close : Close) (fuel m v depth : ℕ) (w x : World) (s r : S) (past : Bool)
    → nat_le full m ≡ past → play run full plan gs full m ≡ Holds depth w s → play run full plan gs full full ≡ Closes close hs fuel v x r → m < full - v
cut_by run full counts plan gs hs close fuel m v depth w x s r true past held whole =
    let le : full ≤ m = leb-true full m past in
    let all : full + (m - full) ≡ m = omega (arith, le) in
    let C : Played _ → Type 0 = λ p. IsClosed p in
    absurd (closed_not_held (m - full) depth (play run full plan gs full full) (play run full plan gs full (full + (m - full))) w s (subst C (sym whole) tt)
    (closes_later run full counts plan gs full full (m - full)) (ap (λ n. play run full plan gs full n) all ∙ held))
cut_by run full counts plan gs hs close fuel m v depth w x s r false past held whole =
    let less : m < full = leb-false full m past in
    let all : m + (full - m) ≡ full = omega (arith, less) in
    let below : v < full - m = held_below (full - m) depth v fuel close hs (play run full plan gs full m) (play run full plan gs full (m + (full - m))) w x s r
    (play_cut run full counts plan gs full m (full - m)) held (ap (λ n. play run full plan gs full n) all ∙ whole) in
    omega (arith, below, less)

-- an item that is held after m units costs more
pub cut : {S : Type 0} (run : Started → World → S → ℕ → ℕ → Reached S) (full : ℕ) → CountsUnits run → (plan : Plan S) (gs hs : List (S → S)) (close : Close) (fuel m v depth : ℕ) (w x : World) (s r : S)
    → play run full plan gs full m ≡ Holds depth w s → play run full plan gs full full ≡ Closes close hs fuel v x r → m < full - v
cut run full counts plan gs hs close fuel m v depth w x s r held whole = cut_by run full counts plan gs hs close fuel m v depth w x s r (nat_le full m) refl held whole

-- A CALL THAT WAITS

-- what is known of a call that waits, after q units and then n of which u are left: no unit was spent for it, and it is over
-- and fine once it is given something
unfoldable pub IsWaiting : {S : Type 0} → (Started → World → S → ℕ → ℕ → Reached S) → ℕ → (S → Bool) → Fact → Plan S → ℕ → ℕ → ℕ → World → S → Type 0
IsWaiting run full may passes plan q n u w s = ⊥
IsWaiting run full may (serves number name args) plan q n u w s =
    (may s ≡ true) × (q ≡ 0) × (u ≡ n) × ((g : _) → play run full plan (g ∷ []) full full ≡ Closes Fine [] full full w (g s))
IsWaiting run full may (finishes how) plan q n u w s = ⊥

served_by : {S : Type 0} (run : Started → World → S → ℕ → ℕ → Reached S) (full : ℕ) (plan : Plan S) (most u : ℕ) (w : World) (s : S) → plan ≡ Over Fine w s → AtMost most (play run full plan [] full u) → u ≤ most
unfolding AtMost
served_by run full plan most u w s is h = (let P : Plan _ → Type 0 = λ p. AtMost most (play run full p [] full u) in subst P is h)

held_world : {S : Type 0} (w x : World) (s r : S) (a b : Played S) → a ≡ Holds 0 w s → b ≡ Holds 0 x r → a ≡ b → (w ≡ x) × (s ≡ r)
unfolding world_of page_of
held_world w x s r a b p q e =
    let h : Holds 0 w s ≡ Holds 0 x r = sym p ∙ e ∙ q in (ap world_of h, ap page_of h)

-- one that is held stands where it began
pub held_still : {S : Type 0} (run : Started → World → S → ℕ → ℕ → Reached S) (full : ℕ) (may : S → Bool) (plan : Plan S) (fuel u : ℕ) (y w : World) (t s : S)
    → IsCallPlan may plan → StandsStill y t plan → play run full plan [] fuel u ≡ Holds 0 w s → (w ≡ y) × (s ≡ t)
held_still run full may (Over close x r) fuel u y w t s shape still is = absurd (never_both close [] fuel u 0 x w r s is)
held_still run full may (Takes x r plan) fuel u y w t s shape still is = absurd shape
held_still run full may (Awaits x r go) fuel u y w t s shape still is =
    let same : _ × _ = held_world x w r s (Holds 0 x r) (Holds 0 w s) refl refl is in
    (sym same.0 ∙ still.0, sym same.1 ∙ still.1)
held_still run full may (Runs item start x r go) fuel u y w t s shape still is = absurd shape

pub waiting : {S : Type 0} (run : Started → World → S → ℕ → ℕ → Reached S) (full : ℕ) (may : S → Bool) → CountsUnits run → (fact : Fact) (plan : Plan S) (some : S → S) (q n u : ℕ) (w : World) (s : S)
    → IsItemPlan may fact plan → u ≤ n → ((k : ℕ) → play run full plan [] full (q + (n + k)) ≡ Holds 0 w s) → ((k : ℕ) → AtMost (u + k) (play run full plan (some ∷ []) full (q + (n + k))))
    → IsWaiting run full may fact plan q n u w s
unfolding IsWaiting
waiting run full may counts passes plan some q n u w s shape within held most =
    let all : full + (q + n) ≡ q + (n + full) = omega arith in
    closed_not_held (q + n) 0 (play run full plan [] full full) (play run full plan [] full (full + (q + n))) w s (closes run full counts plan [] full full shape (omega arith))
    (closes_later run full counts plan [] full full (q + n)) (ap (λ m. play run full plan [] full m) all ∙ held full)
waiting run full may counts (serves number name args) (Over close x r) some q n u w s shape within held most = absurd (never_both close [] full (q + (n + 0)) 0 x w r s (held 0))
waiting run full may counts (serves number name args) (Takes x r plan) some q n u w s shape within held most = absurd shape
waiting run full may counts (serves number name args) (Awaits x r go) some q n u w s shape within held most =
    let same : _ × _ = held_world x w r s (Holds 0 x r) (Holds 0 w s) refl refl (held 0) in
    let M : _ → Type 0 = λ t. may t ≡ true in
    let le : q + (n + 0) ≤ u + 0 = served_by run full (go (some r)) (u + 0) (q + (n + 0)) x (some r) (shape.1 (some r)) (most 0) in (
      subst M same.1 shape.0,
      omega (arith, le, within),
      omega (arith, le, within),
      λ g. ap (λ p. play run full p [] full full) (shape.1 (g r)) ∙ ap (λ y. Closes Fine [] full full y (g r)) same.0 ∙ ap (λ t. Closes Fine [] full full w (g t)) same.1,
    )
waiting run full may counts (serves number name args) (Runs item start x r go) some q n u w s shape within held most = absurd shape
waiting run full may counts (finishes how) plan some q n u w s shape within held most = absurd shape
