-- Work whose sessions do as others: what comes of a plan in the one comes of it in the other.
use Rattle.std.proofs.Common.{◌≡◌, ◌≢◌, ◌∙◌, ℕ, ◌+◌, Bool, true, false, List, [], ◌∷◌, ◌++◌, length, map, set, refl, sym, ap, subst}
use Rattle.std.proofs.lemmas.List.{length-append, map-set}
use Rattle.std.specs.Prelude.{Option, Some, None, option_map, slice_get, if◌then◌else◌}
use Rattle.rip_eval_rows.specs.declared.close.Close.{Close}
use Rattle.rip_wire.specs.declared.gesture.Gesture.{Gesture}
use Rattle.rip_client.specs.Bytes.{batches_of}
use Rattle.rip_gen.specs.Plans.{Plan}
use Rattle.rip_drive.proofs.Simulation.{Follows, gesture_carried}
use Rattle.rip_gen.specs.Lies.{lies_in}
use Rattle.rip_gen.specs.Work.{AreLinesOf, Opened, Played, Plays, Sessions, Stage, Stand, first_stand, goes_on, is_fine, may_lie, open_lines, told_lines, with_lie, with_stand, with_told}
use Rattle.rip_gen.specs.Work as work
use Rattle.rip_gen.proofs.Places.{get_map, map_if, map_push, push_each, set_each}

-- sessions x, seen as those of y by `seen`, do as those do, where P says which session is of a place, and Q which givers go
-- together
pub record FollowEach {A G B K : Type 0} (x : Sessions A G) (y : Sessions B K) (seen : A → B) (P : ℕ → A → Type 0) (Q : G → K → Type 0) : Type 0 where
  pub goes : (place : ℕ) → Follows (x.goes place) (y.goes place) seen (λ (a : A) (g : G) (k : K). P place a × Q g k)
  pub opens : (place : ℕ) (g : G) (close : Close) (a : A) (h : G) (k : K) → x.opens place g close a h → Q g k → y.gives k → y.opens place k close (seen a) k × P place a × Q h k
  pub gives : (g : G) → x.gives g → (k : K) × y.gives k × Q g k

-- ---- stages

abbrev pub stand_seen : {A B : Type 0} → (A → B) → Stand A → Stand B
stand_seen seen a = record { session = seen a.session; number = a.number; waiting = a.waiting }

abbrev pub stage_seen : {A G B K : Type 0} → (A → B) → Stage A G → K → Stage B K
stage_seen seen s k = record { stands = map (option_map (stand_seen seen)) s.stands; giver = k; lied = s.lied }

-- each session is of its place
abbrev pub Sit : {A : Type 0} → (ℕ → A → Type 0) → List (Option (Stand A)) → Type 0
Sit P stands = (place : ℕ) (a : Stand _) → slice_get stands place ≡ Some (Some a) → P place a.session

if_some : {A : Type 0} (P : A → Type 0) (b : Bool) (a : A) → P a → (c : A) → (if b then Some a else None) ≡ Some c → P c
if_some P true a p c e = let h : a ≡ c = cc in subst P h p
if_some P false a p c e = cc

if_none : {A : Type 0} (P : A → Type 0) (b : Bool) (o : Option A) → ((c : A) → o ≡ Some c → P c) → (c : A) → (if b then None else o) ≡ Some c → P c
if_none P true o p c e = cc
if_none P false o p c e = p c e

none_there : {A B : Type 0} (f : A → B) (o : Option (Option A)) → ((a : A) → o ≢ Some (Some a)) → (b : B) → option_map (option_map f) o ≢ Some (Some b)
none_there f None none b e = cc
none_there f (Some None) none b e = cc
none_there f (Some (Some a)) none b e = none a refl

none_seen : {A B : Type 0} (f : A → B) (xs : List (Option A)) (place : ℕ) → ((a : A) → slice_get xs place ≢ Some (Some a)) → (b : B) → slice_get (map (option_map f) xs) place ≢ Some (Some b)
none_seen f xs place none b e = none_there f (slice_get xs place) none b (sym (get_map (option_map f) xs place) ∙ e)

some_seen : {A B : Type 0} (f : A → B) (xs : List (Option A)) (place : ℕ) (a : A) → slice_get xs place ≡ Some (Some a) → slice_get (map (option_map f) xs) place ≡ Some (Some (f a))
some_seen f xs place a get = get_map (option_map f) xs place ∙ ap (option_map (option_map f)) get

none_or : {A B : Type 0} (f : A → B) (b : Bool) (o : Option A) → option_map f (if b then None else o) ≡ (if b then None else option_map f o)
none_or f true o = refl
none_or f false o = refl

-- ---- openings

-- so many sessions opened, and each is of its place; no giver was called
abbrev pub OpenedBoth : {A G B K : Type 0} → (Sessions B K) → (A → B) → (ℕ → A → Type 0) → (G → K → Type 0) → ℕ → Stage A G → List ℕ → Type 0
OpenedBoth y seen P Q place s lines = (k : _) × Opened y place (stage_seen seen s k) lines × Sit P s.stands × Q s.giver k × y.gives k

pub opened_carried : {A G B K : Type 0} (x : Sessions A G) (y : Sessions B K) (seen : A → B) (P : ℕ → A → Type 0) (Q : G → K → Type 0) → FollowEach x y seen P Q
    → (place : ℕ) (s : Stage A G) (lines : List ℕ) → Opened x place s lines → (length s.stands ≡ place) × OpenedBoth y seen P Q place s lines
opened_carried x y seen P Q follow place s lines (work.none g gives) =
    let there = follow.gives g gives in
    (refl, (there.0, work.none there.0 there.1, λ j a get. cc, there.2, there.1))
opened_carried x y seen P Q follow place s lines (work.more before t ls close a h quiet opened opens) =
    let up = opened_carried x y seen P Q follow before t ls opened in
    let k = up.1.0 in
    let there = follow.opens before t.giver close a h k opens up.1.3 up.1.4 in
    let f = stand_seen seen in
    let stands : map (option_map f) (t.stands ++ goes_on close (first_stand a) ∷ []) ≡ map (option_map f) t.stands ++ goes_on close (first_stand (seen a)) ∷ [] =
    map_push (option_map f) t.stands (goes_on close (first_stand a)) ∙ ap (λ o. map (option_map f) t.stands ++ o ∷ []) (map_if f (is_fine close) (first_stand a)) in
    let stage : with_stand (goes_on close (first_stand (seen a))) k (stage_seen seen t k) ≡ stage_seen seen (with_stand (goes_on close (first_stand a)) h t) k =
    λ i. record { stands = sym stands i; giver = k; lied = t.lied } in (
      length-append t.stands (goes_on close (first_stand a) ∷ []) ∙ ap (λ n. n + 1) up.0,
      (
        k,
        subst (λ (u : Stage _ _). Opened y (before + 1) u (ls ++ open_lines before quiet)) stage (work.more before (stage_seen seen t k) ls close (seen a) k quiet up.1.1 there.0),
        push_each (λ n (b : Stand _). P n b.session) t.stands (goes_on close (first_stand a)) up.1.2
            (if_some (λ (b : Stand _). P (length t.stands) b.session) (is_fine close) (first_stand a) (subst (λ n. P n a) (sym up.0) there.1)),
        there.2,
        up.1.4,
      ),
    )

-- ---- gestures

-- the session at a place told a gesture in both
abbrev pub PlayedBoth : {A G B K : Type 0} → (Stage B K → Type 0) → (A → B) → (ℕ → A → Type 0) → (G → K → Type 0) → Stage A G → Type 0
PlayedBoth Is seen P Q s = (k : _) × Is (stage_seen seen s k) × Sit P s.stands × Q s.giver k

pub plays_carried : {A G B K : Type 0} (x : Sessions A G) (y : Sessions B K) (seen : A → B) (P : ℕ → A → Type 0) (Q : G → K → Type 0) → FollowEach x y seen P Q
    → (place : ℕ) (gesture : Gesture) (s n : Stage A G) (lies : Bool) (lines : List ℕ) (k : K) → Plays x place gesture s lies n lines → Sit P s.stands → Q s.giver k
    → PlayedBoth (λ t. Plays y place gesture (stage_seen seen s k) lies t lines) seen P Q n
plays_carried x y seen P Q follow place gesture s n lies lines k (work.skips _ none) sit q =
    (k, work.skips lies (none_seen (stand_seen seen) s.stands place none), sit, q)
plays_carried x y seen P Q follow place gesture s n lies lines k (work.tells a b close h told get tells) sit q =
    let there = gesture_carried (x.goes place) (y.goes place) seen (λ c (g : _) (l : _). P place c × Q g l) (follow.goes place) gesture a.session b.session s.giver h k a.number b.number
    a.waiting b.waiting close (batches_of told) tells (sit place a get, q) in
    let f = stand_seen seen in
    let stands = map-set (option_map f) s.stands place (goes_on close b) ∙ ap (λ v. set (map (option_map f) s.stands) place v) (map_if f (is_fine close) b) in
    let stage : with_told place (goes_on close (f b)) there.0 (stage_seen seen s k) ≡ stage_seen seen (with_told place (goes_on close b) h s) there.0 =
    λ i. record { stands = sym stands i; giver = there.0; lied = s.lied } in (
      there.0,
      subst (λ (u : Stage _ _). Plays y place gesture (stage_seen seen s k) false u (told_lines place told)) stage
          (work.tells (f a) (f b) close there.0 told (some_seen f s.stands place a get) there.1),
      set_each (λ m (c : Stand _). P m c.session) s.stands place (goes_on close b) sit (if_some (λ (c : Stand _). P place c.session) (is_fine close) b there.2.0),
      there.2.1,
    )
plays_carried x y seen P Q follow place gesture s n lies lines k (work.lies a b close g h batches told get gives tells are) sit q =
    let fresh = follow.gives g gives in
    let there = gesture_carried (x.goes place) (y.goes place) seen (λ c (g : _) (l : _). P place c × Q g l) (follow.goes place) gesture a.session b.session g h fresh.0 a.number b.number
    a.waiting b.waiting close batches tells (sit place a get, fresh.2) in
    let f = stand_seen seen in
    let lie = lies_in batches in
    let stands = map-set (option_map f) s.stands place (if lie then None else goes_on close b)
    ∙ ap (λ v. set (map (option_map f) s.stands) place v) (none_or f lie (goes_on close b) ∙ ap (λ o. if lie then None else o) (map_if f (is_fine close) b)) in
    let stage : with_lie place (goes_on close (f b)) lie (stage_seen seen s k) ≡ stage_seen seen (with_lie place (goes_on close b) lie s) k =
    λ i. record { stands = sym stands i; giver = k; lied = lie } in (
      k,
      subst (λ (u : Stage _ _). Plays y place gesture (stage_seen seen s k) true u (told_lines place told)) stage
          (work.lies (f a) (f b) close fresh.0 there.0 batches told (some_seen f s.stands place a get) fresh.1 there.1 are),
      set_each (λ m (c : Stand _). P m c.session) s.stands place (if lie then None else goes_on close b) sit
          (if_none (λ (c : Stand _). P place c.session) lie (goes_on close b) (if_some (λ (c : Stand _). P place c.session) (is_fine close) b there.2.0)),
      q,
    )

-- ---- rounds

pub played_carried : {A G B K : Type 0} (x : Sessions A G) (y : Sessions B K) (seen : A → B) (P : ℕ → A → Type 0) (Q : G → K → Type 0) → FollowEach x y seen P Q
    → (plan : Plan) (round place : ℕ) (s : Stage A G) (lines : List ℕ) → Played x plan round place s lines → PlayedBoth (λ t. Played y plan round place t lines) seen P Q s
played_carried x y seen P Q follow plan round place s lines (work.opened _ _ opened) =
    let there = (opened_carried x y seen P Q follow plan.sessions s lines opened).1 in
    (there.0, work.opened (stage_seen seen s there.0) lines there.1, there.2, there.3)
played_carried x y seen P Q follow plan round place s lines (work.told _ before t ls gesture _ behind played get plays) =
    let up = played_carried x y seen P Q follow plan round before t ls played in
    let there = plays_carried x y seen P Q follow before gesture t s (may_lie plan round before t.lied) behind up.0 plays up.2 up.3 in
    (there.0, work.told round before (stage_seen seen t up.0) ls gesture (stage_seen seen s there.0) behind up.1 get there.1, there.2, there.3)
played_carried x y seen P Q follow plan round place s lines (work.over before _ _ played) =
    let up = played_carried x y seen P Q follow plan before plan.sessions s lines played in
    (up.0, work.over before (stage_seen seen s up.0) lines up.1, up.2, up.3)

-- the lines of a plan in the one are its lines in the other
pub lines_carried : {A G B K : Type 0} (x : Sessions A G) (y : Sessions B K) (seen : A → B) (P : ℕ → A → Type 0) (Q : G → K → Type 0) → FollowEach x y seen P Q
    → (plan : Plan) (lines : List ℕ) → AreLinesOf x plan lines → AreLinesOf y plan lines
lines_carried x y seen P Q follow plan lines are =
    let there = played_carried x y seen P Q follow plan 40 0 are.0 lines are.1 in
    (stage_seen seen are.0 there.0, there.1)
