-- What the sessions do in a turn: with the moment of the turn, and by their ordinals.
use Rattle.std.proofs.Common.{◌≡◌, ℕ, zero, suc, ◌+◌, ◌≤◌, ◌<◌, Bool, true, false, cond, List, [], ◌∷◌, ◌++◌, length, map, refl, sym, subst, arith, append-nil}
use Rattle.std.specs.List.{AllByRecursion, zip}
use Rattle.rip_data.specs.Datum.{Tree}
use Rattle.rip_log.specs.Entries.{Recorded}
use Rattle.rip_history.specs.Course.{IsMadeIn, session_of, AreBySession, AreMade}
use Rattle.rip_history.specs.Parts.{Given}
use Rattle.rip_history.specs.Requests.{identifiers_in}
use Rattle.rip_history.specs.Run.{Site, State, called_so_far, is_busy_in, busy_up_to, busy_in, Advance, IsAdvance, done_entries, advance_entries, after_advance, AreAdvancedSo, Coming, handled_at, after_turn}
use Rattle.rip_history.specs.Runs.{AreTurns}
use Rattle.rip_history.specs.Services.{Serving, servings_in, replies_to, served_entry}
use Rattle.rip_history.specs.Standings.{standing_of}
use Rattle.rip_history.specs.declared.sessions.Progress.{Progress}
use Rattle.rip_history.specs.declared.sessions.Progress.TheVariants.{Busy, Finished}
use Rattle.rip_law_history.specs.Legal.{made_in, course_turns}

pub all-join : {A : Type 0} (P : A → Type 0) (xs ys : List A) → AllByRecursion P xs → AllByRecursion P ys → AllByRecursion P (xs ++ ys)
all-join P [] ys p q = q
all-join P (x ∷ xs) ys p q = (p.0, all-join P xs ys p.1 q)

pub all-maps : {A : Type 0} (P Q : A → Type 0) → ((x : A) → P x → Q x) → (xs : List A) → AllByRecursion P xs → AllByRecursion Q xs
all-maps P Q f [] p = tt
all-maps P Q f (x ∷ xs) p = (f x p.0, all-maps P Q f xs p.1)

-- ---- the turn and the moment

abbrev given_at : ℕ → Tree → Given
given_at moment reply = record { time = moment; reply = reply }

served_made : (turn n moment : ℕ) (ss : List Serving) (ts : List Tree)
    → AllByRecursion (IsMadeIn turn moment) (map (served_entry turn n) (zip ss (map (given_at moment) ts)))
served_made turn n moment [] ts = tt
served_made turn n moment (s ∷ ss) [] = tt
served_made turn n moment (s ∷ ss) (t ∷ ts) = ((refl, refl), served_made turn n moment ss ts)

done_made : (turn n number moment : ℕ) (p : Progress) → AllByRecursion (IsMadeIn turn moment) (done_entries turn n number p)
done_made turn n number moment Busy = tt
done_made turn n number moment (Finished how) = (refl, tt)

advance_made : (site : Site) (turn moment : ℕ) (s : State) (a : Advance) → IsAdvance site moment s a
    → AllByRecursion (IsMadeIn turn moment) (advance_entries turn a)
advance_made site turn moment s a is =
    let entries : List Given → List Recorded = λ gs. map (served_entry turn a.session) (zip (servings_in a.parts) gs) in
    let called = map (λ (s : Serving). (s.name, s.args)) (servings_in a.parts) in
    all-join (IsMadeIn turn moment) (entries a.given) (done_entries turn a.session (length a.next.batches) a.progress)
    (subst (λ (gs : List Given). AllByRecursion (IsMadeIn turn moment) (entries gs)) (sym is.replied)
    (served_made turn a.session moment (servings_in a.parts) (replies_to site.service (called_so_far s.history) called)))
    (done_made turn a.session (length a.next.batches) moment a.progress)

pub advanced_made : (site : Site) (turn moment : ℕ) (s : State) (ns : List ℕ) (rest : List Advance) → AreAdvancedSo site turn moment s ns rest
    → AllByRecursion (IsMadeIn turn moment) (made_in turn rest)
advanced_made site turn moment s [] rest e = subst (λ (others : List Advance). AllByRecursion (IsMadeIn turn moment) (made_in turn others)) (sym e) tt
advanced_made site turn moment s (n ∷ ns) [] e = absurd e
advanced_made site turn moment s (n ∷ ns) (a ∷ rest) (same, is, more) =
    all-join (IsMadeIn turn moment) (advance_entries turn a) (made_in turn rest) (advance_made site turn moment s a is)
    (advanced_made site turn moment (after_advance turn s a) ns rest more)

-- ---- the order

-- each is greater than the one before it, the first than this
abbrev pub RisesFrom : ℕ → List ℕ → Type 0
RisesFrom low [] = Unit {0}
RisesFrom low (n ∷ ns) = (low < n) × RisesFrom n ns

rises-push : (low k : ℕ) (xs : List ℕ) → RisesFrom low xs → AllByRecursion (λ x. x ≤ k) xs → low ≤ k → RisesFrom low (xs ++ suc k ∷ [])
rises-push low k [] p q le = (omega (arith, le), tt)
rises-push low k (x ∷ xs) p q le = (p.0, rises-push x k xs p.1 q.1 q.0)

-- they rise from 0, and none is above the count
pub busy_below : (n : ℕ) (h : List Recorded) → AllByRecursion (λ x. x ≤ n) (busy_up_to n h)
busy_below zero h = tt
busy_below (suc n) h =
    all-join (λ (x : ℕ). x ≤ suc n) (busy_up_to n h) (cond (is_busy_in (standing_of (suc n) h)) (suc n ∷ []) [])
    (all-maps (λ (x : ℕ). x ≤ n) (λ (x : ℕ). x ≤ suc n) (λ x p. omega (arith, p)) (busy_up_to n h) (busy_below n h))
    (last (is_busy_in (standing_of (suc n) h)))
  where
    last : (b : Bool) → AllByRecursion (λ x. x ≤ suc n) (cond b (suc n ∷ []) [])
    last true = (omega arith, tt)
    last false = tt

rises-last : (n : ℕ) (xs : List ℕ) (b : Bool) → RisesFrom 0 xs → AllByRecursion (λ x. x ≤ n) xs → RisesFrom 0 (xs ++ cond b (suc n ∷ []) [])
rises-last n xs true p q = rises-push 0 n xs p q (omega arith)
rises-last n xs false p q = subst (λ (ys : List ℕ). RisesFrom 0 ys) (sym (append-nil xs)) p

pub busy_rises : (n : ℕ) (h : List Recorded) → RisesFrom 0 (busy_up_to n h)
busy_rises zero h = tt
busy_rises (suc n) h = rises-last n (busy_up_to n h) (is_busy_in (standing_of (suc n) h)) (busy_rises n h) (busy_below n h)

-- entries of one session before those of later ones
lower : (low high : ℕ) (es : List Recorded) → low ≤ high → AreBySession high es → AreBySession low es
lower low high [] le p = tt
lower low high (e ∷ es) le p = (omega (arith, le, p.0), p.1)

by-join : (low n : ℕ) (es others : List Recorded) → low ≤ n → AllByRecursion (λ e. session_of e ≡ n) es → AreBySession n others
    → AreBySession low (es ++ others)
by-join low n [] others le p q = lower low n others le q
by-join low n (e ∷ es) others le p q =
    (omega (arith, le, p.0), by-join (session_of e) n es others (omega (arith, p.0)) p.1 q)

served_of_one : (turn n : ℕ) (xs : List (Serving × Given)) → AllByRecursion (λ e. session_of e ≡ n) (map (served_entry turn n) xs)
served_of_one turn n [] = tt
served_of_one turn n ((s, g) ∷ xs) = (refl, served_of_one turn n xs)

done_of_one : (turn n number : ℕ) (p : Progress) → AllByRecursion (λ e. session_of e ≡ n) (done_entries turn n number p)
done_of_one turn n number Busy = tt
done_of_one turn n number (Finished how) = (refl, tt)

pub advance_of_one : (turn : ℕ) (a : Advance) → AllByRecursion (λ e. session_of e ≡ a.session) (advance_entries turn a)
advance_of_one turn a =
    all-join (λ (e : Recorded). session_of e ≡ a.session) (map (served_entry turn a.session) (zip (servings_in a.parts) a.given))
    (done_entries turn a.session (length a.next.batches) a.progress)
    (served_of_one turn a.session (zip (servings_in a.parts) a.given)) (done_of_one turn a.session (length a.next.batches) a.progress)

pub advanced_by_session : (site : Site) (turn moment : ℕ) (low : ℕ) (s : State) (ns : List ℕ) (rest : List Advance) → RisesFrom low ns
    → AreAdvancedSo site turn moment s ns rest → AreBySession low (made_in turn rest)
advanced_by_session site turn moment low s [] rest r e = subst (λ (others : List Advance). AreBySession low (made_in turn others)) (sym e) tt
advanced_by_session site turn moment low s (n ∷ ns) [] r e = absurd e
advanced_by_session site turn moment low s (n ∷ ns) (a ∷ rest) r (same, is, more) =
    by-join low a.session (advance_entries turn a) (made_in turn rest) (omega (arith, r.0, same)) (advance_of_one turn a)
    (advanced_by_session site turn moment a.session (after_advance turn s a) ns rest (subst (λ (k : ℕ). RisesFrom k ns) (sym same) r.1) more)

pub turns_made : (site : Site) (turn : ℕ) (s : State) (ts : List Coming) → AreTurns site turn s ts → AreMade turn (course_turns turn ts)
turns_made site turn s [] p = tt
turns_made site turn s (t ∷ ts) (here, rest) =
    let x = handled_at site turn t s in (
      advanced_made site turn t.moment x (busy_in x.history) t.advances here.advanced,
      advanced_by_session site turn t.moment 0 x (busy_in x.history) t.advances (busy_rises (length (identifiers_in x.history)) x.history) here.advanced,
      turns_made site (turn + 1) (after_turn site turn t s) ts rest,
    )
