-- Truthful clients in a history.
use Rattle.std.proofs.Common.{◌≡◌, ◌⊎◌, inl, inr, ℕ, ◌+◌, Bool, false, cond, eqb, List, [], ◌∷◌, ◌++◌, length, take, sym, ap, subst, ◌∙◌}
use Rattle.std.specs.List.{AllByRecursion, list_any}
use Rattle.std.proofs.lemmas.Bool.{eq-eqb}
use Rattle.rip_app.specs.App.{Loaded}
use Rattle.rip_wire.specs.Batches.{Contents}
use Rattle.rip_log.specs.Entries.{Recorded, opened, admitted, served, done, closed, ended}
use Rattle.rip_history.specs.Parts.{Given, Meaning, finishes, serves}
use Rattle.rip_history.specs.Sessions.{Deed, IsSessionOf, batches_in, deeds_in, given_in}
use Rattle.rip_session.specs.Application.{meaning_of_app}
use Rattle.rip_law_replica.specs.Truthful.{has_lie}
use Rattle.rip_headline.specs.CompleteHistories.{AreFirstTold, BrokenTruthIsServed, HasNoLie, IsTruthfulIn, TruthIsServed, front, nothing}
use Rattle.rip_headline.proofs.Openings.{opening_honest}
use Rattle.rip_headline.proofs.Replies.{are_served}
use Rattle.rip_headline.proofs.Runs.{Lies, first_honest, honest_deeds, rest_honest, take_front}

-- the entries of deeds that are no lies tell none
entries_honest : (n : ℕ) (h : List Recorded) → list_any Lies (deeds_in n h) ≡ false → AllByRecursion (HasNoLie n) h
entries_honest n [] honest = tt
entries_honest n (opened turn session id seed time ∷ h) honest = (tt, entries_honest n h honest)
entries_honest n (admitted turn session b ∷ h) honest = (tt, entries_honest n h honest)
entries_honest n (served turn session number k name args time reply ∷ h) honest =
    (tt, entries_honest n h (rest_honest (eqb session n) (record { turn = turn; batch = number; fact = serves k name args }) (deeds_in n h) honest))
entries_honest n (done turn session number how ∷ h) honest =
    let d : Deed = record { turn = turn; batch = number; fact = finishes how } in (
      λ same. first_honest d (deeds_in n h) (ap (λ (b : Bool). list_any Lies (cond b (d ∷ deeds_in n h) (deeds_in n h))) (sym (eq-eqb session n same)) ∙ honest),
      entries_honest n h (rest_honest (eqb session n) d (deeds_in n h) honest),
    )
entries_honest n (closed turn session ∷ h) honest = (tt, entries_honest n h honest)
entries_honest n (ended turn status ∷ h) honest = (tt, entries_honest n h honest)

first_honest_parts : (app : Loaded) (seed time : ℕ) (given : List Given) (first : List Contents) → AreFirstTold app seed time given first
    → has_lie (meaning_of_app app seed time first given) ≡ false
first_honest_parts app seed time given first (nothing none) =
    ap (λ (bs : List Contents). has_lie (meaning_of_app app seed time bs given)) none ∙ opening_honest app seed time given
first_honest_parts app seed time given first (front gestures batches told more) =
    let taken : take (length first) batches ≡ first = ap (take (length first)) more.1 ∙ take_front first more.0 in
    ap (λ (bs : List Contents). has_lie (meaning_of_app app seed time bs given)) (sym taken)
    ∙ are_served app seed time gestures given batches told (length first)

session_honest : (app : Loaded) (last : ℕ) (h : List Recorded) (n : ℕ) (t : IsTruthfulIn app h n) → IsSessionOf (meaning_of_app app) last h n → AllByRecursion (HasNoLie n) h
session_honest app last h n t s =
    entries_honest n h
    (honest_deeds (meaning_of_app app) last h n t.seed t.time t.opening s
    (first_honest_parts app t.seed t.time (given_in n h) (batches_in n h) t.batches))

pub truth_is_served : TruthIsServed
truth_is_served app service limit told turns history n course t =
    session_honest app (length turns) history n t (course.sessions n (t.seed, t.time) t.opening)

-- ---- runs that broke off

all_front : (n : ℕ) (put behind : List Recorded) → AllByRecursion (HasNoLie n) (put ++ behind) → AllByRecursion (HasNoLie n) put
all_front n [] behind h = tt
all_front n (e ∷ put) behind h = (h.0, all_front n put behind h.1)

-- a session did what the meaning says up to a turn or to the next
either_honest : (app : Loaded) (m : Meaning) (last : ℕ) (h : List Recorded) (n : ℕ) → m ≡ meaning_of_app app → IsTruthfulIn app h n
    → IsSessionOf m last h n ⊎ IsSessionOf m (last + 1) h n → AllByRecursion (HasNoLie n) h
either_honest app m last h n same t (inl s) = session_honest app last h n t (subst (λ (x : Meaning). IsSessionOf x last h n) same s)
either_honest app m last h n same t (inr s) = session_honest app (last + 1) h n t (subst (λ (x : Meaning). IsSessionOf x (last + 1) h n) same s)

pub broken_truth_is_served : BrokenTruthIsServed
broken_truth_is_served app site ts t put n same run truth =
    let b = run.broken in
    all_front n put run.behind
    (subst (λ (h : List Recorded). AllByRecursion (HasNoLie n) h) run.front
    (either_honest app site.meaning (length ts) run.next n same truth (b.sessions n (truth.seed, truth.time) truth.opening)))
