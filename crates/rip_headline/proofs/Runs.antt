-- Truthful clients in a run.
use Rattle.std.proofs.Common.{◌≡◌, ℕ, Bool, true, false, cond, eqb, List, [], ◌∷◌, ◌++◌, length, take, Option, Some, None, refl, sym, ap, subst, ◌∙◌, append_assoc}
use Rattle.std.specs.Prelude.{is_some, option_map}
use Rattle.std.specs.List.{list_any}
use Rattle.std.proofs.lemmas.Bool.{true≢false, false≢true, or_parts, or_from}
use Rattle.rip_base.specs.declared.value.Fault.{Fault}
use Rattle.rip_base.specs.declared.value.Fault.TheVariants as F
use Rattle.rip_base.specs.declared.value.Limit.{Limit}
use Rattle.rip_base.specs.declared.value.Limit.TheVariants as L
use Rattle.rip_wire.specs.Batches.{Contents}
use Rattle.rip_wire.specs.Reasons.{fault_reason, limit_reason, reason_of}
use Rattle.rip_wire.specs.declared.ending.Ending.{Ending}
use Rattle.rip_wire.specs.declared.ending.Ending.TheVariants as E
use Rattle.rip_wire.specs.declared.ending.Reason.{Reason}
use Rattle.rip_wire.specs.declared.ending.Reason.TheVariants as R
use Rattle.rip_log.specs.Entries.{Recorded, opened, admitted, served, done, closed, ended}
use Rattle.rip_history.specs.Parts.{finishes, serves, IsLawful, Lacking, Meaning, Part, before, is_before, lacking_part, with_lack}
use Rattle.rip_history.specs.Sessions.{Deed, IsSessionOf, admission, batches_in, come_by, comes_by, deed_of, deeds_in, deeds_of, given_in, is_deed, opening_in, turns_in}
use Rattle.rip_history.specs.Standings.{standing_from, when_admitted, when_closed, when_done, when_opened}
use Rattle.rip_history.specs.declared.standing.Standing.{Standing}
use Rattle.rip_law_history.specs.Legal.{course_turns, history_of}
use Rattle.rip_law_history.proofs.WholeRunLemmas.{runs_are_courses}
use Rattle.rip_law_server.specs.Paced.{IsServed}
use Rattle.rip_law_server.proofs.PaceLemmas.{paced_are_served}
use Rattle.rip_session.specs.Application.{meaning_of_app}
use Rattle.rip_session.specs.Lawful.{app_is_lawful}
use Rattle.rip_law_replica.specs.Truthful.{has_lie, is_lie}
use Rattle.rip_headline.specs.Complete.{IsNoLie, TruthfulAreComplete}
use Rattle.rip_headline.proofs.Replies.{are_served}

-- ---- what comes of parts without a lie has none

before_honest : (l : Lacking) (ps : List Part) → has_lie ps ≡ false → has_lie (before l ps) ≡ false
before_honest l [] h = h
before_honest l (p ∷ ps) h =
    let both = or_parts (is_lie p.fact) (has_lie ps) h in
    by (is_before l p) both.0 (before_honest l ps both.1)
  where
    by : (b : Bool) → is_lie p.fact ≡ false → has_lie (before l ps) ≡ false → has_lie (cond b (p ∷ before l ps) []) ≡ false
    by true first rest = or_from (is_lie p.fact) (has_lie (before l ps)) first rest
    by false first rest = refl

push_honest : (ps : List Part) (p : Part) → has_lie ps ≡ false → is_lie p.fact ≡ false → has_lie (ps ++ p ∷ []) ≡ false
push_honest [] p h e = or_from (is_lie p.fact) false e refl
push_honest (q ∷ ps) p h e =
    let both = or_parts (is_lie q.fact) (has_lie ps) h in
    or_from (is_lie q.fact) (has_lie (ps ++ p ∷ [])) both.0 (push_honest ps p both.1 e)

lack_honest : (o : Option Lacking) (ps : List Part) → has_lie ps ≡ false → has_lie (with_lack o ps) ≡ false
lack_honest None ps h = h
lack_honest (Some l) ps h = push_honest (before l ps) (lacking_part l) (before_honest l ps h) refl

come_honest : (last : ℕ) (turns : List ℕ) (ps : List Part) → has_lie ps ≡ false → has_lie (come_by last turns ps) ≡ false
come_honest last turns [] h = h
come_honest last turns (p ∷ ps) h =
    let both = or_parts (is_lie p.fact) (has_lie ps) h in
    by (comes_by last p.cost (admission turns p)) both.0 (come_honest last turns ps both.1)
  where
    by : (b : Bool) → is_lie p.fact ≡ false → has_lie (come_by last turns ps) ≡ false → has_lie (cond b (p ∷ come_by last turns ps) []) ≡ false
    by true first rest = or_from (is_lie p.fact) (has_lie (come_by last turns ps)) first rest
    by false first rest = refl

abbrev pub Lies : Deed → Bool
Lies d = is_lie d.fact

deeds_honest : (turns : List ℕ) (ps : List Part) → has_lie ps ≡ false → list_any Lies (deeds_of turns ps) ≡ false
deeds_honest turns [] h = h
deeds_honest turns (p ∷ ps) h =
    let both = or_parts (is_lie p.fact) (has_lie ps) h in
    by (is_deed p.fact) both.0 (deeds_honest turns ps both.1)
  where
    by : (b : Bool) → is_lie p.fact ≡ false → list_any Lies (deeds_of turns ps) ≡ false → list_any Lies (cond b (deed_of turns p ∷ deeds_of turns ps) (deeds_of turns ps)) ≡ false
    by true first rest = or_from (is_lie p.fact) (list_any Lies (deeds_of turns ps)) first rest
    by false first rest = rest

-- ---- how the session ends

-- its reason, if it has ended, is no lie
abbrev EndsWell : Option Standing → Type 0
EndsWell None = Unit {0}
EndsWell (Some s) = (reason : Reason) → s.ended ≡ Some reason → IsNoLie reason

limit_is_none : (limit : Limit) → IsNoLie (limit_reason limit)
limit_is_none L.Fuel = (λ e. cc, λ e. cc)
limit_is_none L.Cells = (λ e. cc, λ e. cc)
limit_is_none L.Units = (λ e. cc, λ e. cc)
limit_is_none L.Nodes = (λ e. cc, λ e. cc)
limit_is_none L.Depth = (λ e. cc, λ e. cc)
limit_is_none L.Queue = (λ e. cc, λ e. cc)
limit_is_none L.Replies = (λ e. cc, λ e. cc)

fault_is_none : (fault : Fault) → IsNoLie (fault_reason fault)
fault_is_none F.NotWhole = (λ e. cc, λ e. cc)
fault_is_none F.Infinite = (λ e. cc, λ e. cc)
fault_is_none F.OutOfRange = (λ e. cc, λ e. cc)
fault_is_none F.Hole = (λ e. cc, λ e. cc)
fault_is_none F.NotInProfile = (λ e. cc, λ e. cc)
fault_is_none F.ObjectToPrimitive = (λ e. cc, λ e. cc)
fault_is_none F.BadArgument = (λ e. cc, λ e. cc)
fault_is_none F.LoneSurrogate = (λ e. cc, λ e. cc)
fault_is_none F.TextTooLong = (λ e. cc, λ e. cc)

ending_is_none : (e : Ending) → is_lie (finishes (Some e)) ≡ false → IsNoLie (reason_of e)
ending_is_none (E.Mismatch item number reported made) h = absurd (true≢false h)
ending_is_none (E.BadReport item kind) h = absurd (true≢false h)
ending_is_none (E.Limit item limit) h = limit_is_none limit
ending_is_none (E.Fault item fault) h = fault_is_none fault
ending_is_none (E.Memory item) h = (λ e. cc, λ e. cc)
ending_is_none E.Closed h = (λ e. cc, λ e. cc)

none_ends : (reason : Reason) → None ≡ Some reason → ⊥
none_ends reason e = false≢true (ap (λ (o : Option Reason). is_some o) e)

one_reason : (a b : Reason) → Some a ≡ Some b → a ≡ b
one_reason a b e = cc

done_well : (number : ℕ) (how : Option Ending) (s : Standing) → is_lie (finishes how) ≡ false → EndsWell (Some (when_done number (option_map reason_of how) s))
done_well number None s h reason e = absurd (none_ends reason e)
done_well number (Some ending) s h reason e = subst IsNoLie (one_reason (reason_of ending) reason e) (ending_is_none ending h)

closed_well : (s : Option Standing) → EndsWell (option_map when_closed s)
closed_well None = tt
closed_well (Some s) = λ reason e. subst IsNoLie (one_reason R.Closed reason e) (λ f. cc, λ f. cc)

admitted_well : (number : ℕ) (s : Option Standing) → EndsWell s → EndsWell (option_map (when_admitted number) s)
admitted_well number None w = tt
admitted_well number (Some s) w = w

done_all : (number : ℕ) (how : Option Ending) (s : Option Standing) → is_lie (finishes how) ≡ false → EndsWell (option_map (when_done number (option_map reason_of how)) s)
done_all number how None h = tt
done_all number how (Some s) h = done_well number how s h

if_well : (b : Bool) (s t : Option Standing) → EndsWell s → EndsWell t → EndsWell (cond b s t)
if_well true s t v w = v
if_well false s t v w = w

-- the deeds behind the first, where it is of the session
pub rest_honest : (b : Bool) (d : Deed) (ds : List Deed) → list_any Lies (cond b (d ∷ ds) ds) ≡ false → list_any Lies ds ≡ false
rest_honest true d ds h = (or_parts (Lies d) (list_any Lies ds) h).1
rest_honest false d ds h = h

pub first_honest : (d : Deed) (ds : List Deed) → list_any Lies (d ∷ ds) ≡ false → Lies d ≡ false
first_honest d ds h = (or_parts (Lies d) (list_any Lies ds) h).0

ends_well : (n : ℕ) (s : Option Standing) (h : List Recorded) → EndsWell s → list_any Lies (deeds_in n h) ≡ false → EndsWell (standing_from n s h)
ends_well n s [] w honest = w
ends_well n s (opened turn session id seed time ∷ h) w honest =
    ends_well n (cond (eqb session n) (Some when_opened) s) h (if_well (eqb session n) (Some when_opened) s (λ reason e. absurd (none_ends reason e)) w) honest
ends_well n s (admitted turn session b ∷ h) w honest =
    ends_well n (cond (eqb session n) (option_map (when_admitted b.number) s) s) h
    (if_well (eqb session n) (option_map (when_admitted b.number) s) s (admitted_well b.number s w) w) honest
ends_well n s (served turn session number k name args time reply ∷ h) w honest =
    ends_well n s h w (rest_honest (eqb session n) (record { turn = turn; batch = number; fact = serves k name args }) (deeds_in n h) honest)
ends_well n s (done turn session number how ∷ h) w honest =
    let d : Deed = record { turn = turn; batch = number; fact = finishes how } in
    let next = cond (eqb session n) (option_map (when_done number (option_map reason_of how)) s) s in
    ends_well n next h (done_by d how (eqb session n) s w honest) (rest_honest (eqb session n) d (deeds_in n h) honest)
  where
    done_by : (d : Deed) (how : Option Ending) (b : Bool) (s : Option Standing) → EndsWell s → list_any Lies (cond b (record { turn = turn; batch = number; fact = finishes how } ∷ deeds_in n h) (deeds_in n h)) ≡ false
        → EndsWell (cond b (option_map (when_done number (option_map reason_of how)) s) s)
    done_by d how true s w all = done_all number how s (first_honest (record { turn = turn; batch = number; fact = finishes how }) (deeds_in n h) all)
    done_by d how false s w all = w
ends_well n s (closed turn session ∷ h) w honest =
    ends_well n (cond (eqb session n) (option_map when_closed s) s) h (if_well (eqb session n) (option_map when_closed s) s (closed_well s) w) honest
ends_well n s (ended turn status ∷ h) w honest = ends_well n s h w honest

-- ---- the first of a list

pub take_front : {A : Type 0} (xs ys : List A) → take (length xs) (xs ++ ys) ≡ xs
take_front [] ys = refl
take_front (x ∷ xs) ys = ap (λ zs. x ∷ zs) (take_front xs ys)

same_opening : (a b : ℕ × ℕ) → Some a ≡ Some b → a ≡ b
same_opening a b e = cc

-- ---- the law

pub honest_deeds : (m : Meaning) (last : ℕ) (h : List Recorded) (n seed time : ℕ) → opening_in n h ≡ Some (seed, time) → IsSessionOf m last h n
    → has_lie (m seed time (batches_in n h) (given_in n h)) ≡ false → list_any Lies (deeds_in n h) ≡ false
honest_deeds m last h n seed time opening s honest =
    let same : (s.seed, s.time) ≡ (seed, time) = same_opening (s.seed, s.time) (seed, time) (sym s.opening ∙ opening) in
    let parts : has_lie (m s.seed s.time (batches_in n h) (given_in n h)) ≡ false =
    ap (λ (start : ℕ × ℕ). has_lie (m start.0 start.1 (batches_in n h) (given_in n h))) same ∙ honest in
    ap (list_any Lies) s.deeds
    ∙ deeds_honest (turns_in n h) (come_by last (turns_in n h) (with_lack s.lacking (m s.seed s.time (batches_in n h) (given_in n h))))
    (come_honest last (turns_in n h) (with_lack s.lacking (m s.seed s.time (batches_in n h) (given_in n h)))
    (lack_honest s.lacking (m s.seed s.time (batches_in n h) (given_in n h)) parts))

pub are_complete : TruthfulAreComplete
are_complete app site ts n meaning turns t =
    let lawful : IsLawful site.meaning = subst IsLawful (sym meaning) (app_is_lawful app) in
    let h = history_of site ts in
    let served : IsServed site ts n = paced_are_served site ts n lawful turns t.pace in
    let course = runs_are_courses site ts lawful turns in
    let session : IsSessionOf site.meaning (length (course_turns 1 ts)) h n = course.sessions n (t.seed, t.time) t.opening in
    let own = served.batches in
    let front : t.batches ≡ batches_in n h ++ (own.0 ++ (let f = t.first in f.0)) =
    (let f = t.first in f.1) ∙ ap (λ (bs : List Contents). bs ++ (let f = t.first in f.0)) own.1 ∙ append_assoc (batches_in n h) own.0 (let f = t.first in f.0) in
    let taken : take (length (batches_in n h)) t.batches ≡ batches_in n h =
    ap (take (length (batches_in n h))) front ∙ take_front (batches_in n h) (own.0 ++ (let f = t.first in f.0)) in
    let honest : has_lie (meaning_of_app app t.seed t.time (batches_in n h) (given_in n h)) ≡ false =
    ap (λ (bs : List Contents). has_lie (meaning_of_app app t.seed t.time bs (given_in n h))) (sym taken)
    ∙ are_served app t.seed t.time t.gestures (given_in n h) t.batches t.told (length (batches_in n h)) in
    let deeds : list_any Lies (deeds_in n h) ≡ false =
    honest_deeds site.meaning (length (course_turns 1 ts)) h n t.seed t.time t.opening session
    (ap (λ (m : Meaning). has_lie (m t.seed t.time (batches_in n h) (given_in n h))) meaning ∙ honest) in
    record {
      served = served;
      ends = λ s reason stands is. subst EndsWell stands (ends_well n None h tt deeds) reason is;
    }
