-- The entries of what sessions do are in range.
use Rattle.std.proofs.Common.{◌≡◌, ℕ, ◌+◌, ◌<◌, ◌≤◌, ◌^◌, Bool, true, false, cond, eqb, List, [], ◌∷◌, ◌++◌, length, Option, Some, None, refl, sym, subst, arith}
use Rattle.std.specs.Prelude.{⊤}
use Rattle.std.specs.List.{AllByRecursion}
use Rattle.std.proofs.lemmas.Bool.{eq-eqb, eqb-true}
use Rattle.rip_wire.specs.Batches.{Contents, IsBatch}
use Rattle.rip_log.specs.Entries.{Recorded, opened, admitted, served, done, closed, ended}
use Rattle.rip_log.specs.Histories.{IsHistory}
use Rattle.rip_log.specs.Parts.{IsReply}
use Rattle.rip_log.specs.Ranges.{IsShort}
use Rattle.rip_history.specs.Course.{AreReplies}
use Rattle.rip_history.specs.Parts.{serves, finishes, Part, Meaning, Lacking, lacking_part, before, behind, is_before, with_lack, MayLack}
use Rattle.rip_history.specs.Sequences.{counted, numbers_of}
use Rattle.rip_history.specs.Services.{Called, Service}
use Rattle.rip_history.specs.Sessions.{opening_in, batches_in, given_in, turns_in, Deed, deeds_in, admission, comes_by, come_by, is_deed, deed_of, deeds_of, IsSessionOf}
use Rattle.rip_law_history.proofs.WholeMadeLemmas.{all-join}
use Rattle.rip_law_history.specs.Ranged.{IsFact, IsPart, MeansInRange, IsCalled, RepliesInRange}
use Rattle.rip_law_history.proofs.DecidedLemmas.{ArePlaced}

-- ---- the batches of a session

batches-step : (t : Bool) (b : Contents) (bs : List Contents) → IsBatch b → AllByRecursion IsBatch bs → AllByRecursion IsBatch (cond t (b ∷ bs) bs)
batches-step true b bs p q = (p, q)
batches-step false b bs p q = q

pub batches_range : (n : ℕ) (h : List Recorded) → ArePlaced h → AllByRecursion IsBatch (batches_in n h)
batches_range n [] p = tt
batches_range n (opened turn session id seed time ∷ h) p = batches_range n h p.1
batches_range n (admitted turn session b ∷ h) p = batches-step (eqb session n) b (batches_in n h) p.0.2 (batches_range n h p.1)
batches_range n (served turn session number k name args time reply ∷ h) p = batches_range n h p.1
batches_range n (done turn session number how ∷ h) p = batches_range n h p.1
batches_range n (closed turn session ∷ h) p = batches_range n h p.1
batches_range n (ended turn status ∷ h) p = batches_range n h p.1

-- batches that are counted are fewer than their numbers may be
pub counted_few : (from : ℕ) (bs : List Contents) → AllByRecursion IsBatch bs → numbers_of bs ≡ counted from (length bs) → from ≤ 2 ^ 53
    → from + length bs ≤ 2 ^ 53
counted_few from [] all is le = omega (arith, le)
counted_few from (b ∷ bs) all is le =
    let head : b.number ≡ from = cc in
    let rest : numbers_of bs ≡ counted (from + 1) (length bs) = cc in
    let bound : b.number < 2 ^ 53 = let r = all.0 in r.bounded in
    let more : from + 1 + length bs ≤ 2 ^ 53 = counted_few (from + 1) bs all.1 rest (omega (arith, head, bound)) in
    omega (arith, more)

-- ---- the ordinal of a session that was opened

opening-step : (t : Bool) (session n : ℕ) (x opening : ℕ × ℕ) (o : Option (ℕ × ℕ)) → eqb session n ≡ t → IsShort session → (o ≡ Some opening → IsShort n)
    → cond t (Some x) o ≡ Some opening → IsShort n
opening-step true session n x opening o at short rest e = subst IsShort (eqb-true session n at) short
opening-step false session n x opening o at short rest e = rest e

pub opened_short : (n : ℕ) (h : List Recorded) (opening : ℕ × ℕ) → ArePlaced h → opening_in n h ≡ Some opening → IsShort n
opened_short n [] opening p e = absurd cc
opened_short n (opened turn session id seed time ∷ h) opening p e =
    opening-step (eqb session n) session n (seed, time) opening (opening_in n h) refl p.0.1 (opened_short n h opening p.1) e
opened_short n (admitted turn session b ∷ h) opening p e = opened_short n h opening p.1 e
opened_short n (served turn session number k name args time reply ∷ h) opening p e = opened_short n h opening p.1 e
opened_short n (done turn session number how ∷ h) opening p e = opened_short n h opening p.1 e
opened_short n (closed turn session ∷ h) opening p e = opened_short n h opening p.1 e
opened_short n (ended turn status ∷ h) opening p e = opened_short n h opening p.1 e

-- ---- parts, with want of memory

before-step : (P : Part → Type 0) (t : Bool) (p : Part) (ps : List Part) → P p → AllByRecursion P ps → AllByRecursion P (cond t (p ∷ ps) [])
before-step P true p ps here rest = (here, rest)
before-step P false p ps here rest = tt

before-all : (P : Part → Type 0) (l : Lacking) (ps : List Part) → AllByRecursion P ps → AllByRecursion P (before l ps)
before-all P l [] all = tt
before-all P l (p ∷ ps) all = before-step P (is_before l p) p (before l ps) all.0 (before-all P l ps all.1)

behind-step : (P : Part → Type 0) (t : Bool) (ps qs : List Part) → AllByRecursion P ps → AllByRecursion P qs → AllByRecursion P (cond t ps qs)
behind-step P true ps qs first second = first
behind-step P false ps qs first second = second

behind-all : (P : Part → Type 0) (l : Lacking) (ps : List Part) → AllByRecursion P ps → AllByRecursion P (behind l ps)
behind-all P l [] all = tt
behind-all P l (p ∷ ps) all = behind-step P (is_before l p) (behind l ps) (p ∷ ps) (behind-all P l ps all.1) all

lack-all : (k : ℕ) (o : Option Lacking) (ps : List Part) → AllByRecursion (IsPart k) ps → MayLack o ps → AllByRecursion (IsPart k) (with_lack o ps)
lack-all k None ps all may = all
lack-all k (Some l) ps all may =
    let there : IsPart k may.part = (subst (AllByRecursion (IsPart k)) may.comes (behind-all (IsPart k) l ps all)).0 in
    all-join (IsPart k) (before l ps) (lacking_part l ∷ []) (before-all (IsPart k) l ps all) (
      record {
        batch = subst (λ (b : ℕ). b ≤ k) may.batch there.batch;
        item = subst IsShort may.item there.item;
        fact = subst IsShort may.item there.item;
      },
      tt,
    )

-- ---- deeds

-- what a session of an ordinal did is in range
pub record IsDone (n : ℕ) (d : Deed) : Type 0 where
  pub session : IsShort n
  pub batch : d.batch < 2 ^ 53
  pub fact : IsFact d.batch d.fact

come-all : (P : Part → Type 0) (last : ℕ) (turns : List ℕ) (ps : List Part) → AllByRecursion P ps → AllByRecursion P (come_by last turns ps)
come-all P last turns [] all = tt
come-all P last turns (p ∷ ps) all =
    before-step P (comes_by last p.cost (admission turns p)) p (come_by last turns ps) all.0 (come-all P last turns ps all.1)

deeds-step : (n : ℕ) (t : Bool) (d : Deed) (ds : List Deed) → IsDone n d → AllByRecursion (IsDone n) ds → AllByRecursion (IsDone n) (cond t (d ∷ ds) ds)
deeds-step n true d ds here rest = (here, rest)
deeds-step n false d ds here rest = rest

deed-done : (n k : ℕ) (turns : List ℕ) (p : Part) → IsShort n → k < 2 ^ 53 → IsPart k p → IsDone n (deed_of turns p)
deed-done n k turns p short few part = record { session = short; batch = omega (arith, part.batch, few); fact = part.fact }

deeds-all : (n k : ℕ) (turns : List ℕ) (ps : List Part) → IsShort n → k < 2 ^ 53 → AllByRecursion (IsPart k) ps → AllByRecursion (IsDone n) (deeds_of turns ps)
deeds-all n k turns [] short few all = tt
deeds-all n k turns (p ∷ ps) short few all =
    deeds-step n (is_deed p.fact) (deed_of turns p) (deeds_of turns ps) (deed-done n k turns p short few all.0) (deeds-all n k turns ps short few all.1)

-- what each session of a history did is in range
pub session_done : (m : Meaning) (last n : ℕ) (h : List Recorded) → MeansInRange m → ArePlaced h → IsShort n → length (batches_in n h) < 2 ^ 53
    → IsSessionOf m last h n → AllByRecursion (IsDone n) (deeds_in n h)
session_done m last n h means placed short few s =
    let k = length (batches_in n h) in
    subst (AllByRecursion (IsDone n)) (sym s.deeds)
    (deeds-all n k (turns_in n h) (come_by last (turns_in n h) (with_lack s.lacking (m s.seed s.time (batches_in n h) (given_in n h)))) short few
    (come-all (IsPart k) last (turns_in n h) (with_lack s.lacking (m s.seed s.time (batches_in n h) (given_in n h)))
    (lack-all k s.lacking (m s.seed s.time (batches_in n h) (given_in n h)) (means s.seed s.time (batches_in n h) (given_in n h) (batches_range n h placed)) s.may_lack)))

-- ---- entries

-- so is the entry of it
abbrev pub IsDid : Recorded → Type 0
IsDid (opened turn session id seed time) = ⊤
IsDid (admitted turn session b) = ⊤
IsDid (served turn session number k name args time reply) = IsDone session (record { turn = turn; batch = number; fact = serves k name args })
IsDid (done turn session number how) = IsDone session (record { turn = turn; batch = number; fact = finishes how })
IsDid (closed turn session) = ⊤
IsDid (ended turn status) = ⊤

others : (n : ℕ) (t : Bool) (d : Deed) (ds : List Deed) → AllByRecursion (IsDone n) (cond t (d ∷ ds) ds) → AllByRecursion (IsDone n) ds
others n true d ds all = all.1
others n false d ds all = all

first : (n : ℕ) (t : Bool) (d : Deed) (ds : List Deed) → t ≡ true → AllByRecursion (IsDone n) (cond t (d ∷ ds) ds) → IsDone n d
first n true d ds e all = all.0
first n false d ds e all = absurd cc

pub deeds_did : (h : List Recorded) → ((n : ℕ) → AllByRecursion (IsDone n) (deeds_in n h)) → AllByRecursion IsDid h
deeds_did [] all = tt
deeds_did (opened turn session id seed time ∷ h) all = (tt, deeds_did h all)
deeds_did (admitted turn session b ∷ h) all = (tt, deeds_did h all)
deeds_did (served turn session number k name args time reply ∷ h) all =
    let d : Deed = record { turn = turn; batch = number; fact = serves k name args } in (
      first session (eqb session session) d (deeds_in session h) (eq-eqb session session refl) (all session),
      deeds_did h (λ n. others n (eqb session n) d (deeds_in n h) (all n)),
    )
deeds_did (done turn session number how ∷ h) all =
    let d : Deed = record { turn = turn; batch = number; fact = finishes how } in (
      first session (eqb session session) d (deeds_in session h) (eq-eqb session session refl) (all session),
      deeds_did h (λ n. others n (eqb session n) d (deeds_in n h) (all n)),
    )
deeds_did (closed turn session ∷ h) all = (tt, deeds_did h all)
deeds_did (ended turn status ∷ h) all = (tt, deeds_did h all)

-- an entry that is placed and did so is in range, where replies are
pub all_recorded : (service : Service) (calls : List Called) (h : List Recorded) → RepliesInRange service → AllByRecursion IsCalled calls
    → AreReplies service calls h → ArePlaced h → AllByRecursion IsDid h → IsHistory h
all_recorded service calls [] range called replies placed did = tt
all_recorded service calls (opened turn session id seed time ∷ h) range called replies placed did =
    (placed.0, all_recorded service calls h range called replies placed.1 did.1)
all_recorded service calls (admitted turn session b ∷ h) range called replies placed did =
    (placed.0, all_recorded service calls h range called replies placed.1 did.1)
all_recorded service calls (served turn session number k name args time reply ∷ h) range called replies placed did =
    let d = did.0 in
    let fact = d.fact in (
      (
        placed.0.0,
        d.session,
        record { from_one = fact.0; bounded = d.batch; number = fact.1; name = fact.2; time = placed.0.1 },
        fact.3,
        subst IsReply (sym replies.0) (range calls (name, args) called (fact.2, fact.3)),
      ),
      all_recorded service (calls ++ (name, args) ∷ []) h range
          (all-join IsCalled calls ((name, args) ∷ []) called ((fact.2, fact.3), tt)) replies.1 placed.1 did.1,
    )
all_recorded service calls (done turn session number how ∷ h) range called replies placed did =
    let d = did.0 in
    ((placed.0, d.session, d.batch, d.fact), all_recorded service calls h range called replies placed.1 did.1)
all_recorded service calls (closed turn session ∷ h) range called replies placed did =
    (placed.0, all_recorded service calls h range called replies placed.1 did.1)
all_recorded service calls (ended turn status ∷ h) range called replies placed did = absurd placed.0
