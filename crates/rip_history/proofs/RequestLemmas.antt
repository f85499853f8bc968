-- What is asked and decided.
use Rattle.std.proofs.Common.{◌≡◌, ℕ, ◌+◌, Bool, true, false, cond, leb, List, length, Option, Some, None, refl, sym, ap, ◌∙◌, subst}
use Rattle.std.specs.Prelude.{codes}
use Rattle.std.proofs.lemmas.Bool.{leb-false}
use Rattle.rip_http.specs.declared.request.Route.{Route}
use Rattle.rip_http.specs.declared.request.Route.TheVariants.{Page, Events, Quit}
use Rattle.rip_wire.specs.Batches.{Contents}
use Rattle.rip_wire.proofs.LawLemmas.{body_tells}
use Rattle.rip_log.specs.Entries.{Recorded}
use Rattle.rip_history.specs.Decisions.{batch_decision, close_decision}
use Rattle.rip_history.specs.Sequences.{IsReadyFor}
use Rattle.rip_history.specs.Standings.{standing_of}
use Rattle.rip_history.specs.Requests.{Asked, page, batch, quit, identifier_in, Says, AsksAt, AskedIsOne, identifiers_in, was_opened, live_count, Lack, no_lack, early, late, Drawn, Decision, answers, opens, admits, closes, fails, on_batch_of, on_batch_to, on_close_of, on_close_to, for_session, named_by, decide, IsAdmission, AdmissionsAre, IsNewSession, OpeningsAre}
use Rattle.rip_history.specs.declared.standing.Standing.{Standing}
use Rattle.rip_history.specs.declared.decision.BatchDecision.{BatchDecision}
use Rattle.rip_history.specs.declared.decision.BatchDecision.TheVariants as on_batch
use Rattle.rip_history.specs.declared.decision.CloseDecision.{CloseDecision}
use Rattle.rip_history.specs.declared.decision.CloseDecision.TheVariants as on_close
use Rattle.rip_history.proofs.DecisionLemmas.{admits_next}

-- ---- what is asked

says_one : (body : List ℕ) (a b : Option Contents) → Says body a → Says body b → a ≡ b
says_one body None None h k = refl
says_one body None (Some c) h k = absurd (h c k)
says_one body (Some b) None h k = absurd (k b h)
says_one body (Some b) (Some c) h k = ap Some (body_tells body b c h k)

asks_one : (r : Route) (segment body : List ℕ) (a b : Asked) → AsksAt r segment body a → AsksAt r segment body b → a ≡ b
asks_one Page segment body a b h k = h ∙ sym k
asks_one Events segment body a b (x, s, e) (y, t, f) = e ∙ ap (batch (identifier_in segment)) (says_one body x y s t) ∙ sym f
asks_one Quit segment body a b h k = h ∙ sym k

pub asked_is_one : AskedIsOne
asked_is_one m a b h k = asks_one m.route m.segment m.body a b h k

-- ---- what a decision is

abbrev pub Admitting : Decision → Type 0
Admitting (answers code body) = ⊥
Admitting (opens n id seed) = ⊥
Admitting (admits n b) = Unit {0}
Admitting (closes n body) = ⊥

abbrev pub Opening : Decision → Type 0
Opening (answers code body) = ⊥
Opening (opens n id seed) = Unit {0}
Opening (admits n b) = ⊥
Opening (closes n body) = ⊥

-- the numbers of an opening
abbrev opening_of : Decision → ℕ × ℕ × ℕ
opening_of (answers code body) = (0, 0, 0)
opening_of (opens n id seed) = (n, id, seed)
opening_of (admits n b) = (0, 0, 0)
opening_of (closes n body) = (0, 0, 0)

-- the session and the batch of an admission, or those given
abbrev admitted_of : ℕ × Contents → Decision → ℕ × Contents
admitted_of other (answers code body) = other
admitted_of other (opens n id seed) = other
admitted_of other (admits n b) = (n, b)
admitted_of other (closes n body) = other

pub not_admitted : (d : Decision) (n : ℕ) (b : Contents) → d ≡ admits n b → Admitting d
not_admitted d n b e = subst Admitting (sym e) tt

pub not_opened : (d : Decision) (n id seed : ℕ) → d ≡ opens n id seed → Opening d
not_opened d n id seed e = subst Opening (sym e) tt

-- ---- admissions

by_decision : (h : List Recorded) (id : Option ℕ) (k n : ℕ) (s : Standing) (c b : Contents) (d : BatchDecision)
    → named_by id h ≡ Some k → standing_of k h ≡ Some s → batch_decision s c.number ≡ d
    → on_batch_of k h s c d ≡ admits n b → IsAdmission h id (Some c) n b
by_decision h id k n s c b on_batch.Repeat named stands decided e = absurd (not_admitted (on_batch_of k h s c on_batch.Repeat) n b e)
by_decision h id k n s c b on_batch.Gone named stands decided e = absurd (not_admitted (on_batch_of k h s c on_batch.Gone) n b e)
by_decision h id k n s c b on_batch.Busy named stands decided e = absurd (not_admitted (on_batch_of k h s c on_batch.Busy) n b e)
by_decision h id k n s c b on_batch.Old named stands decided e = absurd (not_admitted (on_batch_of k h s c on_batch.Old) n b e)
by_decision h id k n s c b on_batch.Gap named stands decided e = absurd (not_admitted (on_batch_of k h s c on_batch.Gap) n b e)
by_decision h id k n s c b on_batch.Admit named stands decided e =
    let both : (k, c) ≡ (n, b) = ap (admitted_of (k, c)) e in
    let session : k ≡ n = ap (λ (x : ℕ × Contents). x.0) both in
    let same : c ≡ b = ap (λ (x : ℕ × Contents). x.1) both in
    let next = (admits_next s c.number).0 decided in
    record {
      standing = s;
      session = named ∙ ap Some session;
      stands = subst (λ (x : ℕ). standing_of x h ≡ Some s) session stands;
      lives = next.0;
      idle = next.1;
      asked_for = ap Some same;
      next = ap (λ (x : Contents). x.number) (sym same) ∙ next.2;
    }

by_standing : (h : List Recorded) (id : Option ℕ) (asked : Option Contents) (k n : ℕ) (s : Option Standing) (b : Contents)
    → named_by id h ≡ Some k → standing_of k h ≡ s → on_batch_to k h s asked ≡ admits n b → IsAdmission h id asked n b
by_standing h id asked k n None b named stands e = absurd (not_admitted (on_batch_to k h None asked) n b e)
by_standing h id None k n (Some s) b named stands e = absurd (not_admitted (on_batch_to k h (Some s) None) n b e)
by_standing h id (Some c) k n (Some s) b named stands e = by_decision h id k n s c b (batch_decision s c.number) named stands refl e

by_name : (h : List Recorded) (id : Option ℕ) (asked : Option Contents) (n : ℕ) (o : Option ℕ) (b : Contents)
    → named_by id h ≡ o → for_session o (λ k. on_batch_to k h (standing_of k h) asked) ≡ admits n b → IsAdmission h id asked n b
by_name h id asked n None b named e = absurd (not_admitted (fails 404 (codes "session")) n b e)
by_name h id asked n (Some k) b named e = by_standing h id asked k n (standing_of k h) b named refl e

pub admissions_are : AdmissionsAre
admissions_are limit h id asked drawn no_lack n b e = by_name h id asked n (named_by id h) b refl e
admissions_are limit h id asked drawn early n b e = absurd (not_admitted (fails 503 (codes "memory")) n b e)
admissions_are limit h id asked drawn late n b e = absurd (not_admitted (fails 503 (codes "memory")) n b e)

-- ---- openings

-- the three tests of a request for the page, and what comes where none applies
by_tests : (limit : ℕ) (h : List Recorded) (drawn : Drawn) (n id seed : ℕ) (full spent clash : Bool)
    → leb limit (live_count h) ≡ full → leb 1000000 (length (identifiers_in h)) ≡ spent → was_opened drawn.id h ≡ clash
    → cond full (fails 503 (codes "full")) (cond spent (fails 503 (codes "spent")) (cond clash (fails 503 (codes "clash")) (opens (length (identifiers_in h) + 1) drawn.id drawn.seed))) ≡ opens n id seed
    → IsNewSession limit h drawn n id seed
by_tests limit h drawn n id seed true spent clash f s c e = absurd (not_opened (fails 503 (codes "full")) n id seed e)
by_tests limit h drawn n id seed false true clash f s c e = absurd (not_opened (fails 503 (codes "spent")) n id seed e)
by_tests limit h drawn n id seed false false true f s c e = absurd (not_opened (fails 503 (codes "clash")) n id seed e)
by_tests limit h drawn n id seed false false false f s c e =
    let all : (length (identifiers_in h) + 1, drawn.id, drawn.seed) ≡ (n, id, seed) = ap opening_of e in
    let ordinal : length (identifiers_in h) + 1 ≡ n = ap (λ (x : ℕ × ℕ × ℕ). x.0) all in
    let same : drawn.id ≡ id = ap (λ (x : ℕ × ℕ × ℕ). x.1) all in
    let seeds : drawn.seed ≡ seed = ap (λ (x : ℕ × ℕ × ℕ). x.2) all in
    record {
      room = leb-false limit (live_count h) f;
      unspent = leb-false 1000000 (length (identifiers_in h)) s;
      ordinal = sym ordinal;
      drawn_id = sym same;
      drawn_seed = sym seeds;
      fresh = ap (λ (x : ℕ). was_opened x h) (sym same) ∙ c;
    }

-- want of memory behind the words opens nothing
no_late : (full spent : Bool) (n id seed : ℕ)
    → cond full (fails 503 (codes "full")) (cond spent (fails 503 (codes "spent")) (fails 503 (codes "memory"))) ≡ opens n id seed → ⊥
no_late true spent n id seed e = not_opened (fails 503 (codes "full")) n id seed e
no_late false true n id seed e = not_opened (fails 503 (codes "spent")) n id seed e
no_late false false n id seed e = not_opened (fails 503 (codes "memory")) n id seed e

pub openings_are : OpeningsAre
openings_are limit h drawn no_lack n id seed e =
    by_tests limit h drawn n id seed (leb limit (live_count h)) (leb 1000000 (length (identifiers_in h))) (was_opened drawn.id h) refl refl refl e
openings_are limit h drawn early n id seed e = absurd (not_opened (fails 503 (codes "memory")) n id seed e)
openings_are limit h drawn late n id seed e = absurd (no_late (leb limit (live_count h)) (leb 1000000 (length (identifiers_in h))) n id seed e)

-- ---- what is asked decides of which kind the decision may be

batch_opens_none : (n : ℕ) (h : List Recorded) (s : Standing) (b : Contents) (d : BatchDecision) → Opening (on_batch_of n h s b d) → ⊥
batch_opens_none n h s b on_batch.Repeat p = p
batch_opens_none n h s b on_batch.Gone p = p
batch_opens_none n h s b on_batch.Busy p = p
batch_opens_none n h s b on_batch.Old p = p
batch_opens_none n h s b on_batch.Gap p = p
batch_opens_none n h s b on_batch.Admit p = p

batch_to_opens_none : (n : ℕ) (h : List Recorded) (s : Option Standing) (b : Option Contents) → Opening (on_batch_to n h s b) → ⊥
batch_to_opens_none n h None b p = p
batch_to_opens_none n h (Some s) None p = p
batch_to_opens_none n h (Some s) (Some b) p = batch_opens_none n h s b (batch_decision s b.number) p

named_opens_none : (h : List Recorded) (o : Option ℕ) (b : Option Contents) → Opening (for_session o (λ n. on_batch_to n h (standing_of n h) b)) → ⊥
named_opens_none h None b p = p
named_opens_none h (Some n) b p = batch_to_opens_none n h (standing_of n h) b p

close_is_neither : (n : ℕ) (s : Standing) (d : CloseDecision) → (Opening (on_close_of n s d) → ⊥) × (Admitting (on_close_of n s d) → ⊥)
close_is_neither n s on_close.Gone = (λ p. p, λ p. p)
close_is_neither n s on_close.Busy = (λ p. p, λ p. p)
close_is_neither n s on_close.Close = (λ p. p, λ p. p)

close_to_is_neither : (n : ℕ) (s : Option Standing) → (Opening (on_close_to n s) → ⊥) × (Admitting (on_close_to n s) → ⊥)
close_to_is_neither n None = (λ p. p, λ p. p)
close_to_is_neither n (Some s) = close_is_neither n s (close_decision s)

quit_is_neither : (h : List Recorded) (o : Option ℕ)
    → (Opening (for_session o (λ n. on_close_to n (standing_of n h))) → ⊥) × (Admitting (for_session o (λ n. on_close_to n (standing_of n h))) → ⊥)
quit_is_neither h None = (λ p. p, λ p. p)
quit_is_neither h (Some n) = close_to_is_neither n (standing_of n h)

page_admits_none : (limit : ℕ) (h : List Recorded) (drawn : Drawn) (lack : Lack) → Admitting (decide limit h page drawn lack) → ⊥
page_admits_none limit h drawn early p = p
page_admits_none limit h drawn no_lack p = by (leb limit (live_count h)) (leb 1000000 (length (identifiers_in h))) (was_opened drawn.id h) p
  where
    by : (full spent clash : Bool)
        → Admitting (cond full (fails 503 (codes "full")) (cond spent (fails 503 (codes "spent")) (cond clash (fails 503 (codes "clash")) (opens (length (identifiers_in h) + 1) drawn.id drawn.seed)))) → ⊥
    by true spent clash q = q
    by false true clash q = q
    by false false true q = q
    by false false false q = q
page_admits_none limit h drawn late p = by (leb limit (live_count h)) (leb 1000000 (length (identifiers_in h))) p
  where
    by : (full spent : Bool) → Admitting (cond full (fails 503 (codes "full")) (cond spent (fails 503 (codes "spent")) (fails 503 (codes "memory")))) → ⊥
    by true spent q = q
    by false true q = q
    by false false q = q

-- a session is opened only where the page is asked for
pub opened_is_new : (limit : ℕ) (h : List Recorded) (asked : Asked) (drawn : Drawn) (lack : Lack) (n id seed : ℕ)
    → decide limit h asked drawn lack ≡ opens n id seed → IsNewSession limit h drawn n id seed
opened_is_new limit h page drawn lack n id seed e = openings_are limit h drawn lack n id seed e
opened_is_new limit h (batch name b) drawn no_lack n id seed e =
    absurd (named_opens_none h (named_by name h) b (not_opened (decide limit h (batch name b) drawn no_lack) n id seed e))
opened_is_new limit h (batch name b) drawn early n id seed e = absurd (not_opened (decide limit h (batch name b) drawn early) n id seed e)
opened_is_new limit h (batch name b) drawn late n id seed e = absurd (not_opened (decide limit h (batch name b) drawn late) n id seed e)
opened_is_new limit h (quit name) drawn no_lack n id seed e =
    let neither = quit_is_neither h (named_by name h) in
    absurd (neither.0 (not_opened (decide limit h (quit name) drawn no_lack) n id seed e))
opened_is_new limit h (quit name) drawn early n id seed e = absurd (not_opened (decide limit h (quit name) drawn early) n id seed e)
opened_is_new limit h (quit name) drawn late n id seed e = absurd (not_opened (decide limit h (quit name) drawn late) n id seed e)

-- a batch is admitted only where it was asked for
pub admitted_is_ready : (limit : ℕ) (h : List Recorded) (asked : Asked) (drawn : Drawn) (lack : Lack) (n : ℕ) (b : Contents)
    → decide limit h asked drawn lack ≡ admits n b → IsReadyFor h n b.number
admitted_is_ready limit h page drawn lack n b e = absurd (page_admits_none limit h drawn lack (not_admitted (decide limit h page drawn lack) n b e))
admitted_is_ready limit h (batch name asked) drawn lack n b e =
    let a = admissions_are limit h name asked drawn lack n b e in
    let s = a.standing in
    record { standing = s; stands = a.stands; admits = (admits_next s b.number).1 (a.lives, a.idle, a.next) }
admitted_is_ready limit h (quit name) drawn no_lack n b e =
    let neither = quit_is_neither h (named_by name h) in
    absurd (neither.1 (not_admitted (decide limit h (quit name) drawn no_lack) n b e))
admitted_is_ready limit h (quit name) drawn early n b e = absurd (not_admitted (decide limit h (quit name) drawn early) n b e)
admitted_is_ready limit h (quit name) drawn late n b e = absurd (not_admitted (decide limit h (quit name) drawn late) n b e)
