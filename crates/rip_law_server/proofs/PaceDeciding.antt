-- What is decided on the requests of a client that keeps pace.
use Rattle.std.proofs.Common.{◌≡◌, ℕ, ◌+◌, ◌-◌, Bool, true, false, cond, not, ◌&&◌, eqb, ltb, leb, List, [], ◌∷◌, ◌++◌, length, Option, Some, None, refl, sym, ap, ◌∙◌, subst, append-nil, append_assoc, length-append}
use Rattle.std.specs.Prelude.{codes, is_none}
use Rattle.std.specs.List.{cons_option}
use Rattle.std.proofs.lemmas.Bool.{false≢true, eqb-true, eq-eqb}
use Rattle.rip_wire.specs.Batches.{Contents}
use Rattle.rip_wire.specs.declared.ending.Reason.{Reason}
use Rattle.rip_log.specs.Entries.{Recorded, admitted}
use Rattle.rip_history.specs.Course.{Handled, decided_entries}
use Rattle.rip_history.specs.Decisions.{batch_decision, close_decision}
use Rattle.rip_history.specs.Parts.{Meaning}
use Rattle.rip_history.specs.Requests.{Asked, page, batch, quit, Drawn, Lack, no_lack, early, late, Decision, answers, opens, admits, closes, decide, fails, for_session, identifiers_in, live_count, named_by, on_batch_of, on_batch_to, on_close_of, on_close_to, was_opened}
use Rattle.rip_history.specs.Sessions.{batches_in}
use Rattle.rip_history.specs.Stages.{Stage}
use Rattle.rip_history.specs.Standings.{has_done, is_busy, standing_of}
use Rattle.rip_history.specs.declared.decision.BatchDecision.TheVariants as on_batch
use Rattle.rip_history.specs.declared.decision.CloseDecision.{CloseDecision}
use Rattle.rip_history.specs.declared.decision.CloseDecision.TheVariants as on_close
use Rattle.rip_history.specs.declared.standing.Standing.{Standing}
use Rattle.rip_history.proofs.DecisionLemmas.{admits_next, closes_idle}
use Rattle.rip_history.proofs.RequestLemmas.{Admitting, admissions_are, not_admitted}
use Rattle.rip_law_history.proofs.ViewLemmas.{Seen, seen_join}
use Rattle.rip_law_server.specs.Paced.{IsDecided, IsInPace, IsMet, Request, Wish, batch_told, closing, count_behind, ends, handles, is_session, nothing, request_of, wish_in, wish_read}
use Rattle.rip_law_server.specs.Paced as paced
use Rattle.rip_law_server.proofs.Idle.{Told, told_idle}

-- ---- one request

abbrev asking : Asked → Drawn → Lack → Handled
asking asked drawn lack = record { asked = asked; drawn = drawn; lack = lack }

gone_batch : (s : Standing) (number : ℕ) (reason : Reason) → s.ended ≡ Some reason → batch_decision s number ≡ on_batch.Gone
gone_batch s number reason e =
    ap (λ (o : Option Reason). cond (is_none o && has_done s.done number) on_batch.Repeat
    (cond (not (is_none o)) on_batch.Gone (cond (is_busy s) on_batch.Busy (cond (ltb number s.last) on_batch.Old (cond (ltb 1 (number - s.last)) on_batch.Gap on_batch.Admit))))) e

gone_close : (s : Standing) (reason : Reason) → s.ended ≡ Some reason → close_decision s ≡ on_close.Gone
gone_close s reason e =
    ap (λ (o : Option Reason). cond (not (is_none o)) on_close.Gone (cond (is_busy s) on_close.Busy on_close.Close)) e

-- a batch that is the next, of a session whose last is done
batch_decided : (limit n : ℕ) (h : List Recorded) (id : Option ℕ) (b : Contents) (drawn : Drawn) (lack : Lack) (s : Standing) (o : Option Reason)
    → named_by id h ≡ Some n → standing_of n h ≡ Some s → s.done ≡ Some s.last → b.number ≡ s.last + 1 → s.ended ≡ o
    → IsDecided n (request_of limit h (asking (batch id (Some b)) drawn lack)) (admits n b)
batch_decided limit n h id b drawn early s o named stands done next is = paced.wants (λ e. (let f : early ≡ no_lack = e in cc)) refl
batch_decided limit n h id b drawn late s o named stands done next is = paced.wants (λ e. (let f : late ≡ no_lack = e in cc)) refl
batch_decided limit n h id b drawn no_lack s None named stands done next is =
    paced.so
    (ap (λ (k : Option ℕ). for_session k (λ j. on_batch_to j h (standing_of j h) (Some b))) named
    ∙ ap (λ (t : Option Standing). on_batch_to n h t (Some b)) stands
    ∙ ap (on_batch_of n h s b) ((admits_next s b.number).1 (is, done, next)))
batch_decided limit n h id b drawn no_lack s (Some reason) named stands done next is =
    paced.over s reason stands is
    (ap (λ (k : Option ℕ). for_session k (λ j. on_batch_to j h (standing_of j h) (Some b))) named
    ∙ ap (λ (t : Option Standing). on_batch_to n h t (Some b)) stands
    ∙ ap (on_batch_of n h s b) (gone_batch s b.number reason is))

-- the end of a session whose last batch is done
close_decided : (limit n count : ℕ) (h : List Recorded) (id : Option ℕ) (drawn : Drawn) (lack : Lack) (s : Standing) (o : Option Reason)
    → named_by id h ≡ Some n → standing_of n h ≡ Some s → s.done ≡ Some s.last → s.last ≡ count → s.ended ≡ o
    → IsDecided n (request_of limit h (asking (quit id) drawn lack)) (closing n count)
close_decided limit n count h id drawn early s o named stands done last is = paced.wants (λ e. (let f : early ≡ no_lack = e in cc)) refl
close_decided limit n count h id drawn late s o named stands done last is = paced.wants (λ e. (let f : late ≡ no_lack = e in cc)) refl
close_decided limit n count h id drawn no_lack s None named stands done last is =
    paced.so
    (ap (λ (k : Option ℕ). for_session k (λ j. on_close_to j (standing_of j h))) named
    ∙ ap (on_close_to n) stands
    ∙ ap (on_close_of n s) ((closes_idle s).1 (is, done))
    ∙ ap (closing n) last)
close_decided limit n count h id drawn no_lack s (Some reason) named stands done last is =
    paced.over s reason stands is
    (ap (λ (k : Option ℕ). for_session k (λ j. on_close_to j (standing_of j h))) named
    ∙ ap (on_close_to n) stands
    ∙ ap (on_close_of n s) (gone_close s reason is))

session_is : (n : ℕ) (o : Option ℕ) → is_session n o ≡ true → o ≡ Some n
session_is n None e = absurd (false≢true e)
session_is n (Some k) e = ap Some (eqb-true k n e)

-- where memory was wanting before a request was read, that is answered
early_fails : (limit : ℕ) (h : List Recorded) (asked : Asked) (drawn : Drawn) → decide limit h asked drawn early ≡ fails 503 (codes "memory")
early_fails limit h page drawn = refl
early_fails limit h (batch id b) drawn = refl
early_fails limit h (quit id) drawn = refl

none_met : (limit n count : ℕ) (h : List Recorded) (asked : Asked) (drawn : Drawn) (lack : Lack) → IsMet n count (request_of limit h (asking asked drawn lack)) nothing
none_met limit n count h asked drawn lack is = ap (decide limit h asked drawn) is ∙ early_fails limit h asked drawn

-- a request in pace that was read is met
read_met : (m : Meaning) (u limit n count : ℕ) (h : List Recorded) (stages : List Stage) (told : List Contents) → Told m u n h stages count told
    → (asked : Asked) (drawn : Drawn) (lack : Lack) → IsInPace n count h (wish_in n h asked)
    → IsMet n count (request_of limit h (asking asked drawn lack)) (wish_in n h asked)
read_met m u limit n count h stages told w page drawn lack pace = none_met limit n count h page drawn lack
read_met m u limit n count h stages told w (batch id b) drawn lack pace = by (is_session n (named_by id h)) refl b pace
  where
    by : (t : Bool) → is_session n (named_by id h) ≡ t → (o : Option Contents) → IsInPace n count h (cond t (handles o) nothing)
        → IsMet n count (request_of limit h (asking (batch id o) drawn lack)) (cond t (handles o) nothing)
    by true e None p = tt
    by true e (Some c) p =
        let i = told_idle m u n h stages count told w p.1 in
        let s = i.standing in
        batch_decided limit n h id c drawn lack s s.ended (session_is n (named_by id h) e) i.stands i.done (p.0 ∙ ap (λ (k : ℕ). k + 1) (sym i.last)) refl
    by false e o p = none_met limit n count h (batch id o) drawn lack
read_met m u limit n count h stages told w (quit id) drawn lack pace = by (is_session n (named_by id h)) refl
  where
    by : (t : Bool) → is_session n (named_by id h) ≡ t → IsMet n count (request_of limit h (asking (quit id) drawn lack)) (cond t ends nothing)
    by true e = λ done.
        let i = told_idle m u n h stages count told w done in
        let s = i.standing in
        close_decided limit n count h id drawn lack s s.ended (session_is n (named_by id h) e) i.stands i.done i.last refl
    by false e = none_met limit n count h (quit id) drawn lack

-- a request in pace is met
pub request_met : (m : Meaning) (u limit n count : ℕ) (h : List Recorded) (stages : List Stage) (told : List Contents) → Told m u n h stages count told
    → (asked : Asked) (drawn : Drawn) (lack : Lack) → IsInPace n count h (wish_read lack (wish_in n h asked))
    → IsMet n count (request_of limit h (asking asked drawn lack)) (wish_read lack (wish_in n h asked))
request_met m u limit n count h stages told w asked drawn no_lack pace = read_met m u limit n count h stages told w asked drawn no_lack pace
request_met m u limit n count h stages told w asked drawn early pace = none_met limit n count h asked drawn early
request_met m u limit n count h stages told w asked drawn late pace = read_met m u limit n count h stages told w asked drawn late pace

-- ---- the batches

page_admits_none : (limit : ℕ) (h : List Recorded) (drawn : Drawn) (lack : Lack) → Admitting (decide limit h page drawn lack) → ⊥
page_admits_none limit h drawn early p = p
page_admits_none limit h drawn no_lack p = by (leb limit (live_count h)) (leb 1000000 (length (identifiers_in h))) (was_opened drawn.id h) p
  where
    by : (full spent clash : Bool)
        → Admitting (cond full (fails 503 (codes "full")) (cond spent (fails 503 (codes "spent")) (cond clash (fails 503 (codes "clash")) (opens (length (identifiers_in h) + 1) drawn.id drawn.seed)))) → ⊥
    by true spent clash q = q
    by false true clash q = q
    by false false true q = q
    by false false false q = q
page_admits_none limit h drawn late p = by (leb limit (live_count h)) (leb 1000000 (length (identifiers_in h))) p
  where
    by : (full spent : Bool) → Admitting (cond full (fails 503 (codes "full")) (cond spent (fails 503 (codes "spent")) (fails 503 (codes "memory")))) → ⊥
    by true spent q = q
    by false true q = q
    by false false q = q

close_admits_none : (n : ℕ) (s : Standing) (d : CloseDecision) → Admitting (on_close_of n s d) → ⊥
close_admits_none n s on_close.Gone p = p
close_admits_none n s on_close.Busy p = p
close_admits_none n s on_close.Close p = p

close_to_admits_none : (n : ℕ) (s : Option Standing) → Admitting (on_close_to n s) → ⊥
close_to_admits_none n None p = p
close_to_admits_none n (Some s) p = close_admits_none n s (close_decision s) p

named_admits_none : (h : List Recorded) (o : Option ℕ) → Admitting (for_session o (λ n. on_close_to n (standing_of n h))) → ⊥
named_admits_none h None p = p
named_admits_none h (Some n) p = close_to_admits_none n (standing_of n h) p

quit_admits_none : (limit : ℕ) (h : List Recorded) (id : Option ℕ) (drawn : Drawn) (lack : Lack) → Admitting (decide limit h (quit id) drawn lack) → ⊥
quit_admits_none limit h id drawn early p = p
quit_admits_none limit h id drawn late p = p
quit_admits_none limit h id drawn no_lack p = named_admits_none h (named_by id h) p

early_admits_none : (limit : ℕ) (h : List Recorded) (asked : Asked) (drawn : Drawn) → Admitting (decide limit h asked drawn early) → ⊥
early_admits_none limit h page drawn p = p
early_admits_none limit h (batch id b) drawn p = p
early_admits_none limit h (quit id) drawn p = p

wished_told : (limit n : ℕ) (h : List Recorded) (asked : Asked) (drawn : Drawn) (lack : Lack) (b : Contents)
    → decide limit h asked drawn lack ≡ admits n b → wish_in n h asked ≡ handles (Some b)
wished_told limit n h page drawn lack b e = absurd (page_admits_none limit h drawn lack (not_admitted (decide limit h page drawn lack) n b e))
wished_told limit n h (quit id) drawn lack b e = absurd (quit_admits_none limit h id drawn lack (not_admitted (decide limit h (quit id) drawn lack) n b e))
wished_told limit n h (batch id o) drawn lack b e =
    let a = admissions_are limit h id o drawn lack n b e in
    ap (λ (k : Option ℕ). cond (is_session n k) (handles o) nothing) a.session
    ∙ ap (λ (t : Bool). cond t (handles o) nothing) (eq-eqb n n refl)
    ∙ ap handles a.asked_for

-- a batch that is admitted to the session was told to it
pub admitted_told : (limit n : ℕ) (h : List Recorded) (asked : Asked) (drawn : Drawn) (lack : Lack) (b : Contents)
    → decide limit h asked drawn lack ≡ admits n b → wish_read lack (wish_in n h asked) ≡ handles (Some b)
admitted_told limit n h asked drawn no_lack b e = wished_told limit n h asked drawn no_lack b e
admitted_told limit n h asked drawn early b e = absurd (early_admits_none limit h asked drawn (not_admitted (decide limit h asked drawn early) n b e))
admitted_told limit n h asked drawn late b e = wished_told limit n h asked drawn late b e

-- the batches that were told by a request
abbrev pub told_by : Wish → List Contents
told_by w = cons_option (batch_told w) []

batches_more : (n : ℕ) (h es : List Recorded) → batches_in n (h ++ es) ≡ batches_in n h ++ batches_in n es
batches_more n h es = ap (λ (v : Seen). v.batches) (seen_join n h es)

-- the session's batches are the first of those that were told, behind the request too
pub front_after : (m : Meaning) (u limit moment n count : ℕ) (h : List Recorded) (stages : List Stage) (told : List Contents) → Told m u n h stages count told
    → (asked : Asked) (drawn : Drawn) (lack : Lack) → IsInPace n count h (wish_read lack (wish_in n h asked))
    → (d : Decision) → decide limit h asked drawn lack ≡ d
    → (more : List Contents) × (told ++ told_by (wish_read lack (wish_in n h asked)) ≡ batches_in n (h ++ decided_entries (u + 1) moment d) ++ more)
front_after m u limit moment n count h stages told w asked drawn lack pace d e = by d e
  where
    wish : Wish
    wish = wish_read lack (wish_in n h asked)

    same : (es : List Recorded) → batches_in n es ≡ [] → (more : List Contents) × (told ++ told_by wish ≡ batches_in n (h ++ es) ++ more)
    same es none = (
      w.more ++ told_by wish,
      ap (λ (bs : List Contents). bs ++ told_by wish) w.front
          ∙ append_assoc (batches_in n h) w.more (told_by wish)
          ∙ ap (λ (bs : List Contents). bs ++ (w.more ++ told_by wish))
          (sym (batches_more n h es ∙ ap (λ (bs : List Contents). batches_in n h ++ bs) none ∙ append-nil (batches_in n h))),
    )

    next : (b : Contents) → wish ≡ handles (Some b) → (es : List Recorded) → batches_in n es ≡ b ∷ []
        → (more : List Contents) × (told ++ told_by wish ≡ batches_in n (h ++ es) ++ more)
    next b is es one =
        let p : IsInPace n count h (handles (Some b)) = subst (IsInPace n count h) is pace in
        let i = told_idle m u n h stages count told w p.1 in (
          [],
          ap (λ (x : Wish). told ++ told_by x) is
              ∙ ap (λ (bs : List Contents). bs ++ b ∷ []) i.all
              ∙ sym (append-nil (batches_in n (h ++ es)) ∙ batches_more n h es ∙ ap (λ (bs : List Contents). batches_in n h ++ bs) one),
        )

    admission : (k : ℕ) (b : Contents) (t : Bool) → eqb k n ≡ t → decide limit h asked drawn lack ≡ admits k b
        → (more : List Contents) × (told ++ told_by wish ≡ batches_in n (h ++ admitted (u + 1) k b ∷ []) ++ more)
    admission k b true own is =
        next b (admitted_told limit n h asked drawn lack b (is ∙ ap (λ (j : ℕ). admits j b) (eqb-true k n own))) (admitted (u + 1) k b ∷ [])
        (ap (λ (t : Bool). cond t (b ∷ []) []) own)
    admission k b false other is = same (admitted (u + 1) k b ∷ []) (ap (λ (t : Bool). cond t (b ∷ []) []) other)

    by : (d : Decision) → decide limit h asked drawn lack ≡ d
        → (more : List Contents) × (told ++ told_by wish ≡ batches_in n (h ++ decided_entries (u + 1) moment d) ++ more)
    by (answers code body) is = same (decided_entries (u + 1) moment (answers code body)) refl
    by (opens k id seed) is = same (decided_entries (u + 1) moment (opens k id seed)) refl
    by (admits k b) is = admission k b (eqb k n) refl is
    by (closes k body) is = same (decided_entries (u + 1) moment (closes k body)) refl

-- so many were told then
pub size_after : (n count : ℕ) (h : List Recorded) (told : List Contents) (w : Wish) → IsInPace n count h w → length told ≡ count
    → length (told ++ told_by w) ≡ count_behind count w
size_after n count h told nothing pace size = ap length (append-nil told) ∙ size
size_after n count h told (handles None) pace size = absurd pace
size_after n count h told (handles (Some b)) pace size = length-append told (b ∷ []) ∙ ap (λ (k : ℕ). k + 1) size
size_after n count h told ends pace size = ap length (append-nil told) ∙ size
