-- What is known of the openings and the batches of a history: when they were admitted, and that batches are in range.
use Rattle.std.proofs.Common.{◌≡◌, ◌⊎◌, inl, inr, ℕ, ◌+◌, ◌≤◌, Bool, true, false, cond, eqb, leb, List, [], ◌∷◌, length, Option, Some, None, refl, sym, subst, arith}
use Rattle.std.specs.Prelude.{codes, ⊤}
use Rattle.std.specs.List.{AllByRecursion}
use Rattle.rip_http.specs.declared.request.Message.{Message}
use Rattle.rip_http.specs.declared.request.Route.{Route}
use Rattle.rip_http.specs.declared.request.Route.TheVariants.{Page, Events, Quit}
use Rattle.rip_wire.specs.Batches.{Contents, IsBatch}
use Rattle.rip_log.specs.Entries.{Recorded, opened, admitted, served, done, closed, ended}
use Rattle.rip_history.specs.Connections.{Connection}
use Rattle.rip_history.specs.Course.{decided_entries, IsMadeIn}
use Rattle.rip_history.specs.Decisions.{batch_decision, close_decision}
use Rattle.rip_history.specs.declared.decision.BatchDecision.{BatchDecision}
use Rattle.rip_history.specs.declared.decision.BatchDecision.TheVariants as on_batch
use Rattle.rip_history.specs.declared.decision.CloseDecision.{CloseDecision}
use Rattle.rip_history.specs.declared.decision.CloseDecision.TheVariants as on_close
use Rattle.rip_history.specs.declared.standing.Standing.{Standing}
use Rattle.rip_history.specs.Requests.{Asked, page, batch, quit, Says, AsksAt, Asks, Decision, answers, opens, admits, closes, identifiers_in, was_opened, live_count, Lack, no_lack, early, late, Drawn, fails, on_drawn, on_batch_of, on_batch_to, on_close_of, on_close_to, for_session, named_by, decide}
use Rattle.rip_history.specs.Run.{Site, State, busy_in, Arrived, refused, message, Handling, IsAsked, IsFirst, AreHandledSo, after_arrived, after_handling, after_handlings, Coming, handled_at, after_turn, IsTurn}
use Rattle.rip_history.specs.Sessions.{batches_in, turns_in}
use Rattle.rip_history.specs.Standings.{standing_of}
use Rattle.rip_law_history.specs.Legal.{made_in}
use Rattle.rip_law_history.proofs.EntryLemmas.{advanced_history}
use Rattle.rip_law_history.proofs.WholeMadeLemmas.{all-join, all-maps, advanced_made}

-- ---- what is known of an entry

-- a session that was opened, or a batch, which is in range, that was admitted, in a turn from which on it goes so many turns at
-- most, is done by this turn
abbrev pub IsTimed : ℕ → ℕ → Recorded → Type 0
IsTimed most by (opened turn session id seed time) = turn + most ≤ by
IsTimed most by (admitted turn session b) = (turn + most ≤ by) × IsBatch b
IsTimed most by (served turn session number k name args time reply) = ⊤
IsTimed most by (done turn session number how) = ⊤
IsTimed most by (closed turn session) = ⊤
IsTimed most by (ended turn status) = ⊤

abbrev pub AreTimed : ℕ → ℕ → List Recorded → Type 0
AreTimed most by h = AllByRecursion (IsTimed most by) h

later : (most by more : ℕ) → by ≤ more → (e : Recorded) → IsTimed most by e → IsTimed most more e
later most by more le (opened turn session id seed time) k = omega (arith, le, k)
later most by more le (admitted turn session b) k = (omega (arith, le, k.0), k.1)
later most by more le (served turn session number j name args time reply) k = tt
later most by more le (done turn session number how) k = tt
later most by more le (closed turn session) k = tt
later most by more le (ended turn status) k = tt

pub timed_later : (most by more : ℕ) (h : List Recorded) → by ≤ more → AreTimed most by h → AreTimed most more h
timed_later most by more h le k = all-maps (IsTimed most by) (IsTimed most more) (later most by more le) h k

pushed : (P : Contents → Type 0) (t : Bool) (b : Contents) (bs : List Contents) → P b → AllByRecursion P bs → AllByRecursion P (cond t (b ∷ bs) bs)
pushed P true b bs p all = (p, all)
pushed P false b bs p all = all

pushed-turn : (P : ℕ → Type 0) (t : Bool) (a : ℕ) (turns : List ℕ) → P a → AllByRecursion P turns → AllByRecursion P (cond t (a ∷ turns) turns)
pushed-turn P true a turns p all = (p, all)
pushed-turn P false a turns p all = all

-- so the batches of each session are in range
pub batches_range : (most by n : ℕ) (h : List Recorded) → AreTimed most by h → AllByRecursion IsBatch (batches_in n h)
batches_range most by n [] k = tt
batches_range most by n (opened turn session id seed time ∷ h) k = batches_range most by n h k.1
batches_range most by n (admitted turn session b ∷ h) k =
    pushed IsBatch (eqb session n) b (batches_in n h) k.0.1 (batches_range most by n h k.1)
batches_range most by n (served turn session number j name args time reply ∷ h) k = batches_range most by n h k.1
batches_range most by n (done turn session number how ∷ h) k = batches_range most by n h k.1
batches_range most by n (closed turn session ∷ h) k = batches_range most by n h k.1
batches_range most by n (ended turn status ∷ h) k = batches_range most by n h k.1

-- and were admitted in such turns
pub turns_timed : (most by n : ℕ) (h : List Recorded) → AreTimed most by h → AllByRecursion (λ (a : ℕ). a + most ≤ by) (turns_in n h)
turns_timed most by n [] k = tt
turns_timed most by n (opened turn session id seed time ∷ h) k =
    pushed-turn (λ (a : ℕ). a + most ≤ by) (eqb session n) turn (turns_in n h) k.0 (turns_timed most by n h k.1)
turns_timed most by n (admitted turn session b ∷ h) k =
    pushed-turn (λ (a : ℕ). a + most ≤ by) (eqb session n) turn (turns_in n h) k.0.0 (turns_timed most by n h k.1)
turns_timed most by n (served turn session number j name args time reply ∷ h) k = turns_timed most by n h k.1
turns_timed most by n (done turn session number how ∷ h) k = turns_timed most by n h k.1
turns_timed most by n (closed turn session ∷ h) k = turns_timed most by n h k.1
turns_timed most by n (ended turn status ∷ h) k = turns_timed most by n h k.1

-- ---- a batch that is admitted is in range

abbrev AdmitsRange : Decision → Type 0
AdmitsRange (answers code body) = ⊤
AdmitsRange (opens n id seed) = ⊤
AdmitsRange (admits n b) = IsBatch b
AdmitsRange (closes n body) = ⊤

fresh-range : (n id seed : ℕ) (a b c : Bool)
    → AdmitsRange (cond a (fails 503 (codes "full")) (cond b (fails 503 (codes "spent")) (cond c (fails 503 (codes "clash")) (opens n id seed))))
fresh-range n id seed true b c = tt
fresh-range n id seed false true c = tt
fresh-range n id seed false false true = tt
fresh-range n id seed false false false = tt

late-range : (h : List Recorded) (drawn : Drawn) (a b : Bool)
    → AdmitsRange (cond a (fails 503 (codes "full")) (cond b (fails 503 (codes "spent")) (on_drawn h drawn late)))
late-range h drawn true b = tt
late-range h drawn false true = tt
late-range h drawn false false = tt

batch-by : (h : List Recorded) (n : ℕ) (s : Standing) (b : Contents) → IsBatch b → (d : BatchDecision) → AdmitsRange (on_batch_of n h s b d)
batch-by h n s b range on_batch.Repeat = tt
batch-by h n s b range on_batch.Gone = tt
batch-by h n s b range on_batch.Busy = tt
batch-by h n s b range on_batch.Old = tt
batch-by h n s b range on_batch.Gap = tt
batch-by h n s b range on_batch.Admit = range

batch-to : (h : List Recorded) (n : ℕ) (o : Option Standing) (b : Option Contents) → ((c : Contents) → b ≡ Some c → IsBatch c) → AdmitsRange (on_batch_to n h o b)
batch-to h n None b range = tt
batch-to h n (Some s) None range = tt
batch-to h n (Some s) (Some b) range = batch-by h n s b (range b refl) (batch_decision s b.number)

batch-for : (h : List Recorded) (o : Option ℕ) (b : Option Contents) → ((c : Contents) → b ≡ Some c → IsBatch c)
    → AdmitsRange (for_session o (λ n. on_batch_to n h (standing_of n h) b))
batch-for h None b range = tt
batch-for h (Some n) b range = batch-to h n (standing_of n h) b range

close-by : (n : ℕ) (s : Standing) (d : CloseDecision) → AdmitsRange (on_close_of n s d)
close-by n s on_close.Gone = tt
close-by n s on_close.Busy = tt
close-by n s on_close.Close = tt

close-to : (n : ℕ) (o : Option Standing) → AdmitsRange (on_close_to n o)
close-to n None = tt
close-to n (Some s) = close-by n s (close_decision s)

close-for : (h : List Recorded) (o : Option ℕ) → AdmitsRange (for_session o (λ n. on_close_to n (standing_of n h)))
close-for h None = tt
close-for h (Some n) = close-to n (standing_of n h)

asked-range : (r : Route) (segment body : List ℕ) (id : Option ℕ) (b : Option Contents) (c : Contents) → AsksAt r segment body (batch id b) → b ≡ Some c → IsBatch c
asked-range Page segment body id b c asks e = absurd cc
asked-range Events segment body id b c (other, says, is) e =
    let same : other ≡ Some c = cc in
    let spells = subst (Says body) same says in
    spells.in_range
asked-range Quit segment body id b c asks e = absurd cc

decided-range : (limit : ℕ) (h : List Recorded) (m : Message) (a : Asked) (l : Lack) (drawn : Drawn) → (l ≡ early) ⊎ Asks m a → AdmitsRange (decide limit h a drawn l)
decided-range limit h m page no_lack drawn asks =
    fresh-range (length (identifiers_in h) + 1) drawn.id drawn.seed (leb limit (live_count h)) (leb 1000000 (length (identifiers_in h))) (was_opened drawn.id h)
decided-range limit h m page early drawn asks = tt
decided-range limit h m page late drawn asks = late-range h drawn (leb limit (live_count h)) (leb 1000000 (length (identifiers_in h)))
decided-range limit h m (batch id b) no_lack drawn asks = batch-for h (named_by id h) b (λ c e. range asks c e)
  where
    range : (no_lack ≡ early) ⊎ Asks m (batch id b) → (c : Contents) → b ≡ Some c → IsBatch c
    range (inl e) c f = absurd cc
    range (inr asks) c f = asked-range m.route m.segment m.body id b c asks f
decided-range limit h m (batch id b) early drawn asks = tt
decided-range limit h m (batch id b) late drawn asks = tt
decided-range limit h m (quit id) no_lack drawn asks = close-for h (named_by id h)
decided-range limit h m (quit id) early drawn asks = tt
decided-range limit h m (quit id) late drawn asks = tt

-- ---- a turn

entries-timed : (most by turn moment : ℕ) (d : Decision) → turn + most ≤ by → AdmitsRange d → AreTimed most by (decided_entries turn moment d)
entries-timed most by turn moment (answers code body) le k = tt
entries-timed most by turn moment (opens n id seed) le k = (le, tt)
entries-timed most by turn moment (admits n b) le k = ((le, k), tt)
entries-timed most by turn moment (closes n body) le k = (tt, tt)

first-asked : (cs : List Connection) (h : Handling) → IsFirst cs h → IsAsked h.arrived
first-asked [] h k = absurd k
first-asked (c ∷ cs) h (inl at) = at.asked
first-asked (c ∷ cs) h (inr k) = first-asked cs h k.1

arrived-timed : (site : Site) (most by turn moment c size : ℕ) (gone : Bool) (s : State) (a : Arrived) → turn + most ≤ by → IsAsked a → AreTimed most by s.history
    → AreTimed most by (let x = after_arrived site turn moment c size gone s a in x.history)
arrived-timed site most by turn moment c size gone s (refused r) le asked k = k
arrived-timed site most by turn moment c size gone s (message m x) le asked k =
    all-join (IsTimed most by) s.history (decided_entries turn moment (decide site.limit s.history x.asked x.drawn x.lack)) k
    (entries-timed most by turn moment (decide site.limit s.history x.asked x.drawn x.lack) le (decided-range site.limit s.history m x.asked x.lack x.drawn asked))

-- after requests were handled in a turn
pub handled_timed : (site : Site) (most by turn moment : ℕ) (s : State) (hs : List Handling) → turn + most ≤ by → AreHandledSo site turn moment s hs
    → AreTimed most by s.history → AreTimed most by (let x = after_handlings site turn moment s hs in x.history)
handled_timed site most by turn moment s [] le so k = k
handled_timed site most by turn moment s (h ∷ hs) le so k =
    handled_timed site most by turn moment (after_handling site turn moment s h) hs le so.1
    (arrived-timed site most by turn moment h.connection h.size h.gone s h.arrived le (first-asked s.connections.there h so.0) k)

made-timed : (most by turn moment : ℕ) (e : Recorded) → IsMadeIn turn moment e → IsTimed most by e
made-timed most by turn moment (opened t session id seed time) k = absurd k
made-timed most by turn moment (admitted t session b) k = absurd k
made-timed most by turn moment (served t session number j name args time reply) k = tt
made-timed most by turn moment (done t session number how) k = tt
made-timed most by turn moment (closed t session) k = tt
made-timed most by turn moment (ended t status) k = tt

-- what the sessions do changes nothing of it
pub turn_timed : (site : Site) (most by turn : ℕ) (s : State) (t : Coming) → IsTurn site turn s t
    → AreTimed most by (let x = handled_at site turn t s in x.history) → AreTimed most by (let x = after_turn site turn t s in x.history)
turn_timed site most by turn s t is k =
    let x = handled_at site turn t s in
    subst (AreTimed most by) (sym (advanced_history turn x t.advances))
    (all-join (IsTimed most by) x.history (made_in turn t.advances) k
    (all-maps (IsMadeIn turn t.moment) (IsTimed most by) (made-timed most by turn t.moment) (made_in turn t.advances)
    (advanced_made site turn t.moment x (busy_in x.history) t.advances is.advanced)))
