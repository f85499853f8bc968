-- The machine that a server follows: one turn.
use Rattle.std.specs.Prelude.{◌≡◌, ◌≢◌, ◌⊎◌, ℕ, zero, suc, Bool, true, false, List, [], ◌∷◌, ◌++◌, length, drop, slice_get, slice_set, Option, Some, None, if◌then◌else◌}
use Rattle.std.specs.List.{AllByRecursion, filter_map}
use Rattle.rip_http.specs.Answers.{answer_text}
use Rattle.rip_http.specs.Stream.{Next, waits, refuses, takes, IsNext}
use Rattle.rip_http.specs.declared.request.Message.{Message}
use Rattle.rip_http.specs.declared.request.RefusedHead.{RefusedHead}
use Rattle.rip_http.specs.declared.answer.HttpAnswer.{HttpAnswer}
use Rattle.rip_outer.specs.declared.connections.TraceKnock.{TraceKnock}
use Rattle.rip_wire.specs.Batches.{Contents}
use Rattle.rip_wire.specs.declared.ending.Ending.{Ending}
use Rattle.rip_log.specs.Entries.{Recorded, opened, admitted, served, done, closed, ended}
use Rattle.rip_history.specs.Answering.{refusal_answer, decided_answer, decided_owed, batch_answer}
use Rattle.rip_history.specs.Connections.{Act, all_put, Connection, Connections, no_connections, changed, owing, after_knock, knock_acts, answer_acts, after_answer}
use Rattle.rip_history.specs.Course.{Handled, decided_entries, HandledDraw}
use Rattle.rip_history.specs.Parts.{Part, Given, Meaning}
use Rattle.rip_history.specs.Requests.{Asks, early, Decision, answers, opens, admits, closes, decide, identifiers_in}
use Rattle.rip_history.specs.Services.{Called, Service, given_by, served_entries}
use Rattle.rip_history.specs.Stages.{Stage, begun, with_batch, GoesOn, IsProgress}
use Rattle.rip_history.specs.Standings.{is_busy, standing_of}
use Rattle.rip_history.specs.declared.sessions.Progress.{Progress}
use Rattle.rip_history.specs.declared.sessions.Progress.TheVariants.{Busy, Finished}
use Rattle.rip_history.specs.declared.standing.Standing.{Standing}

-- what a server serves: what its sessions do, what replies to their calls, how many sessions may live, and the bytes of
-- the page
pub record Site : Type 0 where
  pub meaning : Meaning
  pub service : Service
  pub limit : ℕ
  pub page : List ℕ

-- how a server stands: its connections, the history so far, and how far each session went, by its ordinal
pub record State : Type 0 where
  pub connections : Connections
  pub history : List Recorded
  pub stages : List Stage

-- as it begins
abbrev pub first_state : State
first_state = record { connections = no_connections; history = []; stages = [] }

-- ---- sessions

-- how far the session of an ordinal went: ordinals are counted from 1
abbrev pub stage_of : ℕ → List Stage → Option Stage
stage_of zero stages = None
stage_of (suc n) stages = slice_get stages n

abbrev pub with_stage : ℕ → Stage → List Stage → List Stage
with_stage zero st stages = stages
with_stage (suc n) st stages = slice_set stages n st

-- a batch of the session is not done
abbrev pub is_busy_in : Option Standing → Bool
is_busy_in None = false
is_busy_in (Some s) = is_busy s

-- the ordinals of the busy sessions up to this one
abbrev pub busy_up_to : ℕ → List Recorded → List ℕ
busy_up_to zero h = []
busy_up_to (suc n) h = busy_up_to n h ++ (if is_busy_in (standing_of (suc n) h) then suc n ∷ [] else [])

-- the ordinals of the busy sessions
abbrev pub busy_in : List Recorded → List ℕ
busy_in h = busy_up_to (length (identifiers_in h)) h

-- the calls that were served
abbrev pub called_so_far : List Recorded → List Called
called_so_far [] = []
called_so_far (opened turn session id seed time ∷ h) = called_so_far h
called_so_far (admitted turn session b ∷ h) = called_so_far h
called_so_far (served turn session number k name args time reply ∷ h) = (name, args) ∷ called_so_far h
called_so_far (done turn session number how ∷ h) = called_so_far h
called_so_far (closed turn session ∷ h) = called_so_far h
called_so_far (ended turn status ∷ h) = called_so_far h

-- ---- a request is handled

-- what is handled: a head that is refused; or a message, with what it asks, the words that would be drawn, and want of
-- memory
pub data Arrived : Type 0 where
  refused : RefusedHead → Arrived
  message : Message → Handled → Arrived

-- on which connection, how many bytes it has there, and whether its answer, if it is answered at once, finds the
-- connection gone
pub record Handling : Type 0 where
  pub connection : ℕ
  pub size : ℕ
  pub arrived : Arrived
  pub gone : Bool

-- what stands at the front of the bytes
abbrev pub front_of : ℕ → Arrived → Next
front_of n (refused r) = refuses n r
front_of n (message m x) = takes n m

-- what is handled is what the message asks; where memory is wanting from the first, it is answered alike whatever it asks
abbrev pub IsAsked : Arrived → Type 0
IsAsked (refused r) = Unit {0}
IsAsked (message m x) = (x.lack ≡ early) ⊎ Asks m x.asked

-- this stands at the front of a connection on which no answer is owed
pub record IsAtFront (c : Connection) (h : Handling) : Type 0 where
  pub connection : c.number ≡ h.connection
  pub free : c.owed ≡ None
  pub next : IsNext c.unread (front_of h.size h.arrived)
  pub asked : IsAsked h.arrived

-- a connection has nothing to handle: an answer is owed on it, or no request has come whole
abbrev pub IsQuiet : Connection → Type 0
IsQuiet c = (c.owed ≢ None) ⊎ IsNext c.unread waits

-- no connection has anything to handle
abbrev pub AreQuiet : List Connection → Type 0
AreQuiet cs = AllByRecursion IsQuiet cs

-- this is what the first connection by number that has something to handle has
abbrev pub IsFirst : List Connection → Handling → Type 0
IsFirst [] h = ⊥
IsFirst (c ∷ cs) h = IsAtFront c h ⊎ (IsQuiet c × IsFirst cs h)

-- the session has one more batch
abbrev pub with_batch_at : ℕ → Contents → Option Stage → List Stage → List Stage
with_batch_at n b None stages = stages
with_batch_at n b (Some st) stages = with_stage n (with_batch b st) stages

-- the stages after a decision: a session begins, or has one more batch
abbrev pub decided_stages : ℕ → Decision → List Stage → List Stage
decided_stages moment (answers code body) stages = stages
decided_stages moment (opens n id seed) stages = stages ++ begun seed moment ∷ []
decided_stages moment (admits n b) stages = with_batch_at n b (stage_of n stages) stages
decided_stages moment (closes n body) stages = stages

-- a message is taken from its connection
abbrev pub taken : ℕ → ℕ → List Connection → List Connection
taken c size cs = changed c (λ (d : Connection). record d { unread = drop size d.unread }) cs

-- the answer is owed on the connection when the batch of this session is done
abbrev pub owed_by : ℕ → ℕ → Bool → List Connection → List Connection
owed_by c n close cs = changed c (λ (d : Connection). record d { owed = Some (record { session = n; close = close }) }) cs

-- what comes of a decision for the connection: the answer is owed, or it is given
abbrev pub answered_or_owed : ℕ → Bool → Bool → Option ℕ → List Connection → List Connection
answered_or_owed c gone close None cs = after_answer gone close c cs
answered_or_owed c gone close (Some n) cs = owed_by c n close cs

-- an answer that is given at once, if one is
abbrev pub at_once_acts : ℕ → Bool → Bool → Option HttpAnswer → List Act
at_once_acts c gone close None = []
at_once_acts c gone close (Some a) = answer_acts gone close c (answer_text a)

-- what is decided on a request that is handled
abbrev pub decided : ℕ → List Recorded → Handled → Decision
decided limit h x = decide limit h x.asked x.drawn x.lack

-- how the server stands after a request was handled in a turn
abbrev pub after_arrived : Site → ℕ → ℕ → ℕ → ℕ → Bool → State → Arrived → State
after_arrived site turn moment c size gone s (refused r) =
    record s { connections = record s.connections { there = after_answer gone true c s.connections.there } }
after_arrived site turn moment c size gone s (message m x) =
    let d = decided site.limit s.history x in
    record {
      connections = record s.connections { there = answered_or_owed c gone m.close (decided_owed d) (taken c size s.connections.there) };
      history = s.history ++ decided_entries turn moment d;
      stages = decided_stages moment d s.stages;
    }

abbrev pub after_handling : Site → ℕ → ℕ → State → Handling → State
after_handling site turn moment s h = after_arrived site turn moment h.connection h.size h.gone s h.arrived

-- what is done at it: its entry is put before it is answered
abbrev pub arrived_acts : Site → ℕ → ℕ → ℕ → Bool → State → Arrived → List Act
arrived_acts site turn moment c gone s (refused r) = answer_acts gone true c (answer_text (refusal_answer r))
arrived_acts site turn moment c gone s (message m x) =
    let d = decided site.limit s.history x in
    all_put (decided_entries turn moment d) ++ at_once_acts c gone m.close (decided_answer m.close d)

abbrev pub handling_acts : Site → ℕ → ℕ → State → Handling → List Act
handling_acts site turn moment s h = arrived_acts site turn moment h.connection h.gone s h.arrived

-- requests are handled one after another, each the first there is
abbrev pub AreHandledSo : Site → ℕ → ℕ → State → List Handling → Type 0
AreHandledSo site turn moment s [] = Unit {0}
AreHandledSo site turn moment s (h ∷ hs) =
    IsFirst s.connections.there h × AreHandledSo site turn moment (after_handling site turn moment s h) hs

abbrev pub after_handlings : Site → ℕ → ℕ → State → List Handling → State
after_handlings site turn moment s [] = s
after_handlings site turn moment s (h ∷ hs) = after_handlings site turn moment (after_handling site turn moment s h) hs

abbrev pub handlings_acts : Site → ℕ → ℕ → State → List Handling → List Act
handlings_acts site turn moment s [] = []
handlings_acts site turn moment s (h ∷ hs) =
    handling_acts site turn moment s h ++ handlings_acts site turn moment (after_handling site turn moment s h) hs

-- the requests among what is handled
abbrev pub asked_of : Arrived → Option Handled
asked_of (refused r) = None
asked_of (message m x) = Some x

abbrev pub asked_in : List Handling → List Handled
asked_in hs = filter_map (λ (h : Handling). asked_of h.arrived) hs

-- ---- a busy session goes on

-- what a session did in a turn, what its served calls were given, how far it went with that, whether its batch is done,
-- and whether the answer then finds its connection gone
pub record Advance : Type 0 where
  pub session : ℕ
  pub parts : List Part
  pub given : List Given
  pub next : Stage
  pub progress : Progress
  pub gone : Bool

-- it goes on by 1,000 units, and its served calls are given the moment and what the service replies
pub record IsAdvance (site : Site) (moment : ℕ) (s : State) (a : Advance) : Type 0 where
  pub stage : Stage
  pub stands : stage_of a.session s.stages ≡ Some stage
  pub goes_on : GoesOn site.meaning stage 1000 a.given a.parts a.next
  pub replied : a.given ≡ given_by site.service (called_so_far s.history) moment a.parts
  pub how_far : IsProgress a.progress a.parts

-- the entry of a batch that is done
abbrev pub done_entries : ℕ → ℕ → ℕ → Progress → List Recorded
done_entries turn n number Busy = []
done_entries turn n number (Finished how) = done turn n number how ∷ []

-- the entries of what it did
abbrev pub advance_entries : ℕ → Advance → List Recorded
advance_entries turn a =
    served_entries turn a.session a.parts a.given ++ done_entries turn a.session (length a.next.batches) a.progress

-- a batch that is done is answered on the connection on which that is owed, if it is still there
abbrev pub answered_there : Bool → Option (ℕ × Bool) → List Connection → List Connection
answered_there gone None cs = cs
answered_there gone (Some (c, close)) cs = after_answer gone close c cs

abbrev pub answered_acts : Site → Bool → Option (ℕ × Bool) → ℕ → ℕ → Option Ending → List Recorded → List Act
answered_acts site gone None n number how h = []
answered_acts site gone (Some (c, close)) n number how h =
    answer_acts gone close c (answer_text (batch_answer site.page n number how h close))

-- so where the batch is done, and not else
abbrev pub progress_there : Bool → ℕ → Progress → List Connection → List Connection
progress_there gone n Busy cs = cs
progress_there gone n (Finished how) cs = answered_there gone (owing n cs) cs

abbrev pub progress_acts : Site → Bool → ℕ → ℕ → Progress → List Connection → List Recorded → List Act
progress_acts site gone n number Busy cs h = []
progress_acts site gone n number (Finished how) cs h = answered_acts site gone (owing n cs) n number how h

-- how the server stands after a session went on
abbrev pub after_advance : ℕ → State → Advance → State
after_advance turn s a = record {
  connections = record s.connections { there = progress_there a.gone a.session a.progress s.connections.there };
  history = s.history ++ advance_entries turn a;
  stages = with_stage a.session a.next s.stages;
}

-- what is done at it: its entries are put before the batch is answered
abbrev pub advance_acts : Site → ℕ → State → Advance → List Act
advance_acts site turn s a =
    all_put (advance_entries turn a)
    ++ progress_acts site a.gone a.session (length a.next.batches) a.progress s.connections.there (s.history ++ advance_entries turn a)

-- the sessions of these ordinals go on, one after another
abbrev pub AreAdvancedSo : Site → ℕ → ℕ → State → List ℕ → List Advance → Type 0
AreAdvancedSo site turn moment s [] rest = rest ≡ []
AreAdvancedSo site turn moment s (n ∷ ns) [] = ⊥
AreAdvancedSo site turn moment s (n ∷ ns) (a ∷ rest) =
    (a.session ≡ n) × IsAdvance site moment s a × AreAdvancedSo site turn moment (after_advance turn s a) ns rest

abbrev pub after_advances : ℕ → State → List Advance → State
after_advances turn s [] = s
after_advances turn s (a ∷ rest) = after_advances turn (after_advance turn s a) rest

abbrev pub advances_acts : Site → ℕ → State → List Advance → List Act
advances_acts site turn s [] = []
advances_acts site turn s (a ∷ rest) = advance_acts site turn s a ++ advances_acts site turn (after_advance turn s a) rest

-- ---- a turn

-- what a turn brings: the knock, or none where the door is closed; the moment; the words that are drawn; the requests that
-- are handled; and how the busy sessions go on
pub record Coming : Type 0 where
  pub knock : Option TraceKnock
  pub moment : ℕ
  pub words : List ℕ
  pub handlings : List Handling
  pub advances : List Advance

-- how the server stands after the knock, and after the requests are handled
abbrev pub knocked_at : Coming → State → State
knocked_at t s = record s { connections = after_knock t.knock s.connections }

abbrev pub handled_at : Site → ℕ → Coming → State → State
handled_at site turn t s = after_handlings site turn t.moment (knocked_at t s) t.handlings

-- and when the turn is over
abbrev pub after_turn : Site → ℕ → Coming → State → State
after_turn site turn t s = after_advances turn (handled_at site turn t s) t.advances

-- what is done in a turn
abbrev pub turn_acts : Site → ℕ → Coming → State → List Act
turn_acts site turn t s =
    knock_acts t.knock s.connections
    ++ handlings_acts site turn t.moment (knocked_at t s) t.handlings
    ++ advances_acts site turn (handled_at site turn t s) t.advances

-- a turn: after the knock, requests are handled until no connection has anything to handle, and these words are drawn for
-- them; then each busy session goes on, by ordinal
pub record IsTurn (site : Site) (turn : ℕ) (s : State) (t : Coming) : Type 0 where
  pub handled : AreHandledSo site turn t.moment (knocked_at t s) t.handlings
  pub all : AreQuiet (let k = (handled_at site turn t s).connections in k.there)
  pub words : HandledDraw site.limit turn t.moment s.history (asked_in t.handlings) t.words []
  pub advanced : AreAdvancedSo site turn t.moment (handled_at site turn t s) (busy_in (let x = handled_at site turn t s in x.history)) t.advances
