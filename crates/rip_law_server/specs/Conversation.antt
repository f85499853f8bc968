-- What is sent on a connection: the answers to its requests, one each, in their order.
use Rattle.std.specs.Prelude.{◌≡◌, ◌⊎◌, ℕ, ◌+◌, ◌==◌, Bool, true, false, List, [], ◌∷◌, ◌++◌, Option, Some, None, is_some, if◌then◌else◌}
use Rattle.std.specs.List.{filter_map, list_any}
use Rattle.rip_http.specs.Answers.{answer_text}
use Rattle.rip_http.specs.Stream.{Sent, Splits, all_fed}
use Rattle.rip_http.specs.declared.answer.HttpAnswer.{HttpAnswer}
use Rattle.rip_wire.specs.declared.ending.Ending.{Ending}
use Rattle.rip_log.specs.Entries.{Recorded, done}
use Rattle.rip_history.specs.Answering.{batch_answer, decided_owed, json_answer, refusal_answer}
use Rattle.rip_history.specs.Connections.{Act, Connection, is_there, loses, puts, sends, sent_in, shuts}
use Rattle.rip_history.specs.Parts.{IsLawful}
use Rattle.rip_history.specs.Requests.{Decision, answers, opens, admits, closes}
use Rattle.rip_history.specs.Run.{Arrived, Coming, Handling, Site, State, after_handling, after_turn, decided, first_state, knocked_at, message, refused}
use Rattle.rip_history.specs.Runs.{AreTurns, after_turns, turns_acts}
use Rattle.rip_law_history.specs.Legal.{history_of}
use Rattle.rip_law_history.specs.Streams.{deeds_on}
use Rattle.rip_law_server.specs.Paced.{was_done}
use Rattle.rip_law_server.specs.Turned.{owes}

-- ---- the requests of a connection

-- a request that was handled, or a head that was refused, and the history before it
pub record Received : Type 0 where
  pub before : List Recorded
  pub size : ℕ
  pub arrived : Arrived

-- those of a connection among what is handled in a turn, in order
abbrev pub received_in : Site → ℕ → ℕ → ℕ → State → List Handling → List Received
received_in site c turn moment s [] = []
received_in site c turn moment s (h ∷ hs) =
    (if h.connection == c then record { before = s.history; size = h.size; arrived = h.arrived } ∷ [] else [])
    ++ received_in site c turn moment (after_handling site turn moment s h) hs

-- and in turns, the first of which has this number
abbrev pub received_from : Site → ℕ → ℕ → State → List Coming → List Received
received_from site c turn s [] = []
received_from site c turn s (t ∷ ts) =
    received_in site c turn t.moment (knocked_at t s) t.handlings ++ received_from site c (turn + 1) (after_turn site turn t s) ts

-- those of a run
abbrev pub received_on : Site → ℕ → List Coming → List Received
received_on site c ts = received_from site c 1 first_state ts

-- the messages among them
abbrev pub sent_of : ℕ → Arrived → Option Sent
sent_of size (refused r) = None
sent_of size (message m x) = Some (record { message = m; size = size })

abbrev pub messages_of : List Received → List Sent
messages_of rs = filter_map (λ (r : Received). sent_of r.size r.arrived) rs

-- ---- its answers

-- the answer to a batch of a session, where the batch is done in a history: by the first entry that says so, and what was served up
-- to it
pub record IsBatchAnswer (page : List ℕ) (h : List Recorded) (close : Bool) (n number : ℕ) (a : HttpAnswer) : Type 0 where
  pub turn : ℕ
  pub how : Option Ending
  pub before : List Recorded
  pub behind : List Recorded
  pub is : h ≡ (before ++ done turn n number how ∷ []) ++ behind
  pub first : was_done n number before ≡ false
  pub answer : a ≡ batch_answer page n number how (before ++ done turn n number how ∷ []) close

-- the answer to what was decided, in a history: at once, or when the batch is done; an opening is batch 0
abbrev pub IsAnswerOf : Site → List Recorded → Bool → Decision → HttpAnswer → Type 0
IsAnswerOf site h close (answers code body) a = a ≡ json_answer code body close
IsAnswerOf site h close (opens n id seed) a = IsBatchAnswer site.page h close n 0 a
IsAnswerOf site h close (admits n b) a = IsBatchAnswer site.page h close n b.number a
IsAnswerOf site h close (closes n body) a = a ≡ json_answer 200 body close

-- the answer to a request, or to a head that was refused
abbrev pub IsAnswerTo : Site → List Recorded → List Recorded → Arrived → HttpAnswer → Type 0
IsAnswerTo site h before (refused r) a = a ≡ refusal_answer r
IsAnswerTo site h before (message m x) a = IsAnswerOf site h m.close (decided site.limit before x) a

-- the bytes are the answers to these, one behind the other
abbrev pub AreAnswers : Site → List Recorded → List Received → List ℕ → Type 0
AreAnswers site h [] bytes = bytes ≡ []
AreAnswers site h (r ∷ rs) bytes =
    (a : HttpAnswer) × (rest : List ℕ) × IsAnswerTo site h r.before r.arrived a × (bytes ≡ answer_text a ++ rest) × AreAnswers site h rs rest

-- ---- the last request

-- its answer is not given at once: it waits for a batch
abbrev pub waits_for : Site → List Recorded → Arrived → Bool
waits_for site before (refused r) = false
waits_for site before (message m x) = is_some (decided_owed (decided site.limit before x))

-- a send found the connection gone
abbrev pub is_loss : ℕ → Act → Bool
is_loss c (puts e) = false
is_loss c (sends d bytes) = false
is_loss c (loses d) = d == c
is_loss c (shuts d) = false

abbrev pub was_lost : ℕ → List Act → Bool
was_lost c acts = list_any (is_loss c) acts

-- what may be left without an answer, after these acts: nothing; or one request. Its answer is still owed on the connection; or the
-- connection is there no more, as its answer found it gone, or was still to come when it was gone or shut
abbrev pub IsLeft : Site → ℕ → List Connection → List Act → List Received → Type 0
IsLeft site c cs acts [] = Unit {0}
IsLeft site c cs acts (r ∷ []) =
    ((owes c cs ≡ true) × (waits_for site r.before r.arrived ≡ true))
    ⊎ ((is_there c cs ≡ false) × ((waits_for site r.before r.arrived ≡ true) ⊎ (was_lost c acts ≡ true)))
IsLeft site c cs acts (r ∷ q ∷ rs) = ⊥

-- on a connection of a run the messages that were received stand one behind the other at the front of the bytes that came on it; and
-- what was sent on it are the answers to all that was received, in order, but perhaps to the last
pub record IsConversation (site : Site) (ts : List Coming) (c : ℕ) : Type 0 where
  pub unread : List ℕ
  pub spelled : Splits (all_fed (deeds_on site c 1 first_state ts)) (messages_of (received_on site c ts)) unread
  pub answered : List Received
  pub left : List Received
  pub parts : received_on site c ts ≡ answered ++ left
  pub sent : AreAnswers site (history_of site ts) answered (sent_in c (turns_acts site 1 first_state ts))
  pub last : (let k = (after_turns site 1 first_state ts).connections in IsLeft site c k.there (turns_acts site 1 first_state ts) left)

-- so it is in each run, after any of its turns
abbrev pub RequestsAreAnswered : Type 0
RequestsAreAnswered =
    (site : Site) (ts : List Coming) (c : ℕ) → IsLawful site.meaning → AreTurns site 1 first_state ts → IsConversation site ts c
