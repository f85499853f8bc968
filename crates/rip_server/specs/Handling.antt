-- What is handled, and what becomes of its connection: private to this crate.
use Rattle.std.specs.Prelude.{◌≡◌, ℕ, ◌+◌, Bool, true, List, [], ◌∷◌, ◌++◌, Option, Result, IfOk, OnOk, length, take, drop}
use Rattle.std.specs.List.{AllByRecursion}
use Rattle.rip_http.specs.Answers.{answer_text}
use Rattle.rip_http.specs.declared.request.Message.{Message}
use Rattle.rip_http.specs.declared.request.RefusedHead.{RefusedHead}
use Rattle.rip_log.specs.Entries.{Recorded}
use Rattle.rip_history.specs.Answering.{refusal_answer, decided_answer, decided_owed}
use Rattle.rip_history.specs.Connections.{all_put, Connection as Link, Connections as Links, answer_acts, after_answer}
use Rattle.rip_history.specs.Course.{Handled, decided_entries, draws, Draws, HandledDraw}
use Rattle.rip_history.specs.Parts.{Meaning}
use Rattle.rip_history.specs.Requests.{decide}
use Rattle.rip_history.specs.Run.{Site, State, Handling, message, IsAsked, IsQuiet, AreHandledSo, after_handlings, handlings_acts, answered_or_owed, at_once_acts, decided_stages, asked_in}
use Rattle.rip_history.specs.Stages.{Stage}
use Rattle.rip_table.specs.Rolls.{IsRollOf}
use Rattle.rip_table.specs.declared.roll.roll.Roll.{Roll}
use Rattle.rip_server.specs.Acts.{Seen, Acted}
use Rattle.rip_server.specs.Links.{links_of}
use Rattle.rip_server.specs.declared.connections.Connections.{Connections}
use Rattle.rip_server.specs.declared.halt.Halt.{Halt}
use Rattle.rip_server.specs.Deciding.{answer_in, owed_in}
use Rattle.rip_server.specs.Turning.{Source, Gives}
use Rattle.rip_server.specs.declared.turn.reply.Reply.{Reply}

-- a state of the machine
abbrev pub state_of : Links → List Recorded → List Stage → State
state_of k h stages = record { connections = k; history = h; stages = stages }

-- connections and sessions are those of a state
pub record AreAt {T : Type 0} (stands : T → Stage → Type 0) (m : Meaning) (limit : ℕ) (connections : Connections) (roll : Roll T) (s : State) : Type 0 where
  pub links : links_of connections ≡ s.connections
  pub roll_is : IsRollOf stands m limit roll s.history s.stages

-- how much is to be looked at: the connections, and the bytes of them that are not taken
abbrev pub weight : List Link → ℕ
weight [] = 0
weight (c ∷ cs) = length c.unread + 1 + weight cs

-- from a place on
abbrev pub weight_from : ℕ → List Link → ℕ
weight_from place cs = weight (drop place cs)

-- a request of a connection is answered, or waits
pub record Replied (number : ℕ) (close : Bool) (reply : Reply) (r : Result (Unit {0}) Halt) (there now : List Link) (old new : Seen) : Type 0 where
  pub gone : Bool
  pub after : OnOk r (now ≡ answered_or_owed number gone close (owed_in reply) there)
  pub acts : Acted r (at_once_acts number gone close (answer_in reply)) old new

-- behind the lines of entries
pub record Settled (number : ℕ) (close : Bool) (es : List Recorded) (reply : Reply) (r : Result (Unit {0}) Halt) (there now : List Link) (old new : Seen) : Type 0 where
  pub gone : Bool
  pub after : OnOk r (now ≡ answered_or_owed number gone close (owed_in reply) there)
  pub acts : Acted r (all_put es ++ at_once_acts number gone close (answer_in reply)) old new

-- some answer was given, or is owed
pub record Stays (number : ℕ) (there now : List Link) : Type 0 where
  pub gone : Bool
  pub close : Bool
  pub owed : Option ℕ
  pub is : now ≡ answered_or_owed number gone close owed there

-- a refused head is answered, and its connection shut
pub record Refused (number : ℕ) (head : RefusedHead) (r : Result (Unit {0}) Halt) (there now : List Link) (old new : Seen) : Type 0 where
  pub gone : Bool
  pub after : OnOk r (now ≡ after_answer gone true number there)
  pub acts : Acted r (answer_acts gone true number (answer_text (refusal_answer head))) old new

-- a message that was taken from its connection is handled
pub record Messaged (limit turn time number : ℕ) (m : Message) (h : List Recorded) (stages : List Stage) (After : List Recorded → List Stage → Type 0)
    (r : Result (Unit {0}) Halt) (there now : List Link) (old new : Seen) (words_old words_new : Source) : Type 0 where
  pub handled : Handled
  pub words : List ℕ
  pub gone : Bool
  pub asked : IsAsked (message m handled)
  pub draws_so : Draws (draws limit h handled.asked handled.lack) handled.drawn words []
  pub gives : Gives words words_old words_new
  pub acts : let d = decide limit h handled.asked handled.drawn handled.lack in
      Acted r (all_put (decided_entries turn time d) ++ at_once_acts number gone m.close (decided_answer m.close d)) old new
  pub after : let d = decide limit h handled.asked handled.drawn handled.lack in
      OnOk r ((now ≡ answered_or_owed number gone m.close (decided_owed d) there) × After (h ++ decided_entries turn time d) (decided_stages time d stages))

-- requests are handled, each the first there is, or the turn stops in one
pub record HandledSo {A : Type 0} (site : Site) (turn time : ℕ) (s : State) (r : Result A Halt) (After : A → State → Type 0) (old new : Seen)
    (words_old words_new : Source) : Type 0 where
  pub handlings : List Handling
  pub words : List ℕ
  pub handled : AreHandledSo site turn time s handlings
  pub draws_so : HandledDraw site.limit turn time s.history (asked_in handlings) words []
  pub gives : Gives words words_old words_new
  pub acts : Acted r (handlings_acts site turn time s handlings) old new
  pub after : IfOk r (λ a. After a (after_handlings site turn time s handlings))

-- no connection before a place has anything to handle
abbrev pub IsQuietBefore : ℕ → State → Type 0
IsQuietBefore place s = AllByRecursion IsQuiet (let k = s.connections in take place k.there)
