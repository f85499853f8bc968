-- What is decided on a request: private to this crate.
use Rattle.std.specs.Prelude.{◌≡◌, ◌⊎◌, ℕ, false, List, [], ◌∷◌, ◌++◌, Bool, Option, Some, None, Result, IfOk, codes}
use Rattle.rip_http.specs.declared.answer.HttpAnswer.{HttpAnswer}
use Rattle.rip_http.specs.declared.request.Message.{Message}
use Rattle.rip_log.specs.Entries.{Recorded, entry_text}
use Rattle.rip_base.specs.declared.memory.NoMemory.{NoMemory}
use Rattle.rip_history.specs.Answering.{decided_answer, decided_owed}
use Rattle.rip_history.specs.Course.{Handled, decided_entries, draws, Draws}
use Rattle.rip_history.specs.Requests.{Drawn, Lack, Decision, fails, page, on_page, decide}
use Rattle.rip_history.specs.Run.{message, IsAsked, decided_stages}
use Rattle.rip_history.specs.Stages.{Stage}
use Rattle.rip_server.specs.Turning.{Source, Gives}
use Rattle.rip_server.specs.declared.turn.decide.Decided.{Decided}
use Rattle.rip_server.specs.declared.turn.draw.Drawn.{Drawn as DrawnHere}
use Rattle.rip_server.specs.declared.turn.reply.Reply.{Reply}
use Rattle.rip_server.specs.declared.turn.reply.Reply.TheVariants.{Now, Later}

-- what the words that are drawn give
abbrev pub drawn_as : DrawnHere → Drawn
drawn_as d = record { id = d.id; seed = d.seed }

-- the line of the one entry, or there is none
abbrev pub IsLine : Option (List ℕ) → List Recorded → Type 0
IsLine None es = es ≡ []
IsLine (Some text) es = (e : Recorded) × (es ≡ e ∷ []) × (text ≡ entry_text e)

-- the answer that is given at once, if one is, and the session for whose batch it waits, if it does
abbrev pub answer_in : Reply → Option HttpAnswer
answer_in (Now answer) = Some answer
answer_in (Later session) = None

abbrev pub owed_in : Reply → Option ℕ
owed_in (Now answer) = None
owed_in (Later session) = Some session

-- this is what comes of a decision in a turn, on a connection that is shut behind the answer or not
pub record Tells (turn time : ℕ) (close : Bool) (d : Decision) (told : Decided) : Type 0 where
  pub line : IsLine told.line (decided_entries turn time d)
  pub answer : answer_in told.reply ≡ decided_answer close d
  pub owed : owed_in told.reply ≡ decided_owed d

-- and the sessions are then those after it
pub record Comes (turn time : ℕ) (close : Bool) (h : List Recorded) (stages : List Stage) (After : List Recorded → List Stage → Type 0) (d : Decision)
    (told : Decided) : Type 0 where
  pub tells : Tells turn time close d told
  pub after : After (h ++ decided_entries turn time d) (decided_stages time d stages)

-- so of this decision, or that memory is wanting
pub record ComesOr (turn time : ℕ) (close : Bool) (h : List Recorded) (stages : List Stage) (After : List Recorded → List Stage → Type 0)
    (d : Decision) (r : Result Decided NoMemory) : Type 0 where
  pub given : Decision
  pub is : (given ≡ d) ⊎ (given ≡ fails 503 (codes "memory"))
  pub comes : IfOk r (Comes turn time close h stages After given)

-- on the page that is asked for this is decided, with these words
pub record PageComes (limit turn time : ℕ) (close : Bool) (h : List Recorded) (stages : List Stage) (After : List Recorded → List Stage → Type 0)
    (r : Result Decided NoMemory) (old new : Source) : Type 0 where
  pub drawn : Drawn
  pub lack : Lack
  pub words : List ℕ
  pub draws_so : Draws (draws limit h page lack) drawn words []
  pub gives : Gives words old new
  pub comes : IfOk r (Comes turn time close h stages After (on_page limit h drawn lack))

-- on a message for which no words are drawn
pub record StillComes (limit turn time : ℕ) (m : Message) (h : List Recorded) (stages : List Stage) (After : List Recorded → List Stage → Type 0)
    (r : Result Decided NoMemory) : Type 0 where
  pub handled : Handled
  pub asked : IsAsked (message m handled)
  pub still : draws limit h handled.asked handled.lack ≡ false
  pub comes : IfOk r (Comes turn time m.close h stages After (decide limit h handled.asked handled.drawn handled.lack))

-- on a message
pub record MessageComes (limit turn time : ℕ) (m : Message) (h : List Recorded) (stages : List Stage) (After : List Recorded → List Stage → Type 0)
    (r : Result Decided NoMemory) (old new : Source) : Type 0 where
  pub handled : Handled
  pub words : List ℕ
  pub asked : IsAsked (message m handled)
  pub draws_so : Draws (draws limit h handled.asked handled.lack) handled.drawn words []
  pub gives : Gives words old new
  pub comes : IfOk r (Comes turn time m.close h stages After (decide limit h handled.asked handled.drawn handled.lack))
