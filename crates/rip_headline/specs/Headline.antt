-- What is so of each run of the program that serves an application: what it wrote is the log of turns, or a prefix of one, and in
-- these turns the calls of each session match, honest clients are served, and sessions are isolated.
use Rattle.std.specs.Prelude.{◌≡◌, ◌⊎◌, ℕ, ◌≤◌, false, List, [], ◌∷◌, ◌++◌, length, Option, Some}
use Rattle.std.specs.List.{AllByRecursion}
use Rattle.rip_outer.specs.Outside.{Front, also}
use Rattle.rip_outer.specs.declared.connections.TraceKnock.{TraceKnock}
use Rattle.rip_outer.specs.declared.reading.NamedFile.{NamedFile}
use Rattle.rip_words.specs.Commands.{IsTask, Task, checks, drives, generates, replays, serves}
use Rattle.rip_app.specs.App.{Loaded}
use Rattle.rip_log.specs.Entries.{Recorded, ended}
use Rattle.rip_log.specs.Histories.{history_text}
use Rattle.rip_history.specs.Course.{IsCourse}
use Rattle.rip_history.specs.Run.{Coming}
use Rattle.rip_history.specs.Sessions.{Agree, IsSessionOf, opening_in, story_in}
use Rattle.rip_history.specs.Stages.{Stage, is_done, is_ended}
use Rattle.rip_law_history.specs.Alone.{IsGivenAlike}
use Rattle.rip_law_history.specs.Legal.{course_turns, history_of, told_in}
use Rattle.rip_server.specs.Turning.{Outer}
use Rattle.rip_replica.specs.Cuts.{CutAfter}
use Rattle.rip_replica.specs.Numbers.{open_of}
use Rattle.rip_serve.specs.Sites.{site_of_app}
use Rattle.rip_law_server.specs.Begun.{IsGivenTo}
use Rattle.rip_law_server.specs.Conversation.{IsConversation}
use Rattle.rip_law_server.specs.Legal.{AreGiven, AreLegal}
use Rattle.rip_session.specs.Application.{IsPageWithin, StandsAt, doing_of, meaning_of_app, runs_of}
use Rattle.rip_session.specs.Limits.{HasPageLimits, PassesNoLimit}
use Rattle.rip_cli.specs.Laws.{AreAccepted}
use Rattle.rip_cli.specs.Run.{Ran, Told}
use Rattle.rip_cli.specs.Service.{brought}
use Rattle.rip_cli.specs.declared.status.Status.{Status}
use Rattle.rip_cli.specs.declared.status.Status.TheVariants.{BadInput, BadWords, NoMemory, Outside, Read, TurnsSpent}
use Rattle.rip_headline.specs.Bounded.{PageReplica}
use Rattle.rip_headline.specs.CompleteHistories.{HasNoLie, IsTruthfulIn}
use Rattle.rip_headline.specs.Enough.{AreEnough, batch_cost}
use Rattle.rip_headline.specs.PrefixHistories.{ServesIn}
use Rattle.rip_headline.specs.Prefixed.{StopsFirst}

-- ---- a run

-- the task is to serve the application of its files: a replay of a trace, or a service at an address
abbrev pub IsServed : (files : List NamedFile) (task : Task) → AreAccepted files task → Loaded → Type 0
IsServed files (checks page app) hold application = ⊥
IsServed files (replays page app trace turns) hold application = hold.0.app ≡ application
IsServed files (serves page app address turns) hold application = hold.app ≡ application
IsServed files (drives page app gestures) hold application = ⊥
IsServed files (generates n) hold application = ⊥

-- within so many turns
abbrev pub turns_of : Task → ℕ
turns_of (checks page app) = 0
turns_of (replays page app trace turns) = turns
turns_of (serves page app address turns) = turns
turns_of (drives page app gestures) = 0
turns_of (generates n) = 0

-- to what comes from outside, or in a replay to what the trace brings
abbrev pub outside_of : (files : List NamedFile) (task : Task) → AreAccepted files task → Outer → Outer
outside_of files (checks page app) hold old = old
outside_of files (replays page app trace turns) hold old = brought hold.1.given old.seen.held old.sink_faults
outside_of files (serves page app address turns) hold old = old
outside_of files (drives page app gestures) hold old = old
outside_of files (generates n) hold old = old

-- a run of the program with these arguments, which serve this application: their files are accepted
pub record Serving (status : Status) (words : List (List ℕ)) (app : Loaded) (old new : Told) : Type 0 where
  pub files : List NamedFile
  pub held : old.held ≡ Some files
  pub task : Task
  pub asked : IsTask words task
  pub accepted : AreAccepted files task
  pub serves : IsServed files task accepted app
  pub ran : Ran status words old new

-- ---- what it wrote

-- the log of turns of an application
abbrev pub log_of : Loaded → List Coming → List Recorded
log_of app turns = history_of (site_of_app app) turns

-- the text of that log and of a last line with this status
abbrev pub text_of : Loaded → List Coming → ℕ → List ℕ
text_of app turns status = history_text (log_of app turns ++ ended (length turns) status ∷ [])

-- a prefix of the text with the one or the other status was added to the output
abbrev pub WritesPrefix : Loaded → List Coming → Option (List ℕ) → Option (List ℕ) → Type 0
WritesPrefix app turns old new = Front (text_of app turns 0) old new ⊎ Front (text_of app turns 3) old new

-- with status 0 or 3 exactly that text was added to the output; with 4 or 5 a prefix of it
abbrev pub Writes : Status → Loaded → List Coming → Option (List ℕ) → Option (List ℕ) → Type 0
Writes Read app turns old new = new ≡ also (text_of app turns 0) old
Writes BadWords app turns old new = ⊥
Writes BadInput app turns old new = ⊥
Writes TurnsSpent app turns old new = new ≡ also (text_of app turns 3) old
Writes Outside app turns old new = WritesPrefix app turns old new
Writes NoMemory app turns old new = WritesPrefix app turns old new

-- turns are given what comes from outside, one after another: connection pieces, moments and random words; the last may have
-- broken off, and then more is handled in it than in the run
pub data AreGivenAll (app : Loaded) (turns : List Coming) (old new : Outer) : Type 0 where
  whole : AreGiven (site_of_app app) turns old new → AreGivenAll app turns old new
  broken : (first : List Coming) (last : Coming) (between : Outer) → turns ≡ first ++ last ∷ [] → AreGiven (site_of_app app) first old between
      → IsGivenTo last between new → AreGivenAll app turns old new

-- served to what comes from this outside, with an output that held so much before, a run made these turns and wrote their log,
-- which is a legal history, or a prefix of it
pub record Wrote (status : Status) (app : Loaded) (most : ℕ) (outside : Outer) (held : Option (List ℕ)) : Type 0 where
  pub turns : List Coming
  pub few : length turns ≤ most
  pub left : Outer
  pub given : AreGivenAll app turns outside left
  pub legal : AreLegal (site_of_app app) turns
  pub put : Writes status app turns outside.seen.held held

-- ---- the headline

-- a run stopped before it asked for anything but its files, or it wrote the log of turns; and whatever turns' log it wrote, this is so
-- of these turns
pub record WroteOnly (P : List Coming → Type 0) (status : Status) (app : Loaded) (old new : Told) (most : ℕ) (outside : Outer) : Type 0 where
  pub wrote : StopsFirst status old.outer new.outer ⊎ Wrote status app most outside new.outer.seen.held
  pub each : (w : Wrote status app most outside new.outer.seen.held) → P w.turns

-- so it is of each run that serves an application
abbrev pub InEachRun : (Loaded → List Coming → Type 0) → Type 0
InEachRun P =
    (status : Status) (words : List (List ℕ)) (app : Loaded) (old new : Told) → (run : Serving status words app old new)
    → WroteOnly (P app) status app old new (turns_of run.task) (outside_of run.files run.task run.accepted old.outer)

-- the served calls of each session are the longest prefix of the calls that it reported in which each is the call that its script
-- made at that position: up to the session's ending, to out of memory or to the last turn
abbrev pub CallsMatch : Loaded → List Coming → Type 0
CallsMatch app turns = (n : ℕ) → ServesIn app (length turns) (log_of app turns) n (opening_in n (log_of app turns))

-- (a) so it is in each run, whatever its files, arguments and outside are
abbrev pub ServedCallsMatch : Type 0
ServedCallsMatch = InEachRun CallsMatch

-- wherever a session stands its heap passes no limit of the manifest, and its page has the manifest's limits; while it lives, its
-- page and its runs pass none. While its batch is not done, that heap and that page are those where the batch is cut after the
-- units that it got
pub record IsHeld (app : Loaded) (r : PageReplica) (st : Stage) : Type 0 where
  pub heap : PassesNoLimit app.manifest.limits r.heap
  pub page : HasPageLimits app.manifest.limits r.host
  pub lives : is_ended (meaning_of_app app) st ≡ false → IsPageWithin app.manifest.limits (runs_of app) r
  pub cut : is_done (meaning_of_app app) st ≡ false
      → CutAfter (doing_of app st.seed st.time) st.batches st.given st.units (open_of (runs_of app) r) r.heap r.host

-- so it is of each session of each application
abbrev pub NoLimitIsPassed : Type 0
NoLimitIsPassed = (app : Loaded) (r : PageReplica) (st : Stage) → StandsAt app r st → IsHeld app r st

-- a session whose admitted batches are those of an honest client is ended by no mismatch and by no bad report: by a limit, by a
-- fault of its script, by its own close or by out of memory alone
abbrev pub HonestServed : Loaded → List Coming → Type 0
HonestServed app turns = (n : ℕ) → IsTruthfulIn app (log_of app turns) n → AllByRecursion (HasNoLie n) (log_of app turns)

-- (b) so it is in each run
abbrev pub HonestClientsAreServed : Type 0
HonestClientsAreServed = InEachRun HonestServed

-- the log of turns is a legal history of them, with their moments and words
abbrev pub IsLegalLog : Loaded → List Coming → Type 0
IsLegalLog app turns =
    let site = site_of_app app in IsCourse site.meaning site.service site.limit (told_in turns) (course_turns 1 turns) (log_of app turns)

-- a session that is given the same in these turns and in others, whatever other sessions do there, does the same in both, each so
-- many turns after the admission of its batch, as far as both go
abbrev pub AreIsolated : Loaded → List Coming → Type 0
AreIsolated app turns =
    (others : List Coming) → IsLegalLog app others → (n k : ℕ) → IsGivenAlike (log_of app turns) (log_of app others) n k
    → Agree (story_in n (log_of app turns)) (story_in k (log_of app others))

-- each session is run in slices: what it does comes in the turn by whose end its batch got the units that it costs, 1,000 in each
-- turn from that of its admission on
abbrev pub AreSliced : Loaded → List Coming → Type 0
AreSliced app turns =
    (n : ℕ) (opening : ℕ × ℕ) → opening_in n (log_of app turns) ≡ Some opening → IsSessionOf (meaning_of_app app) (length turns) (log_of app turns) n

-- a run whose turns are enough for what is told on its connections comes to its end, unless the outside fails or memory is wanting
abbrev pub EndsInTime : Type 0
EndsInTime =
    (status : Status) (words : List (List ℕ)) (app : Loaded) (old new : Told) (knocks : List TraceKnock) → (run : Serving status words app old new)
    → (let outside = outside_of run.files run.task run.accepted old.outer in outside.seen.telling.left) ≡ Some knocks
    → AreEnough (batch_cost app.manifest.limits.fuel) knocks (turns_of run.task)
    → (status ≡ Read) ⊎ (status ≡ Outside) ⊎ (status ≡ NoMemory)

-- (c) in each run the sessions are isolated and sliced; and with turns enough it comes to its end
pub record SessionsAreIsolated : Type 0 where
  pub isolated : InEachRun AreIsolated
  pub sliced : InEachRun AreSliced
  pub in_time : EndsInTime

-- on each connection what is sent are the answers to its requests, one each, in their order, but perhaps to the last
abbrev pub AreConversations : Loaded → List Coming → Type 0
AreConversations app turns = (c : ℕ) → IsConversation (site_of_app app) turns c

-- so it is in each run
abbrev pub RequestsAreAnsweredInOrder : Type 0
RequestsAreAnsweredInOrder = InEachRun AreConversations
