-- Which runs have a log in range.
use Rattle.std.specs.Prelude.{ℕ, ◌+◌, ◌<◌, ◌≤◌, ◌^◌, List, [], ◌∷◌, ◌++◌, length, Option, ⊤}
use Rattle.std.specs.List.{AllByRecursion}
use Rattle.rip_manifest.specs.declared.function.Function.{Function}
use Rattle.rip_wire.specs.Batches.{Contents, IsBatch}
use Rattle.rip_wire.specs.Items.{AreArgs}
use Rattle.rip_wire.specs.Names.{IsName}
use Rattle.rip_log.specs.Entries.{Recorded}
use Rattle.rip_log.specs.Histories.{IsHistory}
use Rattle.rip_log.specs.Parts.{IsReply}
use Rattle.rip_log.specs.Ranges.{IsLong, IsShort, IsNoneOrEnding}
use Rattle.rip_history.specs.Connections.{Act, put_in}
use Rattle.rip_history.specs.Parts.{Fact, passes, serves, finishes, Part, Given, Meaning, IsLawful}
use Rattle.rip_history.specs.Run.{Site, first_state, Coming}
use Rattle.rip_history.specs.Runs.{after_turns, AreTurns, IsRun, IsBrokenTurn}
use Rattle.rip_history.specs.Services.{Called, Service, service_of}
use Rattle.rip_law_history.specs.Broken.{BreaksOff}
use Rattle.rip_law_history.specs.Legal.{history_of}

-- what a session does in a batch of a number is in range: a call that is served is of no opening, and has a number, a name and
-- args that a batch may report; an ending is one that a log has
abbrev pub IsFact : ℕ → Fact → Type 0
IsFact batch passes = ⊤
IsFact batch (serves number name args) = (1 ≤ batch) × IsShort number × IsName name × AreArgs args
IsFact batch (finishes how) = IsNoneOrEnding how

-- so is a part, where so many batches were admitted: its batch is one of them, and the number of its item is a short one
pub record IsPart (batches : ℕ) (p : Part) : Type 0 where
  pub batch : p.batch ≤ batches
  pub item : IsShort p.item
  pub fact : IsFact p.batch p.fact

-- what sessions do is in range, whatever they are given, where their batches are
abbrev pub MeansInRange : Meaning → Type 0
MeansInRange m =
    (seed time : ℕ) (batches : List Contents) (given : List Given) → AllByRecursion IsBatch batches
    → AllByRecursion (IsPart (length batches)) (m seed time batches given)

-- a call is in range
abbrev pub IsCalled : Called → Type 0
IsCalled (name, args) = IsName name × AreArgs args

-- what a service replies is in range, where the calls are
abbrev pub RepliesInRange : Service → Type 0
RepliesInRange service = (calls : List Called) (call : Called) → AllByRecursion IsCalled calls → IsCalled call → IsReply (service calls call)

-- the moment of a turn is a long number
abbrev pub AreTimed : List Coming → Type 0
AreTimed ts = AllByRecursion (λ (t : Coming). IsLong t.moment) ts

-- each entry of the history of turns is in range
abbrev pub RunsAreInRange : Type 0
RunsAreInRange =
    (site : Site) (ts : List Coming) → IsLawful site.meaning → MeansInRange site.meaning → RepliesInRange site.service
    → length ts < 2 ^ 64 → AreTimed ts → AreTurns site 1 first_state ts → IsHistory (history_of site ts)

-- each entry that a whole run puts is in range
abbrev pub LogsAreInRange : Type 0
LogsAreInRange =
    (site : Site) (most : Option ℕ) (ts : List Coming) (status : ℕ) (acts : List Act)
    → IsLawful site.meaning → MeansInRange site.meaning → RepliesInRange site.service
    → length ts < 2 ^ 64 → AreTimed ts → IsRun site most ts status acts → IsHistory (put_in acts)

-- each entry of a history that a turn broke off is in range
abbrev pub BrokenRunsAreInRange : Type 0
BrokenRunsAreInRange =
    (site : Site) (ts : List Coming) (t : Coming) (history : List Recorded)
    → IsLawful site.meaning → MeansInRange site.meaning → RepliesInRange site.service
    → length ts + 1 < 2 ^ 64 → AreTimed (ts ++ t ∷ []) → AreTurns site 1 first_state ts
    → IsBrokenTurn site (length ts + 1) (after_turns site 1 first_state ts) t
    → BreaksOff site (length ts) (history_of site ts) t history → IsHistory history

-- the functions of an application reply in range
abbrev pub FunctionsReplyInRange : Type 0
FunctionsReplyInRange = (fs : List Function) → RepliesInRange (service_of fs)
