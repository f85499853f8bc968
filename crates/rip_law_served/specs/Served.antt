-- Which calls the sessions of an application serve.
use Rattle.std.specs.Prelude.{◌≡◌, ℕ, List, Option, None, Some}
use Rattle.rip_calls.specs.Calls.{number_at}
use Rattle.rip_wire.specs.Batches.{Contents}
use Rattle.rip_wire.specs.Calls.{call_text}
use Rattle.rip_wire.specs.Items.{event, call, reply}
use Rattle.rip_history.specs.Parts.{Given}
use Rattle.rip_tree.specs.Program.{Code}
use Rattle.rip_machine.specs.Law.{Standing}
use Rattle.rip_machine.specs.Plans.{evaluation}
use Rattle.rip_host.specs.Answers.{answers}
use Rattle.rip_host.specs.declared.browser.Browser.{Browser}
use Rattle.rip_browser.specs.Visits.{browser_rules}
use Rattle.rip_replica.specs.Parts.{Doing}
use Rattle.rip_law_replica.specs.Prefix.{AreCounted, AreNumbered, ServesPrefix, handled, items_of, opened}
use Rattle.rip_session.specs.Plans.{work_plan}
use Rattle.rip_session.specs.Serving.{served}
use Rattle.rip_session.specs.Tasks.{Task, opens, reports, fact_of}

-- the call that an item reports, if it reports one, by its number as 64 bits hold it and its text
abbrev pub call_of : Task → Option (ℕ × List ℕ)
call_of (opens start) = None
call_of (reports (event kind node text place)) = None
call_of (reports (call number name args)) = Some (number_at number, call_text name args)
call_of (reports (reply number)) = None

-- a session of such items over a browser serves the longest prefix of the reported calls that its script made
abbrev pub SessionsServePrefixes : Type 0
SessionsServePrefixes =
    (d : Doing Task Browser) → d.plan ≡ work_plan → d.fact ≡ fact_of
    → (bs : List Contents) (gs : List Given) → ServesPrefix browser_rules d call_of bs gs

-- what is done in a session of an application over its browser: items and served calls are those of a page, runs are those
-- of a machine that the browser answers, and as it is opened no call was served
pub record IsOverBrowser (d : Doing Task Browser) : Type 0 where
  pub plan : d.plan ≡ work_plan
  pub fact : d.fact ≡ fact_of
  pub serve : d.serve ≡ served
  pub code : Code
  pub machine : Standing
  pub run : d.run ≡ (let e = evaluation answers code in e.run machine)
  pub none : browser_rules.taken d.page ≡ 0

-- then the calls that are reported before it ends are numbered from 1, one after another: they are the first that the script
-- made
abbrev pub SessionsServeFirst : Type 0
SessionsServeFirst =
    (d : Doing Task Browser) → IsOverBrowser d → (bs : List Contents) (gs : List Given)
    → AreNumbered call_of 1 (handled d (opened d gs) (items_of d bs))

-- and before each item the position of the next call is one more than the browser has counted
abbrev pub SessionsCount : Type 0
SessionsCount =
    (d : Doing Task Browser) → IsOverBrowser d → (bs : List Contents) (gs : List Given)
    → AreCounted browser_rules d call_of (opened d gs) 1 (items_of d bs)
