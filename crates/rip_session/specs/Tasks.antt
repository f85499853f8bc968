-- What the items of a session are.
use Rattle.std.specs.Prelude.{◌≡◌, ◌⊎◌, ℕ, List, [], map, Option, refl}
use Rattle.std.specs.Coded.{Coded, code_by, coded×, coded⊎, coded_ℕ, coded_list, coded_option}
use Rattle.std.proofs.Common.{inl, inr}
use Rattle.rip_base.specs.declared.report.EventKind.{EventKind}
use Rattle.rip_base.specs.contracts.report.EventKind as kind
use Rattle.rip_calls.specs.Calls.{number_at}
use Rattle.rip_data.specs.Datum.{Tree}
use Rattle.rip_wire.specs.Batches.{Contents}
use Rattle.rip_wire.specs.Calls.{call_text}
use Rattle.rip_wire.specs.Items.{Reported, event, call, reply}
use Rattle.rip_replica.specs.declared.items.session.Item.{Item}
use Rattle.rip_replica.specs.declared.items.session.Item.TheVariants as item
use Rattle.rip_history.specs.Parts.{Fact, passes, serves}
use Rattle.rip_host.specs.Trees.{tree_code}
use Rattle.rip_browser.specs.declared.opening.Start.{Start}
use Rattle.rip_browser.specs.contracts.opening.Start as start

-- an item of a session: its opening, or what a browser reports
pub data Task : Type 0 where
  opens : Start → Task
  reports : Reported → Task

-- the items of a batch
abbrev pub tasks_of : Contents → List Task
tasks_of b = map reports b.items

-- what is reported, as an item of a page: a call by its text, and by its number as 64 bits hold it
abbrev pub item_of : Reported → Item
item_of (event kind node text place) = item.Event (record { kind = kind; node = node; text = text; place = place })
item_of (call number name args) = item.Call (number_at number) (call_text name args)
item_of (reply number) = item.Reply number

-- this is the item of a page that reports it
abbrev pub IsItemOf : Item → Task → Type 0
IsItemOf i t = (r : Reported) × ((t ≡ reports r) × (i ≡ item_of r))

-- what it comes to, where it is over and fine
abbrev pub fact_of : Task → Fact
fact_of (opens start) = passes
fact_of (reports (event kind node text place)) = passes
fact_of (reports (call number name args)) = serves number name args
fact_of (reports (reply number)) = passes

-- the number, as 64 bits hold it, and the text of the call that it reports; of another 0 and none
abbrev pub reported_by : Task → ℕ × List ℕ
reported_by (opens start) = (0, [])
reported_by (reports (event kind node text place)) = (0, [])
reported_by (reports (call number name args)) = (number_at number, call_text name args)
reported_by (reports (reply number)) = (0, [])

-- ---- the code of a task

abbrev Parts : Type 0
Parts = Start ⊎ ((EventKind × (ℕ × (Option (List ℕ) × Option ℕ))) ⊎ ((ℕ × (List ℕ × List Tree)) ⊎ ℕ))

abbrev pub parts_to : Task → Parts
parts_to (opens start) = inl start
parts_to (reports (event kind node text place)) = inr (inl (kind, (node, (text, place))))
parts_to (reports (call number name args)) = inr (inr (inl (number, (name, args))))
parts_to (reports (reply number)) = inr (inr (inr number))

abbrev pub parts_from : Parts → Task
parts_from (inl start) = opens start
parts_from (inr (inl parts)) = reports (event parts.0 parts.1.0 parts.1.1.0 parts.1.1.1)
parts_from (inr (inr (inl parts))) = reports (call parts.0 parts.1.0 parts.1.1)
parts_from (inr (inr (inr number))) = reports (reply number)

pub parts_back : (t : Task) → parts_from (parts_to t) ≡ t
parts_back (opens start) = refl
parts_back (reports (event kind node text place)) = refl
parts_back (reports (call number name args)) = refl
parts_back (reports (reply number)) = refl

abbrev pub task_code : Coded Task
task_code = code_by Parts
    (coded⊎ start.the_row.coded
    (coded⊎ (coded× kind.the_row.coded (coded× coded_ℕ (coded× (coded_option (coded_list coded_ℕ)) (coded_option coded_ℕ))))
    (coded⊎ (coded× coded_ℕ (coded× (coded_list coded_ℕ) (coded_list tree_code))) coded_ℕ)))
    parts_to parts_from parts_back
