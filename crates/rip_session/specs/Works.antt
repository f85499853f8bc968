-- An item as the program keeps it.
use Rattle.std.specs.Prelude.{◌≡◌, ℕ, List}
use Rattle.rip_data.specs.Datum.{Tree, trees_in}
use Rattle.rip_wire.specs.Items.{Reported, event, call, reply, AreArgs}
use Rattle.rip_replica.specs.declared.items.session.Item.TheVariants as item
use Rattle.rip_replica.specs.declared.works.Call.{Call}
use Rattle.rip_session.specs.declared.work.work.Kind.{Kind}
use Rattle.rip_session.specs.declared.work.work.Kind.TheVariants.{Opens, Handles, Calls}
use Rattle.rip_session.specs.Tasks.{Task, opens, reports, item_of}

-- what a call reports
abbrev pub report_of : Call → Reported
report_of c = call c.number c.name (trees_in c.args)

-- what it is
abbrev pub task_of : Kind → Task
task_of (Opens start) = opens start
task_of (Handles (item.Event report)) = reports (event report.kind report.node report.text report.place)
task_of (Handles (item.Call number text)) = reports (reply number)
task_of (Handles (item.Reply number)) = reports (reply number)
task_of (Calls i c) = reports (report_of c)

-- what it keeps: only a call is an item of a call, by its own text, and its args are in range
abbrev pub IsKind : Kind → Type 0
IsKind (Opens start) = Unit {0}
IsKind (Handles (item.Event report)) = Unit {0}
IsKind (Handles (item.Call number text)) = ⊥
IsKind (Handles (item.Reply number)) = Unit {0}
IsKind (Calls i c) = (i ≡ item_of (report_of c)) × AreArgs (trees_in c.args)

-- it is a call of this number and name, with args of these trees
abbrev pub IsCallKind : ℕ → List ℕ → List Tree → Kind → Type 0
IsCallKind number name args k = (task_of k ≡ reports (call number name args)) × IsKind k
