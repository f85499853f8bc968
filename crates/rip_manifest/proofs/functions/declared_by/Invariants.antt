use Rattle.std.proofs.Common.{◌≡◌, List, ◌++◌}
use Rattle.serde_json.specs.View.{members_view}
use Rattle.serde_json.proofs.Views.{Entry}
use Rattle.rip_manifest.specs.Functions.{DeclareAll}
use Rattle.rip_manifest.proofs.functions.declared_by.Given as goal

-- the members so far declare the functions, and come before those that are left
abbrev pub invariant-loop-name : goal.invariant-loop-name
invariant-loop-name l =
    (done : List Entry) × (l.members.entries ≡ done ++ l.name-iterator) × DeclareAll (members_view done) l.functions.items
