use Rattle.std.proofs.Common.{◌≡◌, List, ◌++◌}
use Rattle.serde_json.specs.View.{members_view}
use Rattle.serde_json.proofs.Views.{Entry}
use Rattle.rip_manifest.specs.Limits.{NameLimits}
use Rattle.rip_manifest.proofs.limits.name_limits.Given as goal

-- the members so far have names of limits, and come before those that are left
abbrev pub invariant-loop-name : goal.invariant-loop-name
invariant-loop-name l =
    (done : List Entry) × (l.members.entries ≡ done ++ l.name-iterator) × NameLimits l.version (members_view done)
