use Rattle.std.proofs.Common.{◌≡◌, List, ◌++◌, take, map}
use Rattle.serde_json.specs.View.{view}
use Rattle.serde_json.proofs.Views.{Entry}
use Rattle.rip_data.specs.Datum.{tree_of, data_of}
use Rattle.rip_data.specs.Written.{AreElements, AreFields}
use Rattle.rip_data.proofs.DataLemmas.{seen, shown}
use Rattle.rip_data.proofs.read.+convert.Given as goal

-- the elements so far are those that were read
abbrev pub invariant-elements_of-loop-item : goal.invariant-elements_of-loop-item
invariant-elements_of-loop-item l =
    (map (λ d. data_of (tree_of d)) l.made.items ≡ map view (take l.item-index l.item-items)) × AreElements l.made.items

-- the fields so far are the members that were read, which come before those that are left
abbrev pub invariant-fields_of-loop-name : goal.invariant-fields_of-loop-name
invariant-fields_of-loop-name l =
    (done : List Entry) × (l.members.entries ≡ done ++ l.name-iterator) × (map seen l.made.items ≡ map shown done) × AreFields l.made.items
