use Rattle.std.proofs.Common.{◌≡◌, List, ◌++◌, map}
use Rattle.rip_data.specs.Datum.{tree_of}
use Rattle.rip_store.specs.Operations.{text_of}
use Rattle.rip_store.proofs.PlaceLemmas.{Entry}
use Rattle.rip_store.proofs.KeyLemmas.{under}
use Rattle.rip_store.proofs.places.Places.keys_under.Given as goal

-- the keys are those of the entries so far, which come before those that are left
abbrev pub invariant-loop-place : goal.invariant-loop-place
invariant-loop-place l =
    (done : List Entry) × (l.initial.place-iterator ≡ done ++ l.place-iterator) × (map tree_of l.keys.items ≡ map text_of (under l.prefix done))
