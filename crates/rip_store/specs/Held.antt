-- What a store holds, as contracts see it.
use Rattle.std.specs.Prelude.{List, map}
use Rattle.rip_data.specs.Datum.{tree_of}
use Rattle.rip_manifest.specs.declared.function.Function.{Function}
use Rattle.rip_store.specs.declared.places.Places.{Places}
use Rattle.rip_store.specs.declared.store.Store.{Store}
use Rattle.rip_store.specs.Places.{Stored}

-- the places with their data, in the order of the places' bytes
abbrev pub stored_in : Places → Stored
stored_in p = map (λ e. (e.0.items, tree_of e.1)) p.held.entries

-- the same of a store
abbrev pub stored_of : Store → Stored
stored_of s = stored_in s.places

-- the functions of a store
abbrev pub functions_of : Store → List Function
functions_of s = s.functions
