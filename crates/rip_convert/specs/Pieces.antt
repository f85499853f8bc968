-- The steps for the pieces of a datum, as its lists hold them.
use Rattle.std.specs.Prelude.{ℕ, List, map}
use Rattle.rip_heap.specs.World.{World}
use Rattle.rip_data.specs.Datum.{tree_of, elements_of, fields_of}
use Rattle.rip_data.specs.declared.datum.Datum.{Datum}
use Rattle.rip_convert.specs.Values.{Made, elements_in, fields_in}

abbrev pub elements_made : ℕ → List Datum → World → Made (Unit {0})
elements_made n ds = elements_in n (elements_of (map tree_of ds))

abbrev pub fields_made : ℕ → List (List ℕ × Datum) → World → Made (Unit {0})
fields_made n fs = fields_in n (fields_of (map (λ f. (f.0, tree_of f.1)) fs))
