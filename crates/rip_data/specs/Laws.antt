-- Laws of the canonical text.
use Rattle.std.specs.Prelude.{◌≡◌}
use Rattle.rip_data.specs.Datum.{Tree, canonical_text, IsDatum}

-- no two well-made data have one canonical text
abbrev pub TextIsInjective : Type 0
TextIsInjective = (t u : Tree) → IsDatum t → IsDatum u → canonical_text t ≡ canonical_text u → t ≡ u
