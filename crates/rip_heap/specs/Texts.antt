use Rattle.std.specs.Prelude.{ℕ, Option, None, Some, List, length, ◌+◌, nat_le, if◌then◌else◌}
use Rattle.rip_base.specs.declared.value.Span.{Span}
use Rattle.rip_values.specs.Pool.{joined, span_behind, with_text}
use Rattle.rip_heap.specs.World.{World}

-- a new text, which costs its length in units, or none where that would pass the limit
abbrev pub new_text : World → List ℕ → Option (Span × World)
new_text w text =
    if nat_le (w.pool.used + length text) w.pool.limit then Some (span_behind w.pool text, record w { pool = with_text w.pool text (length text) })
    else None

-- the texts of two spans joined to a new one
abbrev pub concat : World → Span → Span → Option (Span × World)
concat w a b = new_text w (joined w.pool a b)

-- a name of the program, which costs nothing
abbrev pub name_added : World → List ℕ → Span × World
name_added w text = (span_behind w.pool text, record w { pool = with_text w.pool text 0 })
