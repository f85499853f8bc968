-- Laws of tables.
use Rattle.std.specs.Prelude.{ℕ}
use Rattle.rip_table.specs.declared.table.Table.{Table}
use Rattle.rip_table.specs.Table.{IsTable, with_value}

-- a table stays one, whatever value is left in the place of another
abbrev pub LentTableStays : Type 0 → Type 0
LentTableStays T = (t : Table T) (place : ℕ) (v : T) → IsTable t → IsTable (with_value t place v)
