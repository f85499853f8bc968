-- A value that is lent: what is left behind the reference stands in the table.
use Rattle.std.specs.Prelude.{ℕ, Option}
use Rattle.std.specs.Borrow.{MutBor, LendsIf}
use Rattle.std.specs.List.{position_or_len}
use Rattle.std.specs.Prelude.{nat_eq}
use denote.RattleType.{RattleType}
use base.Fml.{Fml}
use Rattle.rip_table.specs.contracts.table.Table.{the_row}
use Rattle.rip_table.specs.declared.table.Table.{Table}
use Rattle.rip_table.specs.Table.{with_value, ids}

module _ (T : RattleType) where
  -- the value at a place
  abbrev pub LendsPlace : MutBor (Table T.Denot) → ℕ → Option (MutBor T.Denot) → Fml
  LendsPlace table place r = LendsIf (the_row T) T table r (with_value table.now place) table.now

  -- the value of the session with an identifier
  abbrev pub LendsSession : MutBor (Table T.Denot) → ℕ → Option (MutBor T.Denot) → Fml
  LendsSession table id = LendsPlace table (position_or_len (nat_eq id) (ids table.now))
