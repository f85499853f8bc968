-- The session stands at the place before its ordinal.
use Rattle.std.proofs.Common.{◌-◌, slice_get}
use Rattle.rip_table.specs.Table.{is_live_at, live_value, values}
use Rattle.rip_table.proofs.TableLemmas.{live_here, some_ordinal}
use Rattle.rip_table.proofs.table.Table.end_at.Goals as goal

pub overflow_sub-ordinal : goal.overflow_sub-ordinal
overflow_sub-ordinal g c = (some_ordinal (live_value c.args.self.now) c.args.ordinal c.requires.live).0

pub end_place-requires : goal.end_place-requires
end_place-requires g c = record {
  table = c.requires.table;
  live =
      live_here (is_live_at c.args.self.now (c.args.ordinal - 1)) (slice_get (values c.args.self.now) (c.args.ordinal - 1))
      (some_ordinal (live_value c.args.self.now) c.args.ordinal c.requires.live).1;
}
