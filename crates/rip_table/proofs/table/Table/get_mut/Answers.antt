-- The session stands at the place that was found.
use Rattle.std.proofs.Common.{◌≡◌, nat_eq, refl}
use Rattle.std.specs.List.{position_or_len}
use Rattle.rip_table.specs.Table.{ids}
use Rattle.rip_table.proofs.TableLemmas.{position_is}
use Rattle.rip_table.proofs.table.Table.get_mut.Goals as goal

pub returns : goal.returns
returns g c =
    let place : position_or_len (nat_eq c.args.id) (ids c.args.self.now) ≡ c.in_ok-place.place =
    position_is (nat_eq c.args.id) (ids c.args.self.now) c.in_ok-place.place c.in_ok-place.ensures.index in
    (rw place refl, record { writes_back = tt; value = rw (← c.in_ok-place.ensures.index) c.live_mut.ensures.value })
