use Rattle.std.proofs.Common.{◌≡◌, ◌<◌, Some, length, map, refl, sym, subst, arith}
use Rattle.std.specs.Prelude.{slice_get}
use Rattle.std.specs.List.{AllByRecursion}
use Rattle.std.proofs.lemmas.Option.{slice_get_read}
use Rattle.rip_wire.specs.Items.{IsItem, reported_of}
use Rattle.rip_session.proofs.WorkLemmas.{item-in-range}
use Rattle.rip_session.proofs.work.work.works_of.Goals as goal

pub reports-requires : goal.reports-requires
reports-requires c =
    let within : c.loop-item.item-index < length c.as_slice-items.result.now = omega arith in
    let here : slice_get c.as_slice-items.result.now c.loop-item.item-index ≡ Some c.item-item.result =
    slice_get_read c.as_slice-items.result.now (length c.as_slice-items.result.now) c.loop-item.item-index c.item-item.result refl within c.item-item.is in
    item-in-range c.as_slice-items.result.now c.loop-item.item-index c.item-item.result
    (subst (λ ys. AllByRecursion IsItem (map reported_of ys)) (sym c.as_slice-items.ensures) c.requires.items) here
