use Rattle.std.proofs.Common.{ap, length, length-append, take, arith}
use Rattle.std.proofs.lemmas.List.Folds.{length-flat_map-take}
use Rattle.std.specs.List.{flat_map}
use Rattle.rip_values.specs.declared.fixed.FixedText.TheVariants.{Empty}
use Rattle.rip_values.specs.FixedTable.{text_of}
use Rattle.rip_values.proofs.pool.push_all.Goals as goal

pub push_ascii-requires : goal.push_ascii-requires
push_ascii-requires c =
    let before = flat_map text_of (take c.loop-fixed.fixed-index c.args.texts.now) in
    let fits = length-flat_map-take text_of c.args.texts.now c.loop-fixed.fixed-index Empty c.loop-fixed-test.true in
    let now = ap length c.loop-fixed.invariant.units in
    record {
      room = omega (arith, fits, now, length-append c.args.units.now.items before, ap length c.text.ensures, c.loop-fixed.invariant.room, c.requires.room);
    }
