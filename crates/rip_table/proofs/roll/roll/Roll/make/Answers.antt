-- No session yet.
use Rattle.std.proofs.Common.{refl}
use Rattle.rip_table.specs.declared.roll.roll.Roll.{Roll}
use Rattle.rip_table.proofs.TellLemmas.{new_kept}
use Rattle.rip_table.proofs.roll.roll.Roll.make.Goals as goal

pub returns-clause-kept : goal.returns-clause-kept
returns-clause-kept g c =
    let made = c.in_ok-make.ensures in
    let roll : Roll g.row.T.Denot = record { table = c.in_ok-make.field-0; busy = c.make-2.result; limit = c.args.limit } in
    new_kept c.args.limit roll made.table made.empty made.most_live refl c.make-2.ensures.none
