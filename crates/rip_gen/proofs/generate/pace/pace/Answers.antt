use Rattle.std.proofs.Common.{rules}
use Rattle.std.specs.Prelude.{Some, None}
use Rattle.rip_data.specs.Datum.{tree_of, trees_in}
use Rattle.rip_wire.specs.Batches.{contents_of}
use Rattle.rip_log.specs.declared.entry.Entry.TheVariants.{Admitted, Done, Ended, Opened, Served}
use Rattle.rip_gen.specs.Pace.{admits, answers, ends, opens, serves}
use Rattle.rip_gen.proofs.PaceLemmas.{paces_so}
use Rattle.rip_gen.proofs.generate.pace.pace.Goals as goal

pub returns-in-Some-Opened : goal.returns-in-Some-Opened
returns-in-Some-Opened c =
    let e = c.in-Some-Opened in
    paces_so c.args.answered None (Some e.last) c.args.entry.now (Opened e.turn e.session-1 e.id-1 e.seed-1 e.time-1) e.is-0 e.is-1
    (opens e.last e.turn e.session-1 e.id-1 e.seed-1 e.time-1 (search rules))

pub returns-in-Some-Admitted : goal.returns-in-Some-Admitted
returns-in-Some-Admitted c =
    let e = c.in-Some-Admitted in
    paces_so c.args.answered None (Some e.last) c.args.entry.now (Admitted e.turn e.session-1 e.batch-1) e.is-0 e.is-1 (admits e.last e.turn e.session-1 (contents_of e.batch-1) (search rules))

pub returns-in-Some-Ended : goal.returns-in-Some-Ended
returns-in-Some-Ended c =
    let e = c.in-Some-Ended in
    paces_so c.args.answered (Some e.last) (Some e.last) c.args.entry.now (Ended e.turn e.status-1) e.is-0 e.is-1 (ends e.last e.turn e.status-1 (search rules))

pub returns-in-None-Served : goal.returns-in-None-Served
returns-in-None-Served c =
    let e = c.in-None-Served in
    paces_so c.args.answered None None c.args.entry.now (Served _ e.session-1 e.batch-1 e.number-1 e.name-1 e.args-1 e.time-1 e.reply-1) e.is-0 e.is-1
    (serves _ e.session-1 e.batch-1 e.number-1 e.name-1 (trees_in e.args-1) e.time-1 (tree_of e.reply-1))

pub returns-in-None-Done : goal.returns-in-None-Done
returns-in-None-Done c =
    let e = c.in-None-Done in
    paces_so c.args.answered (Some e.turn) None c.args.entry.now (Done e.turn e.session-1 e.batch-1 e.ended-1) e.is-0 e.is-1 (answers e.turn e.session-1 e.batch-1 e.ended-1)
