-- Where a search comes to.
use Rattle.std.proofs.Common.{Ok, Err, sym, ◌∙◌}
use Rattle.std.proofs.lemmas.Bool.{true≢false}
use Rattle.std.proofs.lemmas.List.Sorted.{searched}
use Rattle.rip_table.proofs.RiseLemmas.{rises_sorted, found_among}
use Rattle.rip_table.proofs.roll.busy.place_for.Goals as goal

pub returns-in-Ok-clause-place : goal.returns-in-Ok-clause-place
returns-in-Ok-clause-place c = λ rises absent.
    let xs = c.args.list.now in
    let found = searched xs c.args.session (Ok c.in-Ok.place) c.in-Ok.ensures.position (rises_sorted 0 xs rises) in
    absurd (true≢false (sym (found_among c.args.session c.in-Ok.place xs found.0 found.1) ∙ absent))

pub returns-in-Err-clause-place : goal.returns-in-Err-clause-place
returns-in-Err-clause-place c = λ rises absent.
    let xs = c.args.list.now in
    let found = searched xs c.args.session (Err c.in-Err.place) c.in-Err.ensures.position (rises_sorted 0 xs rises) in
    record { below = found.1; above = found.2 }
