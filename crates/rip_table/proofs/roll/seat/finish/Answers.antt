-- What the batch served is handed on.
use Rattle.std.proofs.Common.{Option, Some, refl, sym, subst}
use Rattle.rip_wire.specs.declared.ending.Ending.{Ending}
use Rattle.rip_history.specs.declared.sessions.Progress.TheVariants.{Finished}
use Rattle.rip_table.specs.Seats.{IsSettled}
use Rattle.rip_table.specs.declared.roll.seat.Legacy.{Legacy}
use Rattle.rip_table.proofs.roll.seat.finish.Goals as goal

pub returns-in-Some : goal.returns-in-Some
returns-in-Some g c =
    let living = c.args.living.now in
    let legacy : Legacy = record { opening = living.notes.opening; told = c.args.served } in
    subst (λ (how : Option Ending). IsSettled (Finished how) c.args.served.items living living (Some legacy)) (sym c.in-Some.is)
    (refl, (legacy, refl, refl, refl))
