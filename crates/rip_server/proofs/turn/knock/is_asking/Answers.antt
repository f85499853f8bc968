use Rattle.std.proofs.Common.{false, Bool, sym, subst}
use Rattle.std.proofs.lemmas.Bool.{true≢false, OnTrue_at, OnFalse_at}
use Rattle.rip_history.specs.Runs.{IsAsking, sessions}
use Rattle.rip_server.specs.Links.{links_of}
use Rattle.rip_server.proofs.KnockLemmas.{asking_so}
use Rattle.rip_server.proofs.turn.knock.is_asking.Goals as goal

pub returns-then-is_busy : goal.returns-then-is_busy
returns-then-is_busy g c = λ limit s links kept.
    subst (λ (b : Bool). IsAsking s b) (sym c.if-is_busy.true) (sessions (c.if-is_busy.ensures.busy limit s.history kept))

pub returns-else-is_busy : goal.returns-else-is_busy
returns-else-is_busy g c = λ limit s links kept.
    asking_so s false c.are_due.result (links_of c.args.connections.now) links (λ e none. true≢false (sym e)) (λ e. c.if-is_busy.ensures.idle limit s.history kept)
    (λ e. OnTrue_at e c.are_due.ensures.due) (λ e. OnFalse_at e c.are_due.ensures.quiet)
