use Rattle.std.proofs.Common.{refl}
use Rattle.rip_trace.proofs.LineLemmas.{other_say}
use Rattle.rip_trace.proofs.line.saying_in.Goals as goal

pub returns-in_err-asked_in-clause-none : goal.returns-in_err-asked_in-clause-none
returns-in_err-asked_in-clause-none c =
    λ _. other_say c.args.rest.now c.in_ok-connection.connection c.in_ok-connection.asks.now c.in_ok-connection.ensures.is c.in_ok-connection.ensures.bounded (c.in_err-asked_in.ensures.none refl)
