use Rattle.std.proofs.Common.{◌∙◌, [], ap, refl}
use Rattle.rip_limits.specs.declared.limits.Limits.{Limits}
use Rattle.rip_history.specs.Services.{RepliesAs, service_of}
use Rattle.rip_store.specs.Held.{functions_of}
use Rattle.rip_session.specs.Application.{meaning_of_app}
use Rattle.rip_serve.proofs.SiteLemmas.{serves_app}
use Rattle.rip_serve.proofs.site.serving.serve_app.Goals as goal

pub returns-clause-served : goal.returns-clause-served
returns-clause-served g c =
    let service = service_of (functions_of c.in_ok-store.store) in
    let replies : RepliesAs c.in_ok-store.store service [] = record { replies = refl; stored = c.in_ok-store.ensures.empty; kept = c.in_ok-store.ensures.kept } in
    serves_app c.args.app.now _ service _ _ c.args.turns c.serve.result _ _ (ap meaning_of_app c.of-sessions.ensures)
    (ap service_of (c.in_ok-store.ensures.functions ∙ c.functions.ensures)) (ap (λ (l : Limits). l.sessions) c.limits.ensures.value) c.bytes.ensures c.ranges.turns.fits
    (c.serve.ensures.serves service replies)
