use Rattle.rip_history.specs.Stages.{Stage}
use Rattle.rip_session.specs.declared.application.Session.{Session}
use Rattle.rip_session.specs.Application.{StandsAt, meaning_of_app}
use Rattle.rip_headline.proofs.Living.{living_stands}
use Rattle.rip_headline.proofs.limits.laws.sessions_stay_within.Goals as goal

pub returns : goal.returns
returns c = λ app live server state is n held there.
    let at = living_stands (λ (session : Session) (st : Stage). StandsAt app session.replica st) (meaning_of_app app) live server state is n held there in
    (at.1.within, at.1.page at.2)
