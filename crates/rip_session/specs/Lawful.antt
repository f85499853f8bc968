-- What the sessions of an application do is lawful: their batches and what they are given make it in their order.
use Rattle.rip_app.specs.App.{Loaded}
use Rattle.rip_history.specs.Parts.{IsLawful}
use Rattle.rip_law_replica.proofs.Lawful.{lawful}
use Rattle.rip_session.specs.Serving.{may_serve}
use Rattle.rip_session.specs.Shapes.{shapes}
use Rattle.rip_session.specs.Application.{doing_of, meaning_of_app}

pub app_is_lawful : (app : Loaded) → IsLawful (meaning_of_app app)
app_is_lawful app = lawful (doing_of app) may_serve (λ seed time batch a n w s. shapes batch a n w s)
