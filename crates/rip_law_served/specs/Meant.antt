-- What the sessions of applications do is in range.
use Rattle.rip_app.specs.App.{Loaded}
use Rattle.rip_law_history.specs.Ranged.{MeansInRange}
use Rattle.rip_session.specs.Application.{meaning_of_app}

-- what the sessions of each application do is in range, whatever they are given, where their batches are
abbrev pub ApplicationsMeanInRange : Type 0
ApplicationsMeanInRange = (app : Loaded) → MeansInRange (meaning_of_app app)
