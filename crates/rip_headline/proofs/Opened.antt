-- What is open of the depth in a session, by its evaluation and by its machine.
use Rattle.std.proofs.Common.{◌≡◌, ap, refl}
use Rattle.rip_app.specs.App.{Loaded}
use Rattle.rip_eval_rows.specs.declared.step.Phase.{Phase}
use Rattle.rip_eval_rows.specs.declared.step.Phase.TheVariants.{Asking, Taking, Awaiting, Running, Over}
use Rattle.rip_replica.specs.Going.{depth_in}
use Rattle.rip_machine.specs.Law.{Standing}
use Rattle.rip_replica.specs.declared.replica.Place.{Place}
use Rattle.rip_replica.specs.declared.replica.Place.TheVariants.{Idle}
use Rattle.rip_replica.specs.Numbers.{open_at}
use Rattle.rip_session.specs.Application.{runs_of}
use Rattle.rip_headline.specs.Within.{depth_of, open_in}

same-depth : (app : Loaded) (m : Standing) (phase : Phase) → depth_in (runs_of app) m phase ≡ depth_of phase m
same-depth app m Asking = refl
same-depth app m Taking = refl
same-depth app m Awaiting = refl
same-depth app m (Running item) = refl
same-depth app m (Over close) = refl

pub same_open : (app : Loaded) (place : Place) (m : Standing) (phase : Phase) → open_at place (depth_in (runs_of app) m phase) ≡ open_in place phase m
same_open app place m phase = ap (open_at place) (same-depth app m phase)

-- at no place in a batch nothing is
pub none_open : (place : Place) (phase : Phase) (m : Standing) → place ≡ Idle → open_in place phase m ≡ 0
none_open place phase m is = ap (λ (p : Place). open_in p phase m) is
