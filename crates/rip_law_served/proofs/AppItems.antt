-- The items of an application's sessions.
use Rattle.std.proofs.Common.{◌≡◌, ℕ, false, List, refl}
use Rattle.std.specs.Prelude.{Some}
use Rattle.rip_app.specs.App.{Loaded}
use Rattle.rip_eval_rows.specs.declared.close.Close.TheVariants.{Stopped}
use Rattle.rip_eval_rows.specs.declared.completion.Stop.{Stop}
use Rattle.rip_eval_rows.specs.declared.completion.Stop.TheVariants.{Fault, Limit}
use Rattle.rip_host.specs.declared.browser.Browser.{Browser}
use Rattle.rip_wire.specs.Items.{Reported, event, call, reply}
use Rattle.rip_history.specs.Parts.{finishes}
use Rattle.rip_session.specs.Endings.{ending_of}
use Rattle.rip_session.specs.Tasks.{Task, fact_of, reports}
use Rattle.rip_session.specs.Application.{doing_of}
use Rattle.rip_law_replica.specs.Truthful.{AreItems, is_lie}
use Rattle.rip_law_replica.proofs.Told.{truth_served}
use Rattle.rip_law_served.specs.Honest.{HonestAreServed, next_in}
use Rattle.rip_law_served.proofs.NextCalls.{serves_next}

no_lie_reported : (r : Reported) → is_lie (fact_of (reports r)) ≡ false
no_lie_reported (event kind node text place) = refl
no_lie_reported (call number name args) = refl
no_lie_reported (reply number) = refl

no_lie_stopped : (all : List Task) (item : ℕ) (stop : Stop) (s : Browser) → is_lie (finishes (Some (ending_of all (Stopped item stop) s))) ≡ false
no_lie_stopped all item (Fault fault) s = refl
no_lie_stopped all item (Limit limit) s = refl

are_items : (app : Loaded) (seed time : ℕ) → AreItems (doing_of app seed time) reports
are_items app seed time = record { opening = refl; items = λ b. refl; fine = no_lie_reported; stopped = no_lie_stopped }

pub honest_served : HonestAreServed
honest_served app seed time gestures given batches told k =
    truth_served Task Browser (doing_of app seed time) reports next_in gestures given batches (are_items app seed time) (serves_next app seed time) told k
