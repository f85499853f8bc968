-- The replies that a client of an application tells are due.
use Rattle.rip_host.specs.declared.browser.Browser.{Browser}
use Rattle.rip_session.specs.Tasks.{Task, reports}
use Rattle.rip_session.specs.Application.{doing_of}
use Rattle.rip_headline.proofs.DueTold.{told_due}
use Rattle.rip_law_served.specs.Honest.{next_in}
use Rattle.rip_law_served.proofs.AppItems.{honest_served}
use Rattle.rip_headline.specs.Complete.{ClientsAreServed, RepliesAreDue}
use Rattle.rip_headline.proofs.Keeping.{browser_keeps, kept_in}

pub are_due : RepliesAreDue
are_due app seed time gestures given batches told =
    told_due Task Browser (doing_of app seed time) reports next_in kept_in (browser_keeps app seed time) gestures given batches told

pub are_served : ClientsAreServed
are_served app seed time gestures given batches told k =
    honest_served app seed time gestures given batches (are_due app seed time gestures given batches told) k
