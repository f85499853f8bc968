use Rattle.std.proofs.Common.{◌∙◌, sym}
use Rattle.rip_host.proofs.EventFits.{event-nodes}
use Rattle.rip_host.proofs.OwnerLemmas.{owner-event}
use Rattle.rip_host.proofs.browser.Browser.read_object.Goals as goal

pub read_event-requires-clause-nodes : goal.read_event-requires-clause-nodes
read_event-requires-clause-nodes c =
    event-nodes c.args.self.now c.args.heap.now c.args.object c.in-Dispatched.event c.requires.fits
    (owner-event c.args.self.now c.args.object c.in-Dispatched.event (sym c.owner_of-owner.ensures ∙ c.in-Dispatched.is))
