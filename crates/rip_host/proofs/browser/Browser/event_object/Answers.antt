use Rattle.std.proofs.Common.{◌∙◌, sym}
use Rattle.rip_host.proofs.EventFits.{event-made, event-nodes}
use Rattle.rip_host.proofs.browser.Browser.event_object.Goals as goal

pub returns-in-Some-clause-nodes : goal.returns-in-Some-clause-nodes
returns-in-Some-clause-nodes c = event-nodes c.args.self.now c.args.heap.now c.args.object c.in-Some.event c.requires (sym c.get.ensures ∙ c.in-Some.is)

pub returns-in-Some-clause-made : goal.returns-in-Some-clause-made
returns-in-Some-clause-made c = event-made c.args.self.now c.args.heap.now c.args.object c.in-Some.event c.requires (sym c.get.ensures ∙ c.in-Some.is)
