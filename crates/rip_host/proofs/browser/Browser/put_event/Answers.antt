use Rattle.std.proofs.Common.{sym, subst, Some}
use Rattle.rip_base.specs.declared.value.Value.TheVariants.{Undefined}
use Rattle.rip_heap.specs.declared.host.HostDone.TheVariants.{Value}
use Rattle.rip_host.specs.Events.{Occurred}
use Rattle.rip_host.specs.Flow.{with_events}
use Rattle.rip_host.specs.Visit.{KeepsBrowser}
use Rattle.rip_host.proofs.EventFits.{fits-event}
use Rattle.rip_host.proofs.FitsLemmas.{keeps-value-here}
use Rattle.rip_host.proofs.browser.Browser.put_event.Goals as goal

pub returns-clause-keeps : goal.returns-clause-keeps
returns-clause-keeps c =
    let P : Occurred → Type 0 = λ events. KeepsBrowser c.args.heap.now c.args.self.now (Value Undefined) c.args.heap.now (record c.args.self.now { events = events }) in
    subst P (sym c.put.ensures)
    (keeps-value-here c.args.heap.now c.args.self.now (with_events c.args.self.now (Some c.args.event)) Undefined
    (fits-event c.args.self.now c.args.heap.now c.args.event c.requires.fits c.requires.made c.requires.nodes) tt)
