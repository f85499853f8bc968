use Rattle.std.proofs.Common.{sym, subst}
use Rattle.rip_heap.specs.declared.host.HostDone.{HostDone}
use Rattle.rip_heap.specs.World.{World}
use Rattle.rip_calls.specs.Calls.{Calls}
use Rattle.rip_host.specs.Visit.{KeepsBrowser}
use Rattle.rip_host.proofs.CallLemmas.{name_fits}
use Rattle.rip_host.proofs.FitsLemmas.{keeps-call}
use Rattle.rip_host.proofs.browser.Browser.make_call.Goals as goal

pub write_call-requires : goal.write_call-requires
write_call-requires c = name_fits _ c.requires.name

pub returns-in-Ok-clause-keeps : goal.returns-in-Ok-clause-keeps
returns-in-Ok-clause-keeps c =
    let w = c.args.heap.now in
    let s = c.args.self.now in
    let P : HostDone × World × Calls → Type 0 = λ p. KeepsBrowser w s p.0 p.1 (record s { calls = p.2 }) in
    subst P (sym c.put_call.ensures) (keeps-call w s c.in-Ok.text.now c.args.callback c.requires.fits c.requires.belongs)
