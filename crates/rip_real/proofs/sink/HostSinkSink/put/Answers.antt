use Rattle.std.proofs.Common.{List, sym, subst}
use Rattle.rip_outer.specs.Outside.{Front}
use Rattle.rip_real.specs.History.{Deed, HostState, written_in}
use Rattle.rip_real.proofs.Deeds.{front_written}
use Rattle.rip_real.proofs.sink.HostSinkSink.put.Goals as goal

pub returns-then-count-bytes-clause-taken : goal.returns-then-count-bytes-clause-taken
returns-then-count-bytes-clause-taken g c =
    let old = c.self.inside.history.deeds in
    let new = c.then-self-inside.result.deeds in
    let bytes = c.args.bytes.now in
    let front = subst (λ (ds : List Deed). Front bytes (written_in old) (written_in ds)) (sym c.then-self-inside.ensures) (front_written old bytes c.write_front-count.result) in
    subst (λ (s : HostState). Front bytes (written_in s.deeds) (written_in new)) c.self.view_is front
