use Rattle.std.proofs.Common.{rules, Contains, subst}
use Rattle.rip_outer.specs.declared.connections.Knock.TheVariants.{Bytes}
use Rattle.rip_outer.specs.Connections.{FitsRoom}
use Rattle.rip_real.specs.Journal.{JournalState, Tells}
use Rattle.rip_real.proofs.Journals.{journal_heard, tells_heard}
use Rattle.rip_real.proofs.journal.Journal.hear.Goals as goal

pub invariant_of-self : goal.invariant_of-self
invariant_of-self c =
    let i = c.self.inside in
    journal_heard i.history.deeds c.then-self-inside.result.deeds i.opened c.args.c c.args.count i.live.items c.args.room.now c.args.busy c.self.invariant c.then-self-inside.ensures

pub returns : goal.returns
returns c =
    let i = c.self.inside in
    let more = c.then-self-inside.result.deeds in
    let listed : Contains i.live.items c.args.c = search rules in
    let fits : FitsRoom (Bytes c.args.c c.args.count) = search rules in
    let tells = tells_heard i.history.deeds more i.opened i.faults c.args.c c.args.count i.live.items c.args.room.now c.args.busy c.self.invariant listed fits c.then-self-inside.ensures in
    subst (λ (s : JournalState). Tells s (record { deeds = more; opened = i.opened; live = i.live.items; faults = i.faults }) (Bytes c.args.c c.args.count) c.args.room.now c.args.busy) c.self.view_is tells
