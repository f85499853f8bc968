use Rattle.std.proofs.Common.{Contains, sym, subst}
use Rattle.rip_real.specs.Journal.{JournalState, Tells}
use Rattle.rip_outer.specs.declared.connections.Knock.TheVariants.{Gone}
use Rattle.rip_real.proofs.Journals.{journal_gone, tells_gone}
use Rattle.rip_real.proofs.journal.Journal.leave.Goals as goal

pub invariant_of-self : goal.invariant_of-self
invariant_of-self c =
    let i = c.self.inside in
    journal_gone i.history.deeds c.then-self-inside.result.deeds i.opened c.args.c i.live.items c.strike.new.live.items c.args.room.now c.args.busy c.self.invariant (subst (λ (s : JournalState). Contains s.live c.args.c) (sym c.self.view_is) c.requires) c.strike.ensures c.then-self-inside.ensures

pub returns : goal.returns
returns c =
    let i = c.self.inside in
    let more = c.then-self-inside.result.deeds in
    let listed = subst (λ (s : JournalState). Contains s.live c.args.c) (sym c.self.view_is) c.requires in
    let tells = tells_gone i.history.deeds more i.opened i.faults c.args.c i.live.items c.strike.new.live.items c.args.room.now c.args.busy c.self.invariant listed c.then-self-inside.ensures in
    subst (λ (s : JournalState). Tells s (record { deeds = more; opened = i.opened; live = c.strike.new.live.items; faults = i.faults }) (Gone c.args.c) c.args.room.now c.args.busy) c.self.view_is tells
