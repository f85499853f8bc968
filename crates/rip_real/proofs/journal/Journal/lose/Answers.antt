use Rattle.std.proofs.Common.{◌<◌, sym, subst}
use Rattle.rip_real.specs.Journal.{JournalState}
use Rattle.rip_real.proofs.Journals.{journal_lost}
use Rattle.rip_real.proofs.journal.Journal.lose.Goals as goal

pub invariant_of-self : goal.invariant_of-self
invariant_of-self c =
    let i = c.self.inside in
    journal_lost i.history.deeds c.then-self-inside.result.deeds i.opened c.args.c i.live.items c.strike.new.live.items c.args.bytes.now c.self.invariant (subst (λ (s : JournalState). c.args.c < s.opened) (sym c.self.view_is) c.requires) c.strike.ensures c.then-self-inside.ensures
