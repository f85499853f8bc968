use Rattle.rip_real.proofs.Journals.{journal_sent}
use Rattle.rip_real.proofs.journal.Journal.take.Goals as goal

pub invariant_of-self : goal.invariant_of-self
invariant_of-self c =
    let i = c.self.inside in
    journal_sent i.history.deeds c.then-self-inside.result.deeds i.opened c.args.c i.live.items c.args.bytes.now c.self.invariant c.then-self-inside.ensures
