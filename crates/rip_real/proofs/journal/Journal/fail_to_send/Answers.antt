use Rattle.rip_real.proofs.Journals.{journal_not_sent}
use Rattle.rip_real.proofs.journal.Journal.fail_to_send.Goals as goal

pub invariant_of-self : goal.invariant_of-self
invariant_of-self c =
    let i = c.self.inside in
    journal_not_sent i.history.deeds c.then-self-inside.result.deeds i.opened c.args.c i.live.items c.args.bytes.now c.self.invariant c.then-self-inside.ensures
