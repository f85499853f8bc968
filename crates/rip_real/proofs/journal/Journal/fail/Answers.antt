use Rattle.rip_real.proofs.Journals.{journal_failed}
use Rattle.rip_real.proofs.journal.Journal.fail.Goals as goal

pub invariant_of-self : goal.invariant_of-self
invariant_of-self c =
    let i = c.self.inside in
    journal_failed i.history.deeds c.then-self-inside.result.deeds i.opened i.live.items c.args.room.now c.args.busy c.self.invariant c.then-self-inside.ensures
