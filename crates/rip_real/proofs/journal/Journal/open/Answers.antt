use Rattle.std.proofs.Common.{◌++◌, ◌∷◌, [], ℕ, List, ap, ◌∙◌}
use Rattle.rip_real.proofs.Journals.{journal_opened}
use Rattle.rip_real.proofs.journal.Journal.open.Goals as goal

pub invariant_of-self-2 : goal.invariant_of-self-2
invariant_of-self-2 c =
    let i = c.self.inside in
    journal_opened i.history.deeds c.then-self-inside.result.deeds i.opened i.live.items c.push_reserved.new.self.items c.args.room.now c.args.busy c.self.invariant (c.push_reserved.ensures.items ∙ ap (λ (xs : List ℕ). xs ++ i.opened ∷ []) c.reserve.ensures.items) c.then-self-inside.ensures
