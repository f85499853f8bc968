-- What waits is behind what is passed.
use Rattle.std.proofs.Common.{◌≡◌, ◌+◌, subst, sym}
use Rattle.rip_table.specs.Walks.{waiting_in}
use Rattle.rip_table.specs.declared.roll.busy.Busy.{Busy}
use Rattle.rip_table.proofs.BusyLemmas.{rest_next, rest_kept}
use Rattle.rip_table.proofs.roll.busy.Busy.pass.Goals as goal
use Rattle.rip_table.proofs.roll.busy.Busy.pass.Goals.{then-stays, else-stays}

pub returns-clause-waiting : goal.returns-clause-waiting
returns-clause-waiting c = λ n rest e.
    let old = c.args.self.now in
    elim c.if-stays.branch [
      | then-stays w ↦
          subst (λ (s : Busy). waiting_in (record s { next = s.next + 1 }) ≡ rest) (sym w.self-is)
          (rest_kept old.list.items old.next old.kept _ n rest c.requires.walk.kept e)
      | else-stays w ↦ subst (λ (s : Busy). waiting_in (record s { next = s.next + 1 }) ≡ rest) (sym w.self-is) (rest_next old.list.items old.next n rest e)
    ]
