-- The next is at its place.
use Rattle.std.proofs.Common.{◌∙◌, ap, List, ℕ}
use Rattle.std.specs.Prelude.{slice_get}
use Rattle.rip_table.proofs.BusyLemmas.{next_some, next_none}
use Rattle.rip_table.proofs.roll.busy.Busy.next.Goals as goal

pub returns-clause-some : goal.returns-clause-some
returns-clause-some c =
    let next = c.args.self.now.next in
    next_some c.args.self.now.list.items next c.item_at.result (c.item_at.ensures ∙ ap (λ (xs : List ℕ). slice_get xs next) c.as_slice.ensures.value)

pub returns-clause-none : goal.returns-clause-none
returns-clause-none c =
    let next = c.args.self.now.next in
    next_none c.args.self.now.list.items next c.item_at.result (c.item_at.ensures ∙ ap (λ (xs : List ℕ). slice_get xs next) c.as_slice.ensures.value)
