use Rattle.std.proofs.Common.{ap, ◌∙◌}
use Rattle.rip_dom.specs.declared.lists.Ends.{Ends}
use Rattle.rip_dom.proofs.Calls.{list-first}
use Rattle.rip_dom.proofs.lists.LinkedLists.first.Goals as goal

pub returns : goal.returns
returns c = rw (← c.self.view_is) (ap (λ (e : Ends). e.first) c.ends_at.ensures ∙ list-first _ _ _ _ _ c.args.list c.self.invariant)
