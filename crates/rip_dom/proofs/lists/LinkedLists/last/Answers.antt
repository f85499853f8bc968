use Rattle.std.proofs.Common.{ap, ◌∙◌}
use Rattle.rip_dom.specs.declared.lists.Ends.{Ends}
use Rattle.rip_dom.proofs.Calls.{list-last}
use Rattle.rip_dom.proofs.lists.LinkedLists.last.Goals as goal

pub returns : goal.returns
returns c = rw (← c.self.view_is) (ap (λ (e : Ends). e.last) c.ends_at.ensures ∙ list-last _ _ _ _ _ c.args.list c.self.invariant)
