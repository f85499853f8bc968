use Rattle.std.proofs.Common.{length, ◌≤◌}
use Rattle.rip_heap.specs.World.{first_node}
use Rattle.rip_dom.specs.Laws.{Agree}
use Rattle.rip_dom.specs.Tree.{children_of, is_element, node_at}
use Rattle.rip_nodes.proofs.ChildLemmas.{IsOnWay, suffix}
use Rattle.rip_nodes.proofs.links.document_element.Given as goal

abbrev pub invariant-loop-at : goal.invariant-loop-at
invariant-loop-at l = IsOnWay l.dom (λ n. is_element (node_at l.dom n).kind) l.at

abbrev pub decreases-loop-at : goal.decreases-loop-at
decreases-loop-at l = length (suffix l.at (children_of l.dom 0))
