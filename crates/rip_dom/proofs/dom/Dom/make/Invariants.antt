use Rattle.std.proofs.Common.{◌≡◌, ◌≤◌, length}
use Rattle.rip_dom.specs.Opening.{no_tree, count_of_nodes}
use Rattle.rip_dom.proofs.OpeningLemmas.{NodesDone}
use Rattle.rip_dom.proofs.dom.Dom.make.Given as goal

abbrev pub invariant-loop-i : goal.invariant-loop-i
invariant-loop-i l = (l.i-end ≡ length l.page.nodes) × (count_of_nodes l.page.nodes ≤ l.nodes) × NodesDone l.page.nodes l.i l.pool l.dom l.fn.pool (no_tree l.nodes)
