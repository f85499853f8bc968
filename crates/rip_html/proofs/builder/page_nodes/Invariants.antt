use Rattle.std.proofs.Common.{◌≡◌, [], ◌∷◌}
use Rattle.std.specs.Vec.Iter.{into_iter_items}
use Rattle.rip_html.specs.Building.{built}
use Rattle.rip_html.specs.Nodes.{document_node}
use Rattle.rip_html.proofs.builder.page_nodes.Given as goal

abbrev pub invariant-loop-placed : goal.invariant-loop-placed
invariant-loop-placed l =
    built l.builder.open.items l.builder.nodes.items (into_iter_items l.placed-iterator) ≡ built [] (document_node ∷ []) l.fn.tokens
