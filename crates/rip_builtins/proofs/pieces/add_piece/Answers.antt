use Rattle.std.proofs.Common.{take, sym, ap, ◌∙◌}
use Rattle.rip_builtins.specs.Pieces.{piece_in, with_units}
use Rattle.rip_builtins.proofs.JoinLemmas.{below-same}
use Rattle.rip_builtins.proofs.pieces.add_piece.Goals as goal

pub returns-in-Part-clause-added : goal.returns-in-Part-clause-added
returns-in-Part-clause-added c =
    let span = c.in-Part.span in
    let part = c.below.result in
    c.add_part.ensures.added
    ∙ ap (with_units c.args.heap.now)
    (below-same c.args.heap.now.pool.units c.args.end part.start part.count span.start span.count c.requires.end c.below.ensures.start c.below.ensures.end)
    ∙ ap (λ p. with_units c.args.heap.now (piece_in (take c.args.end c.args.heap.now.pool.units) p)) (sym c.in-Part.is)
