use Rattle.std.proofs.Common.{arith}
use Rattle.rip_outer.proofs.Cuts.{pieces_cut_range, pieces_whole}
use Rattle.rip_outer.proofs.pieces.split_first.Goals as goal

pub returns-then-byte-eq10 : goal.returns-then-byte-eq10
returns-then-byte-eq10 c = pieces_cut_range _ _ (omega arith) c.loop-place.invariant c.if-byte-eq10.true

pub returns : goal.returns
returns c =
    pieces_whole _ _ _ c.requires (λ k below. c.loop-place.invariant k (omega arith)) c.split_at.ensures.front c.split_at.ensures.back
