use Rattle.std.proofs.Common.{◌≡◌, ◌≤◌, false, length, ◌+◌}
use Rattle.std.specs.Prelude.{option_map}
use Rattle.rip_lexer.specs.View.{before_close, shown_body}
use Rattle.rip_lexer.proofs.gap.block_comment.Given as goal

abbrev pub invariant-loop-rest : goal.invariant-loop-rest
invariant-loop-rest l = record {
  bound : l.count + length l.rest ≤ length l.units + 4;
  finds : option_map (shown_body l.count l.holds_line_end) (before_close l.rest) ≡ option_map (shown_body 4 false) (before_close l.units);
}

abbrev pub decreases-loop-rest : goal.decreases-loop-rest
decreases-loop-rest l = length l.rest
