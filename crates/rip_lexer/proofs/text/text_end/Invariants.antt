use Rattle.std.proofs.Common.{◌≡◌, ◌≤◌, IfSome, length, ◌+◌}
use Rattle.rip_lexer.proofs.Texts.{Reads}
use Rattle.rip_lexer.proofs.text.text_end.Given as goal

abbrev pub invariant-loop-character : goal.invariant-loop-character
invariant-loop-character l = record {
  bound : l.count + length l.rest ≡ length l.units;
  fault : IfSome l.fault (λ found. found.offset ≤ l.count);
  reads : Reads l.units l.quote l.rest l.count l.fault;
}

abbrev pub decreases-loop-character : goal.decreases-loop-character
decreases-loop-character l = length l.rest
