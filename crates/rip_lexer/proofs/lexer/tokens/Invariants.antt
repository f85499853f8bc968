use Rattle.std.proofs.Common.{◌≡◌, length, ◌+◌}
use Rattle.rip_lexer.proofs.Lexing.{Goes}
use Rattle.rip_lexer.proofs.lexer.tokens.Given as goal

abbrev pub invariant-script : goal.invariant-script
invariant-script l = record {
  bound : l.place + length l.rest ≡ length l.text;
  reads : Goes l.text l.place l.rest l.tokens.items;
}

abbrev pub decreases-script : goal.decreases-script
decreases-script l = length l.rest
