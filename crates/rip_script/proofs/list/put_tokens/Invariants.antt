use Rattle.std.proofs.Common.{◌≡◌, drop, map}
use Rattle.rip_script.specs.Texts.{token_line, tokens_text}
use Rattle.rip_script.proofs.Passing.{Draws}
use Rattle.rip_script.proofs.list.put_tokens.Given as goal

-- the lines of the tokens ahead are due
abbrev pub invariant-loop-token : goal.invariant-loop-token
invariant-loop-token g l = record {
  draws : Draws (tokens_text l.tokens) (map token_line (drop l.token-index l.tokens)) l.block (g.S.Sink.held l.initial.out) (g.S.Sink.held l.out);
  counted : g.S.Sink.count l.out ≡ g.S.Sink.count l.initial.out;
}
