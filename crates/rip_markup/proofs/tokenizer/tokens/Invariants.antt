use Rattle.std.proofs.Common.{◌≡◌, ◌+◌, ◌*◌, length}
use Rattle.rip_markup.proofs.Tokenizing.{Goes, rank}
use Rattle.rip_markup.proofs.tokenizer.tokens.Given as goal

abbrev pub invariant-page : goal.invariant-page
invariant-page l = record {
  bound : l.place + length l.rest ≡ length l.text;
  reads : Goes l.text l.place l.content l.rest l.made.items;
}

abbrev pub decreases-page : goal.decreases-page
decreases-page l = 2 * length l.rest + rank l.content
