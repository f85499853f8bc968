use Rattle.std.proofs.Common.{◌≡◌, ◌++◌, ℕ, List, length}
use Rattle.rip_lexer.proofs.Values.{Remains}
use Rattle.rip_lexer.proofs.text.push_value.Given as goal

abbrev pub invariant-loop-character : goal.invariant-loop-character
invariant-loop-character l = record {
  kept : (added : List ℕ) × (l.out.items ≡ l.fn.out.items ++ added);
  remains : Remains l.spelling l.quote l.rest l.fn.out.items l.out.items;
}

abbrev pub decreases-loop-character : goal.decreases-loop-character
decreases-loop-character l = length l.rest
