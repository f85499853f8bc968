use Rattle.std.proofs.Common.{◌<◌, length, sym, arith}
use Rattle.std.proofs.lemmas.Bool.Decides.{nat_tests}
use Rattle.rip_heap.proofs.BorderLemmas.{stands-bound}
use Rattle.rip_heap.proofs.SearchLemmas.{first_place-empty, first_place-none}
use Rattle.rip_heap.proofs.search.SearchTable.first_place.Goals as goal

pub returns-then-is_empty-clause-place : goal.returns-then-is_empty-clause-place
returns-then-is_empty-clause-place c = sym (first_place-empty c.args.pattern.now c.args.text.now (grind (arith, nat_tests, c.if-is_empty.ensures)))

pub returns-then-pattern-text-clause-place : goal.returns-then-pattern-text-clause-place
returns-then-pattern-text-clause-place c =
    let pattern = c.args.pattern.now in
    let text = c.args.text.now in
    let some : 0 < length pattern = grind (arith, nat_tests, c.if-is_empty.ensures) in
    sym (first_place-none pattern text (λ q s. omega (arith, c.if-pattern-text.true, stands-bound pattern text q some s)))
