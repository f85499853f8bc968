use Rattle.std.proofs.Common.{sym, ◌∙◌, arith}
use Rattle.rip_heap.specs.Arrays.{elements_at}
use Rattle.rip_heap.specs.Conversions.{strictly_equal}
use Rattle.rip_builtins.proofs.ArrayLemmas.{search-found, search-more}
use Rattle.rip_builtins.proofs.arrays.first_equal.Goals as goal

pub returns-then-is_equal_at : goal.returns-then-is_equal_at
returns-then-is_equal_at c =
    sym (search-found (strictly_equal c.args.heap.now.pool c.args.v) (elements_at c.args.heap.now c.args.array) c.loop-place.place (sym c.if-is_equal_at.ensures))
    ∙ c.loop-place.invariant

pub loop-place-preserved : goal.loop-place-preserved
loop-place-preserved c =
    sym (search-more (strictly_equal c.args.heap.now.pool c.args.v) (elements_at c.args.heap.now c.args.array) c.loop-place.place (omega arith) (sym c.if-is_equal_at.ensures))
    ∙ c.loop-place.invariant
