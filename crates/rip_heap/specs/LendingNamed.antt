-- How the texts are lent that a heap keeps with its objects. No public clause cites this.
use Rattle.std.specs.Borrow.{Lends, MutBor, Fml}
use Rattle.rip_values.specs.Pool.{Texts}
use Rattle.rip_values.specs.contracts.pool.Pool.{the_row as pool_row}
use Rattle.rip_heap.specs.contracts.named_objects.NamedObjects.{the_row}
use Rattle.rip_heap.specs.NamedObjects.{Named}

-- what the objects stand beside ends with the texts that were last left behind the reference
abbrev pub LendsPoolOf : MutBor Named → MutBor Texts → Fml
LendsPoolOf named pool = Lends the_row pool_row named pool (λ texts. record named.now { pool = texts })
