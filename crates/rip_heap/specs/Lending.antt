use Rattle.std.specs.Prelude.{◌≡◌, ◌≤◌, length}
use Rattle.std.specs.Borrow.{Lends, MutBor, Fml}
use Rattle.std.specs.Fn.{Mut, CalledAtMut}
use Rattle.rip_values.specs.Pool.{Texts, KeepsTexts}
use Rattle.rip_values.specs.contracts.pool.Pool.{the_row as pool_row}
use Rattle.rip_heap.specs.contracts.heap.Heap.{the_row}
use Rattle.rip_heap.specs.World.{World}

-- the world with this pool in place of its own
abbrev pub with_pool : World → Texts → World
with_pool w pool = record w { pool = pool }

-- the heap ends with the pool that was last left behind the reference, and else as it was
abbrev pub LendsPool : MutBor World → MutBor Texts → Fml
LendsPool heap pool = Lends the_row pool_row heap pool (with_pool heap.now)

-- texts were only added to the pool: the limits stand, no charge is given back, and each text stands
pub record PoolGrows (old new : Texts) : Type 0 where
  pub limit : new.limit ≡ old.limit
  pub text_limit : new.text_limit ≡ old.text_limit
  pub used : old.used ≤ new.used
  pub texts : KeepsTexts old new
  pub spans : length old.units ≤ length new.units

-- whatever a call of f at a `&mut` to the pool may leave there, texts were only added
abbrev pub OnlyAddsTexts : {F R : Type 0} → Mut F (MutBor Texts × Unit {0}) (R × (MutBor Texts × Unit {0})) → F → Texts → Type 0
OnlyAddsTexts {F} {R} g f pool = (r : R) (f' : F) (left : Texts) → CalledAtMut g f pool r f' left → PoolGrows pool left
