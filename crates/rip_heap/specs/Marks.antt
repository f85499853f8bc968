-- Where the texts of a heap stood, and what is left of a later world when those that were added since are taken back.
use Rattle.std.specs.Prelude.{◌+◌, ◌≤◌, length}
use Rattle.rip_values.specs.FixedTexts.{fixed_units}
use Rattle.rip_values.specs.Pool.{cut_pool}
use Rattle.rip_heap.specs.declared.mark.Mark.{Mark}
use Rattle.rip_heap.specs.World.{World}

-- where the texts of this world stand
abbrev pub mark_of : World → Mark
mark_of w = record { end = length w.pool.units; used = w.pool.used }

-- the world with the texts that it had at the mark alone
abbrev pub cut_world : Mark → World → World
cut_world m w = record w { pool = cut_pool w.pool m.end m.used }

-- the world can be cut there: the fixed texts stay, and no charge is taken back without its text
pub record CanBeCut (m : Mark) (w : World) : Type 0 where
  pub fixed : length fixed_units ≤ m.end
  pub units : m.end ≤ length w.pool.units
  pub used : m.used ≤ w.pool.used
  pub charged : w.pool.used + m.end ≤ m.used + length w.pool.units
