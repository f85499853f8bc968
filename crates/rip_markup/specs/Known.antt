-- Which names a set knows.
use Rattle.std.specs.Prelude.{◌≡◌, ℕ, List}
use Rattle.std.specs.Ordering.{nat_cmp}
use Rattle.std.specs.Cmp.Lexicographic.{slice_cmp}
use Rattle.std.specs.BTreeSet.{BTreeSet, contains}
use Rattle.std.specs.declared.vec.Vec.{Vec}
use Rattle.std.specs.declared.alloc.Global.{Global}
use Rattle.rip_markup.specs.Words.{is_among}

-- the set has these names and no others
abbrev pub Knows : BTreeSet (Vec ℕ Global) → List (List ℕ) → Type 0
Knows seen names = (q : Vec ℕ Global) → contains (λ x y. slice_cmp nat_cmp x.items y.items) seen q ≡ is_among names q.items
