-- The parts of what a session does rise.
use Rattle.std.specs.Prelude.{◌≡◌, ◌⊎◌, ℕ, ◌<◌, ◌≤◌, true, List, [], ◌∷◌}
use Rattle.rip_wire.specs.Batches.{Contents}
use Rattle.rip_history.specs.Parts.{Given, Meaning, Part, serves_call}

-- a part comes behind one of this batch, this item and this cost: it is of a later batch; or it is of a later item of the same,
-- and costs no less, and more where a call is served
abbrev pub Follows : ℕ → ℕ → ℕ → Part → Type 0
Follows batch item cost p =
    ((batch < p.batch) × (1 ≤ p.cost) × (serves_call p.fact ≡ true → 1 < p.cost))
    ⊎ ((p.batch ≡ batch) × (item < p.item) × (cost ≤ p.cost) × (serves_call p.fact ≡ true → cost < p.cost))

-- each of them comes behind the one before it, the first behind this
abbrev pub Rise : ℕ → ℕ → ℕ → List Part → Type 0
Rise batch item cost [] = Unit {0}
Rise batch item cost (p ∷ ps) = Follows batch item cost p × Rise p.batch p.item p.cost ps

-- so it is of all that sessions of this meaning do: the first unit of a batch is that of no item
abbrev pub PartsRise : Meaning → Type 0
PartsRise m = (seed time : ℕ) (batches : List Contents) (given : List Given) → Rise 0 0 1 (m seed time batches given)
