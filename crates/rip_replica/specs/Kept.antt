-- What each step of an item keeps.
use Rattle.std.proofs.Common.{◌≡◌, ℕ, refl, ◌∙◌}
use Rattle.rip_heap.specs.World.{World}
use Rattle.rip_eval_rows.specs.Plan.{Plan}
use Rattle.rip_replica.specs.declared.item.AtItem.{AtItem}

-- the batch, how many of its items were begun, and what items mean
abbrev pub IsKept : {I A S : Type 0} → (I → A → ℕ → World → S → Plan S) → AtItem I A → AtItem I A → Type 0
IsKept item_plan p q = (q.batch ≡ p.batch) × (q.begun ≡ p.begun) × (item_plan q.items ≡ item_plan p.items)

pub keeps_all : {I A S : Type 0} (item_plan : I → A → ℕ → World → S → Plan S) (p : AtItem I A) → IsKept item_plan p p
keeps_all item_plan p = (refl, refl, refl)

pub keeps_on : {I A S : Type 0} (item_plan : I → A → ℕ → World → S → Plan S) (p q r : AtItem I A) → IsKept item_plan p q → IsKept item_plan q r → IsKept item_plan p r
keeps_on item_plan p q r h g = (g.0 ∙ h.0, g.1 ∙ h.1, g.2 ∙ h.2)
