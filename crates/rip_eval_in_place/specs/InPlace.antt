-- The words of the contracts of what is done in place: no part of it is entered by itself, no cut falls in it, and no host
-- is asked.
use Rattle.std.specs.Prelude.{◌≡◌, ℕ, ◌+◌, ◌≤◌, Option, IfSome, MatchOption}
use Rattle.rip_heap.specs.World.{World}
use Rattle.rip_eval_rows.specs.declared.completion.Completed.{Completed}
use Rattle.rip_eval_rows.specs.declared.completion.Completion.{Completion}
use Rattle.rip_eval_rows.specs.declared.completion.Completion.TheVariants.{Normal}
use Rattle.rip_eval_rows.specs.declared.part.Part.{Part}
use Rattle.rip_eval_rows.specs.Done.{Comes, Done}
use Rattle.rip_eval_rows.specs.Row.{Row}
use Rattle.rip_eval_in_place.specs.declared.had.Had.{Had}
use Rattle.rip_eval_in_place.specs.AddedTexts.{AddsTexts}
use Rattle.rip_eval_language.specs.Reading.{Loaded}
use Rattle.rip_eval_language.specs.Table.{table}

-- what is had of a part is the value that it comes to with so many units from world w on, and x is the world then
abbrev pub IsHad : Loaded → Part → World → Option Had → World → Type 0
IsHad p at w had x = IfSome had (λ h. Done (table p) at h.units w (Normal h.value) x)

-- the row of a part comes to this completion and this world with so many units, of which the first is the part's own
abbrev pub RowComes : Loaded → Row → ℕ → Completion → World → Type 0
RowComes p row units c x = (n : ℕ) × (units ≡ n + 1) × Comes (table p) row n c x

-- the same of the row of a part
abbrev pub RowIsHad : Loaded → Row → Option Had → World → Type 0
RowIsHad p row had x = IfSome had (λ h. RowComes p row h.units (Normal h.value) x)

-- no more units are taken than there are
abbrev pub IsWithin : ℕ → Option Had → Type 0
IsWithin left had = IfSome had (λ h. h.units ≤ left)

-- what is done of a part is what it comes to with so many units from world w on, and x is the world then; where nothing is
-- done the world stays as it is
abbrev pub IsDone : Loaded → Part → World → Option Completed → World → Type 0
IsDone p at w done x = MatchOption done (x ≡ w) (λ d. Done (table p) at d.units w d.completion x)

-- the same, but for texts that are left where nothing is done
abbrev pub IsTried : Loaded → Part → World → Option Completed → World → Type 0
IsTried p at w done x = MatchOption done (AddsTexts w x) (λ d. Done (table p) at d.units w d.completion x)

-- the same of the row of a part
abbrev pub RowIsTried : Loaded → Row → World → Option Completed → World → Type 0
RowIsTried p row w done x = MatchOption done (AddsTexts w x) (λ d. RowComes p row d.units d.completion x)

-- no more units are taken than there are
abbrev pub IsDoneWithin : ℕ → Option Completed → Type 0
IsDoneWithin left done = IfSome done (λ d. d.units ≤ left)
