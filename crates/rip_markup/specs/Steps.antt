-- What stands at a unit of a text with references, and what the text stands for, as functions. Those that read texts
-- are stated by these; that they agree with the relations of `References` is proved, and no public clause cites them.
use Rattle.std.specs.Prelude.{ℕ, zero, suc, ◌+◌, ◌<◌, ◌&&◌, ◌==◌, if◌then◌else◌, List, [], ◌∷◌, ◌++◌, take, drop, Option, Some, None, option_map}
use Rattle.std.specs.Option.{option_map_or}
use Rattle.std.specs.List.{prefix_len}
use Rattle.std.specs.Char.Escape.{encode_utf16}
use Rattle.rip_base.specs.Units.{begins}
use Rattle.rip_markup.specs.References.{code_of, is_reference_unit, starts_reference}
use Rattle.rip_markup.specs.declared.reference.Reference.{Reference}
use Rattle.rip_markup.specs.declared.reference.TextStep.{TextStep}
use Rattle.rip_markup.specs.declared.reference.TextStep.TheVariants as Step

-- the reference that the units behind an `&` begin with
abbrev pub reference_at : List ℕ → Option Reference
reference_at text =
    let count = prefix_len is_reference_unit text in
    if begins (λ c. c == 59) (drop count text) then option_map (λ code. record { code = code; count = count + 1 }) (code_of (take count text)) else None

-- what stands at a unit that these units follow
abbrev pub step_at : ℕ → List ℕ → TextStep
step_at c rest = if (c == 38) && begins starts_reference rest then option_map_or (λ r. Step.Reference r) (reference_at rest) Step.Bad else Step.Itself c

-- what the text begins with
abbrev pub first_step : List ℕ → TextStep
first_step [] = Step.End
first_step (c ∷ rest) = step_at c rest

-- a reference is within so many units, and names a code point
abbrev pub StepWithin : ℕ → TextStep → Type 0
StepWithin count (Step.Reference r) = (r.count < count) × (r.code < 1114112)
StepWithin count _ = Unit {0}

-- The units that a text stands for up to a reference that is none, where so many units in front belong to a reference
-- that was read.
abbrev pub decoded : ℕ → List ℕ → List ℕ
decoded n [] = []
decoded (suc n) (c ∷ rest) = decoded n rest
decoded zero (c ∷ rest) = elim (step_at c rest) [ Step.End ↦ [] | Step.Itself u ↦ u ∷ decoded 0 rest | Step.Reference r ↦ encode_utf16 r.code ++ decoded r.count rest | Step.Bad ↦ [] ]

-- the place of the first reference that is none, where the text begins at this place
abbrev pub bad_reference : ℕ → ℕ → List ℕ → Option ℕ
bad_reference place n [] = None
bad_reference place (suc n) (c ∷ rest) = bad_reference (suc place) n rest
bad_reference place zero (c ∷ rest) = elim (step_at c rest) [ Step.End ↦ None | Step.Itself u ↦ bad_reference (suc place) 0 rest | Step.Reference r ↦ bad_reference (suc place) r.count rest | Step.Bad ↦ Some place ]
