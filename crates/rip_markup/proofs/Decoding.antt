-- Texts with references, step by step.
use Rattle.std.proofs.Common.{◌≡◌, ℕ, zero, suc, ◌+◌, ◌<◌, List, [], ◌∷◌, ◌++◌, length, drop, Option, Some, None, refl, sym, ap, ◌∙◌, arith}
use Rattle.std.specs.Char.Escape.{encode_utf16}
use Rattle.rip_markup.specs.Steps.{first_step, decoded, bad_reference}
use Rattle.rip_markup.specs.declared.reference.Reference.{Reference}
use Rattle.rip_markup.specs.declared.reference.TextStep.{TextStep}
use Rattle.rip_markup.specs.declared.reference.TextStep.TheVariants as Step

-- units that belong to a reference are passed over
pub decoded-skip : (n : ℕ) (text : List ℕ) → decoded n text ≡ decoded 0 (drop n text)
decoded-skip zero text = refl
decoded-skip (suc n) [] = refl
decoded-skip (suc n) (c ∷ rest) = decoded-skip n rest

pub bad_reference-skip : (place n : ℕ) (text : List ℕ) → bad_reference place n text ≡ bad_reference (place + n) 0 (drop n text)
bad_reference-skip place zero text = ap (λ p. bad_reference p 0 text) (omega arith)
bad_reference-skip place (suc n) [] = refl
bad_reference-skip place (suc n) (c ∷ rest) = bad_reference-skip (suc place) n rest ∙ ap (λ p. bad_reference p 0 (drop n rest)) (omega arith)

-- what a step gives for the rest of a text
abbrev units_by : TextStep → List ℕ → List ℕ
units_by step rest = elim step [ Step.End ↦ [] | Step.Itself u ↦ u ∷ decoded 0 rest | Step.Reference r ↦ encode_utf16 r.code ++ decoded r.count rest | Step.Bad ↦ [] ]

abbrev bad_by : TextStep → ℕ → List ℕ → Option ℕ
bad_by step place rest = elim step [ Step.End ↦ None | Step.Itself u ↦ bad_reference (suc place) 0 rest | Step.Reference r ↦ bad_reference (suc place) r.count rest | Step.Bad ↦ Some place ]

-- the text ends
pub at_end : (text : List ℕ) (place : ℕ) → Step.End ≡ first_step text → (decoded 0 text ≡ []) × (bad_reference place 0 text ≡ None)
at_end [] place e = (refl, refl)
at_end (c ∷ rest) place e = (ap (λ s. units_by s rest) (sym e), ap (λ s. bad_by s place rest) (sym e))

-- a reference that is none ends what is read
pub at_bad : (text : List ℕ) (place : ℕ) → Step.Bad ≡ first_step text → (decoded 0 text ≡ []) × (bad_reference place 0 text ≡ Some place)
at_bad [] place e = absurd (cc)
at_bad (c ∷ rest) place e = (ap (λ s. units_by s rest) (sym e), ap (λ s. bad_by s place rest) (sym e))

pub at_unit : (text : List ℕ) (place u : ℕ) → Step.Itself u ≡ first_step text → (decoded 0 text ≡ u ∷ decoded 0 (drop 1 text)) × (bad_reference place 0 text ≡ bad_reference (place + 1) 0 (drop 1 text)) × (0 < length text)
at_unit [] place u e = absurd (cc)
at_unit (c ∷ rest) place u e = (ap (λ s. units_by s rest) (sym e), ap (λ s. bad_by s place rest) (sym e) ∙ ap (λ p. bad_reference p 0 rest) (omega arith), omega arith)

pub at_reference : (text : List ℕ) (place : ℕ) (r : Reference) → Step.Reference r ≡ first_step text → (decoded 0 text ≡ encode_utf16 r.code ++ decoded 0 (drop (r.count + 1) text)) × (bad_reference place 0 text ≡ bad_reference (place + (r.count + 1)) 0 (drop (r.count + 1) text))
at_reference [] place r e = absurd (cc)
at_reference (c ∷ rest) place r e =
    let one : r.count + 1 ≡ suc r.count = omega arith in (
      ap (λ s. units_by s rest) (sym e) ∙ ap (λ u. encode_utf16 r.code ++ u) (decoded-skip r.count rest ∙ ap (λ n. decoded 0 (drop n (c ∷ rest))) (sym one)),
      ap (λ s. bad_by s place rest) (sym e) ∙ bad_reference-skip (suc place) r.count rest ∙ ap (λ p. bad_reference p 0 (drop r.count rest)) (omega arith) ∙ ap (λ n. bad_reference (place + (r.count + 1)) 0 (drop n (c ∷ rest))) (sym one),
    )
