-- Operators bind by the productions of the standard.
use Rattle.std.proofs.Common.{◌≡◌, ℕ, ◌+◌, ◌<◌, ◌≤◌, nat_le, Option, Some, refl, sym, ap, ◌∙◌, arith, leb-true, le-leb}
use Rattle.rip_base.specs.declared.operator.BinaryOperator.TheVariants as B
use Rattle.rip_base.specs.declared.operator.LogicalOperator.TheVariants as L
use Rattle.rip_grammar.specs.declared.word.Word.{Word}
use Rattle.rip_grammar.specs.declared.word.Word.TheVariants as W
use Rattle.rip_grammar.specs.Levels.{level, binds}
use Rattle.rip_grammar.specs.Productions.{Production, of, production, MadeByProduction, ProductionMakes}

-- a word that binds has a production, of its level and the next tighter one
has_production : (w : Word) → 0 < binds w → production w ≡ of (binds w) (binds w + 1)
has_production (W.Infix B.Multiply) some = refl
has_production (W.Infix B.Divide) some = refl
has_production (W.Infix B.Remainder) some = refl
has_production (W.Infix B.Add) some = refl
has_production (W.Infix B.Subtract) some = refl
has_production (W.Infix B.ShiftLeft) some = refl
has_production (W.Infix B.ShiftRight) some = refl
has_production (W.Infix B.ShiftRightUnsigned) some = refl
has_production (W.Infix B.Less) some = refl
has_production (W.Infix B.Greater) some = refl
has_production (W.Infix B.LessOrEqual) some = refl
has_production (W.Infix B.GreaterOrEqual) some = refl
has_production (W.Infix B.InstanceOf) some = refl
has_production (W.Infix B.In) some = refl
has_production (W.Infix B.Equal) some = refl
has_production (W.Infix B.NotEqual) some = refl
has_production (W.Infix B.StrictEqual) some = refl
has_production (W.Infix B.StrictNotEqual) some = refl
has_production (W.Infix B.BitAnd) some = refl
has_production (W.Infix B.BitXor) some = refl
has_production (W.Infix B.BitOr) some = refl
has_production (W.Logical L.And) some = refl
has_production (W.Logical L.Or) some = refl
has_production W.Comma some = refl
has_production _ some = absurd (omega arith)

pub made_by_production : MadeByProduction
made_by_production a b o r made =
    let less : binds o.word < level b = made.2 in
    let tighter : binds o.word + 1 ≤ level b = omega arith in (
      record { left = binds o.word; right = binds o.word + 1 },
      has_production o.word made.0,
      refl,
      le-leb (binds o.word) (level a) made.1,
      le-leb (binds o.word + 1) (level b) tighter,
    )

-- a word with a production binds as it has it
pub record Binds (w : Word) (p : Production) : Type 0 where
  pub some : 0 < binds w
  pub left : p.left ≡ binds w
  pub right : p.right ≡ binds w + 1

abbrev left_of : Option Production → ℕ
left_of (Some p) = p.left
left_of _ = 0

abbrev right_of : Option Production → ℕ
right_of (Some p) = p.right
right_of _ = 0

binds_by : (w : Word) (p : Production) → production w ≡ Some p → Binds w p
binds_by (W.Infix B.Multiply) p is = record { some = omega arith; left = sym (ap left_of is); right = sym (ap right_of is) }
binds_by (W.Infix B.Divide) p is = record { some = omega arith; left = sym (ap left_of is); right = sym (ap right_of is) }
binds_by (W.Infix B.Remainder) p is = record { some = omega arith; left = sym (ap left_of is); right = sym (ap right_of is) }
binds_by (W.Infix B.Add) p is = record { some = omega arith; left = sym (ap left_of is); right = sym (ap right_of is) }
binds_by (W.Infix B.Subtract) p is = record { some = omega arith; left = sym (ap left_of is); right = sym (ap right_of is) }
binds_by (W.Infix B.ShiftLeft) p is = record { some = omega arith; left = sym (ap left_of is); right = sym (ap right_of is) }
binds_by (W.Infix B.ShiftRight) p is = record { some = omega arith; left = sym (ap left_of is); right = sym (ap right_of is) }
binds_by (W.Infix B.ShiftRightUnsigned) p is = record { some = omega arith; left = sym (ap left_of is); right = sym (ap right_of is) }
binds_by (W.Infix B.Less) p is = record { some = omega arith; left = sym (ap left_of is); right = sym (ap right_of is) }
binds_by (W.Infix B.Greater) p is = record { some = omega arith; left = sym (ap left_of is); right = sym (ap right_of is) }
binds_by (W.Infix B.LessOrEqual) p is = record { some = omega arith; left = sym (ap left_of is); right = sym (ap right_of is) }
binds_by (W.Infix B.GreaterOrEqual) p is = record { some = omega arith; left = sym (ap left_of is); right = sym (ap right_of is) }
binds_by (W.Infix B.InstanceOf) p is = record { some = omega arith; left = sym (ap left_of is); right = sym (ap right_of is) }
binds_by (W.Infix B.In) p is = record { some = omega arith; left = sym (ap left_of is); right = sym (ap right_of is) }
binds_by (W.Infix B.Equal) p is = record { some = omega arith; left = sym (ap left_of is); right = sym (ap right_of is) }
binds_by (W.Infix B.NotEqual) p is = record { some = omega arith; left = sym (ap left_of is); right = sym (ap right_of is) }
binds_by (W.Infix B.StrictEqual) p is = record { some = omega arith; left = sym (ap left_of is); right = sym (ap right_of is) }
binds_by (W.Infix B.StrictNotEqual) p is = record { some = omega arith; left = sym (ap left_of is); right = sym (ap right_of is) }
binds_by (W.Infix B.BitAnd) p is = record { some = omega arith; left = sym (ap left_of is); right = sym (ap right_of is) }
binds_by (W.Infix B.BitXor) p is = record { some = omega arith; left = sym (ap left_of is); right = sym (ap right_of is) }
binds_by (W.Infix B.BitOr) p is = record { some = omega arith; left = sym (ap left_of is); right = sym (ap right_of is) }
binds_by (W.Logical L.And) p is = record { some = omega arith; left = sym (ap left_of is); right = sym (ap right_of is) }
binds_by (W.Logical L.Or) p is = record { some = omega arith; left = sym (ap left_of is); right = sym (ap right_of is) }
binds_by W.Comma p is = record { some = omega arith; left = sym (ap left_of is); right = sym (ap right_of is) }
binds_by _ p is = absurd (cc)

pub production_makes : ProductionMakes
production_makes a b o r p is left right made_left made_right =
    let by = binds_by o.word p is in
    let low : binds o.word ≤ level a = leb-true (binds o.word) (level a) (ap (λ (n : ℕ). nat_le n (level a)) (sym by.left) ∙ left) in
    let high : binds o.word + 1 ≤ level b = leb-true (binds o.word + 1) (level b) (ap (λ (n : ℕ). nat_le n (level b)) (sym by.right) ∙ right) in
    (by.some, low, omega arith, made_left, made_right)
