-- What shapes, levels and lists of phrases say.
use Rattle.std.proofs.Common.{◌≡◌, ℕ, ◌≤◌, Bool, true, false, cond, refl, sym, ap, ◌∙◌, arith}
use Rattle.rip_automaton.specs.declared.mode.Shape.{Shape}
use Rattle.rip_automaton.specs.declared.mode.Shape.TheVariants as S
use Rattle.rip_grammar.specs.Phrases.{Phrase, Postfix, Prefix, Infix, Conditional, Assignment}
use Rattle.rip_grammar.specs.Levels.{level, is_target}
use Rattle.rip_grammar.specs.Semicolons.{ends_postfix}
use Rattle.rip_grammar.specs.Grammar.{holds}
use Rattle.rip_automaton.specs.Frames.{may_be_target, in_postfix, closed, enclosed}
use Rattle.rip_automaton.proofs.Open.{shape}

-- a target ends in no postfix operator
pub target_ends : (d : Phrase) → is_target d ≡ true → ends_postfix d ≡ false
target_ends (Postfix e o) h = cc
target_ends (Prefix o e) h = cc
target_ends (Infix a o b) h = cc
target_ends (Conditional a q b c d) h = cc
target_ends (Assignment a o b) h = cc
target_ends d h = refl

-- what a shape says of its phrase
shape_target : (t p : Bool) → may_be_target (cond t S.Target (cond p S.Postfix S.Plain)) ≡ t
shape_target true p = refl
shape_target false true = refl
shape_target false false = refl

shape_postfix : (t p : Bool) → (t ≡ true → p ≡ false) → in_postfix (cond t S.Target (cond p S.Postfix S.Plain)) ≡ p
shape_postfix true p apart = sym (apart refl)
shape_postfix false true apart = refl
shape_postfix false false apart = refl

pub may_be_target_of : (sh : Shape) (d : Phrase) → sh ≡ shape d → may_be_target sh ≡ is_target d
may_be_target_of sh d is = ap may_be_target is ∙ shape_target (is_target d) (ends_postfix d)

pub in_postfix_of : (sh : Shape) (d : Phrase) → sh ≡ shape d → in_postfix sh ≡ ends_postfix d
in_postfix_of sh d is = ap in_postfix is ∙ shape_postfix (is_target d) (ends_postfix d) (target_ends d)

-- the shape of an operator with this last operand, and of parentheses around it
closed_shape : (t p : Bool) → (t ≡ true → p ≡ false) → closed (cond t S.Target (cond p S.Postfix S.Plain)) ≡ cond p S.Postfix S.Plain
closed_shape true true apart = let never : true ≡ false = apart refl in cc
closed_shape true false apart = refl
closed_shape false true apart = refl
closed_shape false false apart = refl

pub closed_of : (sh : Shape) (d : Phrase) → sh ≡ shape d → closed sh ≡ cond (ends_postfix d) S.Postfix S.Plain
closed_of sh d is = ap closed is ∙ closed_shape (is_target d) (ends_postfix d) (target_ends d)

enclosed_shape : (t p : Bool) → enclosed (cond t S.Target (cond p S.Postfix S.Plain)) ≡ cond t S.Target S.Plain
enclosed_shape true p = refl
enclosed_shape false true = refl
enclosed_shape false false = refl

pub enclosed_of : (sh : Shape) (d : Phrase) → sh ≡ shape d → enclosed sh ≡ cond (is_target d) S.Target S.Plain
enclosed_of sh d is = ap enclosed is ∙ enclosed_shape (is_target d) (ends_postfix d)

-- how tightly an expression holds, as a number
pub holds_at : (n : ℕ) (d : Phrase) → holds n d ≡ true → n ≤ level d
holds_at n d h = grind (arith, h)

pub at_holds : (n : ℕ) (d : Phrase) → n ≤ level d → holds n d ≡ true
at_holds n d h = grind (arith, h)
