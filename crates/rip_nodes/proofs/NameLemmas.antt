-- The fixed text that a text is spelled as.
use Rattle.std.proofs.Common.{◌≡◌, ℕ, Option, None, Some, List, refl, sym, ap, ◌∙◌, subst}
use Rattle.std.specs.Prelude.{IfSome}
use Rattle.std.proofs.lemmas.Option.{none-some}
use Rattle.rip_values.specs.declared.fixed.FixedText.{FixedText}
use Rattle.rip_values.specs.FixedSearch.{fixed_text}
use Rattle.rip_values.specs.FixedTable.{text_of}
use Rattle.rip_values.proofs.FixedTableLemmas.{fixed_text-text_of}
use Rattle.rip_values.proofs.FixedLemmas.{IfSome-fixed_text}

none-is : (text : List ℕ) (found : Option FixedText) → found ≡ fixed_text text → ((f : FixedText) → text_of f ≡ text → None ≡ Some f) → None ≡ found
none-is text None e only = refl
none-is text (Some g) e only = only g (let P : Option FixedText → Type 0 = λ o. IfSome o (λ f. text_of f ≡ text) in IfSome-fixed_text text (Some g) e)

-- what is spelled so, and is the only one
pub named-is : (text : List ℕ) (o : Option FixedText) → IfSome o (λ f. text_of f ≡ text) → ((f : FixedText) → text_of f ≡ text → o ≡ Some f) → o ≡ fixed_text text
named-is text None spelled only = none-is text (fixed_text text) refl only
named-is text (Some f) spelled only = sym (fixed_text-text_of f) ∙ ap fixed_text spelled
