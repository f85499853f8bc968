-- Forms that are told outright have no text.
use Rattle.std.proofs.Common.{◌≡◌, ℕ, List, length, Option, Some, None, refl, sym, ap, ◌∙◌, subst}
use Rattle.rip_base.specs.declared.operator.BinaryOperator.TheVariants as B
use Rattle.rip_tree.specs.declared.form.Form.{Form}
use Rattle.rip_tree.specs.declared.form.Form.TheVariants as F
use Rattle.rip_tree.specs.declared.form.TextLiteral.{TextLiteral}
use Rattle.rip_grammar.specs.declared.word.Word.{Word}
use Rattle.rip_grammar.specs.declared.word.Word.TheVariants as W
use Rattle.rip_grammar.specs.declared.event.Head.{Head}
use Rattle.rip_grammar.specs.declared.event.Head.TheVariants as H
use Rattle.rip_parser.specs.Shows.{text_of, infix_form, prefix_form, postfix_form, assignment_form}
use Rattle.rip_parser.specs.Building.{IsFormOf, IsPut, plain_form}

text-none : (x : Option Form) (shown made : Form) → x ≡ Some made → x ≡ Some shown → text_of made ≡ None → text_of shown ≡ None
text-none x shown made is same none = let equal : shown ≡ made = cc in ap text_of equal ∙ none

prefix-none : (w : Word) (shown : Form) → prefix_form w ≡ Some shown → text_of shown ≡ None
prefix-none (W.Prefix op) shown is = text-none _ shown _ refl is refl
prefix-none (W.Step op) shown is = text-none _ shown _ refl is refl
prefix-none (W.Infix B.Add) shown is = text-none _ shown _ refl is refl
prefix-none (W.Infix B.Subtract) shown is = text-none _ shown _ refl is refl
prefix-none w shown is = cc

infix-none : (w : Word) (shown : Form) → infix_form w ≡ Some shown → text_of shown ≡ None
infix-none (W.Infix op) shown is = text-none _ shown _ refl is refl
infix-none (W.Logical op) shown is = text-none _ shown _ refl is refl
infix-none W.Comma shown is = text-none _ shown _ refl is refl
infix-none w shown is = cc

postfix-none : (w : Word) (shown : Form) → postfix_form w ≡ Some shown → text_of shown ≡ None
postfix-none (W.Step op) shown is = text-none _ shown _ refl is refl
postfix-none w shown is = cc

assignment-none : (w : Word) (shown : Form) → assignment_form w ≡ Some shown → text_of shown ≡ None
assignment-none W.Assign shown is = text-none _ shown _ refl is refl
assignment-none (W.Compound op) shown is = text-none _ shown _ refl is refl
assignment-none w shown is = cc

pub plain-none : (head : Head) (shown : Form) → plain_form head ≡ Some shown → text_of shown ≡ None
plain-none (H.Single t) shown is = cc
plain-none (H.Entry k) shown is = cc
plain-none (H.Postfix w) shown is = postfix-none w shown is
plain-none (H.Prefix w) shown is = prefix-none w shown is
plain-none (H.Infix w) shown is = infix-none w shown is
plain-none (H.Assignment w) shown is = assignment-none w shown is
plain-none (H.Function None count) shown is = text-none _ shown _ refl is refl
plain-none (H.Function (Some n) count) shown is = text-none _ shown _ refl is refl
plain-none head shown is = text-none _ shown _ refl is refl

-- so nothing is put behind the units for them
pub plain-put : (head : Head) (shown : Form) (units : List ℕ) → plain_form head ≡ Some shown → IsPut (text_of shown) units units
plain-put head shown units is = subst (λ (x : Option TextLiteral). IsPut x units units) (sym (plain-none head shown is)) refl

-- and the form is that of the head
pub plain-told : (script units : List ℕ) (head : Head) (shown : Form) → plain_form head ≡ Some shown → IsFormOf script units head shown
plain-told script units (H.Single t) shown is = let no : ⊥ = cc in absurd no
plain-told script units (H.Entry k) shown is = let no : ⊥ = cc in absurd no
plain-told script units head shown is = is
