use Rattle.std.proofs.Common.{◌+◌, ◌≤◌, ◌∙◌, ◌==◌, ℕ, not, length, refl, sym, ap, subst}
use Rattle.std.specs.List.{prefix_len}
use Rattle.rip_markup.specs.Tokens.{ReadsForm}
use Rattle.rip_markup.specs.declared.token.Token.TheVariants as T
use Rattle.rip_markup.proofs.Fronts.{doctype_form}
use Rattle.rip_markup.proofs.reading.markup.Goals as goal

pub returns-in-Doctype-clause-read : goal.returns-in-Doctype-clause-read
returns-in-Doctype-clause-read c =
    subst (λ f. ReadsForm f c.args.text.now T.Doctype (c.count_to.result + 10)) c.in-Doctype.ensures
    (refl, ap (λ n. n + 10) (c.count_to.ensures.value ∙ ap (λ u. prefix_len (λ (d : ℕ). not (d == 62)) u) c.split_at-in-Doctype.ensures.back))

pub returns-in-Doctype-clause-bound : goal.returns-in-Doctype-clause-bound
returns-in-Doctype-clause-bound c =
    let long = doctype_form c.args.text.now c.in-Doctype.ensures in
    subst (λ n. n + 10 ≤ length c.args.text.now) (sym (c.count_to.ensures.value ∙ ap (λ u. prefix_len (λ (d : ℕ). not (d == 62)) u) c.split_at-in-Doctype.ensures.back)) long.1
