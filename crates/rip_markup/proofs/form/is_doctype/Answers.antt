use Rattle.std.proofs.Common.{ℕ, Bool, ◌≡◌, ◌∙◌, ◌==◌, ◌&&◌, true, not, drop, codes, sym, ap}
use Rattle.std.specs.List.{prefix_len}
use Rattle.rip_base.specs.Units.{begins}
use Rattle.rip_markup.specs.Scans.{behind}
use Rattle.rip_markup.specs.Forms.{begins_small}
use Rattle.rip_markup.proofs.form.is_doctype.Goals as goal

pub returns : goal.returns
returns c =
    let rest = c.args.rest.now in
    let other : ℕ → Bool = λ d. not (d == 62) in
    let inside = c.split_at.ensures.back in
    let count = c.count_to.ensures.value ∙ ap (prefix_len other) inside in
    let small : begins_small (codes "!doctype") rest ≡ true = sym c.begins_small.ensures.small ∙ c.if-not-begins_small.false in
    c.begins_with_greater.ensures
    ∙ ap (begins (λ d. d == 62)) (c.split_at-2.ensures.back ∙ (λ i. drop (count i) (inside i)))
    ∙ sym (ap (λ b. b && begins (λ d. d == 62) (behind other (drop 8 rest))) small)
