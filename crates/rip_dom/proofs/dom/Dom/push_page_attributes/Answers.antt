use Rattle.std.proofs.Common.{◌+◌, ◌<◌, ◌∙◌, sym, ap, subst, length, List, ℕ}
use Rattle.rip_values.specs.Pool.{span_behind, with_text}
use Rattle.rip_dom.proofs.OpeningLemmas.{attribute-done, ok-err}
use Rattle.rip_dom.proofs.dom.Dom.push_page_attributes.Goals as goal

pub loop-attribute-preserved : goal.loop-attribute-preserved
loop-attribute-preserved c =
    attribute-done c.args.n c.args.attributes.now c.loop-attribute.attribute-index c.attribute-item.result c.loop-attribute.pool c.args.pool.now c.name_span.new.pool c.add.new.self c.loop-attribute.self c.args.self.now c.push_attribute.new.self
    c.in_ok-name.name c.in_ok-value.value c.loop-attribute.invariant c.loop-attribute-test.true c.attribute-item.is
    c.in_ok-name.ensures.span c.in_ok-name.ensures.after
    (c.in_ok-value.ensures.span ∙ ap (λ (t : List ℕ). span_behind c.name_span.new.pool t) c.as_slice.ensures)
    (c.in_ok-value.ensures.added ∙ ap (λ (t : List ℕ). with_text c.name_span.new.pool t (length t)) c.as_slice.ensures)
    (λ g. ok-err _ _ (c.in_ok-value.ensures.limit.1 (subst (λ (t : List ℕ). c.name_span.new.pool.limit < c.name_span.new.pool.used + length t) (sym c.as_slice.ensures) g)))
    c.push_attribute.ensures
