use Rattle.std.proofs.Common.{◌≡◌, ◌∙◌, ap, subst, length}
use Rattle.rip_values.specs.Pool.{text_at, IsSpan}
use Rattle.rip_ops.proofs.JoiningLemmas.{text_and_numeral-joined}
use Rattle.rip_ops.proofs.addition.text_and_numeral.Goals as goal

pub returns-clause-answers : goal.returns-clause-answers
returns-clause-answers c =
    let held = c.held-text.result in
    let told = c.held-text.ensures in
    let lies = subst (λ p. IsSpan p held) c.pool.ensures told.lies in
    let same = subst (λ p. text_at p held ≡ text_at p c.args.x) c.pool.ensures told.text in
    text_and_numeral-joined c.args.heap.now c.args.number c.args.x held c.in_ok-numeral.numeral c.in_ok-span.span c.to_text.new.heap c.concat.new.self
    (ap (λ s. s.count) told.span ∙ ap (λ p. length (text_at p c.args.x)) c.pool.ensures) (c.in_ok-numeral.ensures.grows.texts held lies ∙ same)
    c.in_ok-room_for.ensures c.in_ok-numeral.ensures.made c.in_ok-span.ensures.made
