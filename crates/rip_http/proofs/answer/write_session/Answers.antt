use Rattle.std.proofs.Common.{◌≡◌, ◌++◌, ◌∙◌, ap}
use Rattle.std.specs.Prelude.{codes}
use Rattle.std.proofs.lemmas.Result.{on_ok_weaker}
use Rattle.uuid.specs.Text.{hyphenated_text, lower}
use Rattle.rip_http.specs.Answers.{field, identifier_text}
use Rattle.rip_http.proofs.answer.write_session.Goals as goal

pub returns : goal.returns
unfolding identifier_text
returns c =
    let text : c.as_bytes.result.now ≡ hyphenated_text lower c.args.id =
    c.as_bytes.ensures.value ∙ c.encode_lower-text.ensures.text ∙ ap (hyphenated_text lower) c.hyphenated.ensures in
    let same : (c.write_field.new.out.items ≡ c.args.out.now.items ++ field (codes "Ripley-Session") c.as_bytes.result.now)
    → c.write_field.new.out.items ≡ c.args.out.now.items ++ field (codes "Ripley-Session") (hyphenated_text lower c.args.id) =
    λ e. e ∙ ap (λ v. c.args.out.now.items ++ field (codes "Ripley-Session") v) text in
    on_ok_weaker c.write_field.result same c.write_field.ensures
