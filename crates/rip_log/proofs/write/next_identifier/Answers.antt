use Rattle.std.proofs.Common.{◌≡◌, ◌++◌, ◌∷◌, subst, ap, ◌∙◌}
use Rattle.std.specs.Prelude.{OnOk}
use Rattle.uuid.specs.Text.{hyphenated_text, lower}
use Rattle.rip_log.specs.Parts.{identifier_text}
use Rattle.rip_log.proofs.write.next_identifier.Goals as goal

pub returns : goal.returns
returns c =
    let text : c.as_bytes.result.now ≡ identifier_text c.args.id = c.as_bytes.ensures.value ∙ c.encode_lower-text.ensures.text ∙ ap (hyphenated_text lower) (c.hyphenated.ensures ∙ c.from_u128.ensures) in
    subst (λ t. OnOk c.next_word.result (c.next_word.new.out ≡ c.args.out.now ++ 32 ∷ t)) text c.next_word.ensures
