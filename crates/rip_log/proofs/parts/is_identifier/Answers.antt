use Rattle.std.proofs.Common.{◌≡◌, ◌≢◌, subst, ap, ◌∙◌}
use Rattle.std.specs.Bool.{OnTrue, OnFalse}
use Rattle.uuid.specs.Text.{hyphenated_text, lower}
use Rattle.rip_log.specs.Parts.{identifier_text}
use Rattle.rip_log.proofs.parts.is_identifier.Goals as goal

pub returns-clause-yes : goal.returns-clause-yes
returns-clause-yes c =
    let text : c.encode_lower-text.result.now ≡ identifier_text c.args.id = c.encode_lower-text.ensures.text ∙ ap (hyphenated_text lower) (c.hyphenated.ensures ∙ c.from_u128.ensures) in
    subst (λ t. OnTrue c.is_word.result (c.args.word.now ≡ t)) text c.is_word.ensures.yes

pub returns-clause-no : goal.returns-clause-no
returns-clause-no c =
    let text : c.encode_lower-text.result.now ≡ identifier_text c.args.id = c.encode_lower-text.ensures.text ∙ ap (hyphenated_text lower) (c.hyphenated.ensures ∙ c.from_u128.ensures) in
    subst (λ t. OnFalse c.is_word.result (c.args.word.now ≢ t)) text c.is_word.ensures.no
