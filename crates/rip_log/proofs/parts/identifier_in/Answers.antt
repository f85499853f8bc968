use Rattle.std.proofs.Common.{sym, ap, ◌∙◌}
use Rattle.rip_log.specs.Parts.{identifier_text}
use Rattle.rip_log.proofs.Identifiers.{not_parsed, parsed_bytes, read_of_text}
use Rattle.rip_log.proofs.parts.identifier_in.Goals as goal

pub returns-in_err-ok-clause-none : goal.returns-in_err-ok-clause-none
returns-in_err-ok-clause-none c =
    λ _ id fits e. not_parsed c.try_parse_ascii.result c.args.word.now c.try_parse_ascii.ensures.ok (sym c.in_err-ok.ensures.value) id e

pub returns-else-is_identifier-clause-none : goal.returns-else-is_identifier-clause-none
returns-else-is_identifier-clause-none c =
    λ _ id fits e.
    let read = parsed_bytes c.try_parse_ascii.result c.args.word.now c.in_ok-ok.field-0 c.try_parse_ascii.ensures.bytes c.in_ok-ok.ensures.value in
    c.if-is_identifier.ensures.no (e ∙ ap identifier_text (sym (c.as_u128-id.ensures ∙ read_of_text c.args.word.now c.in_ok-ok.field-0 id read fits e)))
