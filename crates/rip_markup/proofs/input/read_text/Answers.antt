use Rattle.std.proofs.Common.{◌≡◌, ◌∙◌, false, ap, sym, subst, drop}
use Rattle.rip_base.specs.Text.{IsSameText}
use Rattle.rip_markup.specs.Input.{unmarked, lines}
use Rattle.rip_markup.proofs.input.read_text.Goals as goal

pub returns-in_ok-units-in-Ok-clause-only : goal.returns-in_ok-units-in-Ok-clause-only
returns-in_ok-units-in-Ok-clause-only c = λ text is.
    let bytes = c.args.bytes.now in
    let spelled : c.split_at.result.1.now ≡ unmarked bytes = c.split_at.ensures.back ∙ ap (λ n. drop n bytes) c.mark_count-mark.ensures.value in
    let raws : c.in-Ok.raw ≡ text.raw = c.in-Ok.ensures.only text.raw (subst (λ u. IsSameText u text.raw) (sym spelled) is.spelled) in
    let marks : c.mark_count-mark.result ≡ text.mark = c.mark_count-mark.ensures.value ∙ sym is.mark in
    let units : c.in_ok-units-in-Ok.units ≡ text.units = c.in_ok-units-in-Ok.ensures ∙ ap (lines false) (c.as_slice.ensures ∙ raws) ∙ sym is.normal in
    (λ i. record { mark = marks i; raw = raws i; units = units i })
