use Rattle.std.proofs.Common.{◌∷◌, ◌++◌, [], ap, sym, ◌∙◌, arith}
use Rattle.json.specs.Print.{escape}
use Rattle.rip_data.specs.Datum.{utf8_of}
use Rattle.rip_convert.specs.Written.{added}
use Rattle.rip_convert.proofs.Adding.{added-added, quote-end}
use Rattle.rip_convert.proofs.line.Line.push_text.Goals as goal

pub returns : goal.returns
returns c =
    let us = c.args.units.now in
    c.push-2.ensures ∙ sym (quote-end c.loop-at.self us c.loop-at.at (omega (arith, c.loop-at-test.false))) ∙ c.loop-at.invariant.1
    ∙ ap (λ r. added r (escape (utf8_of us) ++ 34 ∷ [])) c.push.ensures ∙ added-added c.args.self.now (34 ∷ []) (escape (utf8_of us) ++ 34 ∷ [])
