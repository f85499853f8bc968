use Rattle.std.proofs.Common.{ap, ◌∙◌, drop, ◌+◌}
use Rattle.json.specs.Print.{escape}
use Rattle.rip_convert.specs.Written.{added}
use Rattle.rip_convert.proofs.Adding.{escape-step}
use Rattle.rip_convert.proofs.line.Line.push_char.Goals as goal

pub loop-byte-preserved : goal.loop-byte-preserved
loop-byte-preserved c =
    let bytes = c.as_bytes-bytes.result.now in
    ap (λ r. added r (escape (drop (c.loop-byte.byte-index + 1) bytes))) c.push_byte.ensures
    ∙ escape-step c.loop-byte.self bytes c.loop-byte.byte-index c.loop-byte-test.true ∙ c.loop-byte.invariant
