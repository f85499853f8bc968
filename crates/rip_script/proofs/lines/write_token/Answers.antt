use Rattle.std.proofs.Common.{decimal}
use Rattle.rip_script.specs.Texts.{kind_word, line_word}
use Rattle.rip_script.proofs.Writing.{four_words}
use Rattle.rip_script.proofs.lines.write_token.Goals as goal

pub returns : goal.returns
returns c =
    let t = c.args.token.now in
    cc (
      four_words c.args.out.now (kind_word t.kind) (decimal t.start) (decimal t.count) (line_word t.line_before),
      c.kind_word.ensures,
      c.line_word.ensures,
      c.in_ok-text.ensures.ok,
      c.in_ok-text-2.ensures.ok,
      c.in_ok-number.ensures.ok,
      c.in_ok-text-3.ensures.ok,
      c.in_ok-number-2.ensures.ok,
      c.in_ok-text-4.ensures.ok,
      c.in_ok-text-5.ensures.ok,
      c.in_ok-text-6.ensures.ok,
    )
