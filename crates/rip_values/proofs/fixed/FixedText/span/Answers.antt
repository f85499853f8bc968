use Rattle.std.proofs.Common.{◌≡◌, ap, length}
use Rattle.rip_values.specs.FixedTable.{text_of}
use Rattle.rip_values.proofs.FixedTableLemmas.{fixed_span-text_of}
use Rattle.rip_values.proofs.fixed.FixedText.span.Goals as goal

pub returns : goal.returns
returns c =
    let placed = fixed_span-text_of c.args.self in
    let spelled : length c.text.result.now ≡ length (text_of c.args.self) = ap length c.text.ensures in
    cc
