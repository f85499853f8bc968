use Rattle.std.proofs.Common.{◌≡◌, ◌+◌, length}
use Rattle.rip_markup.specs.Forms.{stops, before}
use Rattle.rip_markup.proofs.form.count_before.Given as goal

abbrev pub invariant-loop-rest : goal.invariant-loop-rest
invariant-loop-rest l = record {
  counted : l.count + length (before (stops l.stop) l.rest) ≡ length (before (stops l.stop) l.text);
  bound : l.count + length l.rest ≡ length l.text;
}

abbrev pub decreases-loop-rest : goal.decreases-loop-rest
decreases-loop-rest l = length l.rest
