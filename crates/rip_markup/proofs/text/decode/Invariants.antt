use Rattle.std.proofs.Common.{◌≡◌, ◌+◌, ◌++◌, length}
use Rattle.rip_markup.specs.Steps.{decoded, bad_reference}
use Rattle.rip_markup.proofs.text.decode.Given as goal

abbrev pub invariant-text : goal.invariant-text
invariant-text l = record {
  units : l.out.items ++ decoded 0 l.rest ≡ decoded 0 l.text;
  bad : bad_reference l.place 0 l.rest ≡ bad_reference 0 0 l.text;
  bound : l.place + length l.rest ≡ length l.text;
}

abbrev pub decreases-text : goal.decreases-text
decreases-text l = length l.rest
