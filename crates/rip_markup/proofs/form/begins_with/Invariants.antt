use Rattle.std.proofs.Common.{◌≡◌, ◌+◌, length, drop}
use Rattle.rip_markup.specs.Words.{begins_with}
use Rattle.rip_markup.proofs.form.begins_with.Given as goal

abbrev pub invariant-loop-byte : goal.invariant-loop-byte
invariant-loop-byte l = record {
  same : begins_with (drop l.byte-index l.front) l.rest ≡ begins_with l.front l.text;
  bound : l.byte-index + length l.rest ≡ length l.text;
}
