use Rattle.std.proofs.Common.{◌≡◌, ◌+◌, length, drop}
use Rattle.rip_markup.specs.Forms.{begins_small}
use Rattle.rip_markup.proofs.form.begins_small.Given as goal

abbrev pub invariant-loop-byte : goal.invariant-loop-byte
invariant-loop-byte l = record {
  same : begins_small (drop l.byte-index l.front) l.rest ≡ begins_small l.front l.text;
  bound : l.byte-index + length l.rest ≡ length l.text;
}
