use Rattle.std.proofs.Common.{◌≡◌, ◌+◌, ◌++◌, length, drop, vec_capacity}
use Rattle.rip_convert.proofs.line.append.Given as goal

-- what is there and what is left make up the whole
abbrev pub invariant-loop-byte : goal.invariant-loop-byte
invariant-loop-byte l = record {
  bytes : l.bytes.items ++ drop l.byte-index l.more ≡ l.initial.bytes.items ++ l.more;
  count : length l.bytes.items ≡ length l.initial.bytes.items + l.byte-index;
  room : vec_capacity l.bytes ≡ vec_capacity l.initial.bytes;
}
