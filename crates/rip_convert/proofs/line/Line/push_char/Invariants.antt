use Rattle.std.proofs.Common.{◌≡◌, drop}
use Rattle.json.specs.Print.{escape}
use Rattle.rip_convert.specs.Written.{added}
use Rattle.rip_convert.proofs.line.Line.push_char.Given as goal

-- what is there and what is left make up the whole
abbrev pub invariant-loop-byte : goal.invariant-loop-byte
invariant-loop-byte l = added l.self (escape (drop l.byte-index l.bytes)) ≡ added l.initial.self (escape l.bytes)
