-- Why, and how far from the first unit of a construct, it is refused.
use Rattle.std.specs.Prelude.{ℕ}
use Rattle.rip_lexer.specs.declared.refusal.Fault.{Fault}
use Rattle.rip_lexer.specs.declared.refusal.LexKind.{LexKind}

-- the fault at this offset, of this kind
abbrev pub fault : ℕ → LexKind → Fault
fault offset kind = record { offset = offset; kind = kind }
