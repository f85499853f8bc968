-- Why, and how far from the first unit of a construct, it is refused.
use Rattle.std.specs.Prelude.{ℕ, ◌+◌, Option, Some, None}
use Rattle.rip_markup.specs.declared.fault.Fault.{Fault}
use Rattle.rip_base.specs.declared.page.PageKind.{PageKind}

-- the fault at this offset, of this kind
abbrev pub fault : ℕ → PageKind → Fault
fault offset kind = record { offset = offset; kind = kind }

-- the fault of a part that stands so many units behind the first
abbrev pub shifted : ℕ → Fault → Fault
shifted place found = record { offset = place + found.offset; kind = found.kind }

-- the first of two, where there is one
abbrev pub option_or : {X : Type 0} → Option X → Option X → Option X
option_or None second = second
option_or (Some x) second = Some x
