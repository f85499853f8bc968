-- Refusals as they are printed.
use Rattle.std.specs.Prelude.{ℕ, List, ◌++◌, codes, decimal}
use Rattle.rip_parser.specs.declared.refusal.ParseKind.{ParseKind}
use Rattle.rip_parser.specs.declared.refusal.ParseKind.TheVariants.{Unexpected, TooNested}
use Rattle.rip_parser.specs.declared.refusal.ParseRefusal.{ParseRefusal}
use Rattle.rip_parser.specs.declared.refusal.ParseRefusal.TheVariants.{At, Memory}

-- a kind by its name
abbrev pub kind_text : ParseKind → List ℕ
kind_text Unexpected = codes "Unexpected"
kind_text TooNested = codes "TooNested"

-- a kind and its place, or `memory`
abbrev pub refusal_text : ParseRefusal → List ℕ
refusal_text (At place kind) = kind_text kind ++ codes " " ++ decimal place
refusal_text Memory = codes "memory"
