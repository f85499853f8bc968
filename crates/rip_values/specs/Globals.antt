-- How a global name is looked up.
use Rattle.std.specs.Prelude.{ℕ, List, Option, find, nat_eq}
use Rattle.std.specs.Cmp.Lexicographic.{pointwise}
use Rattle.rip_values.specs.declared.global.Global.{Global}
use Rattle.rip_values.specs.GlobalTable.{global_name, globals}

-- the global of this name
abbrev pub global_named : List ℕ → Option Global
global_named name = find (λ global. pointwise nat_eq (global_name global) name) globals
