-- The calls of a form in memory, some of which fail.
use Rattle.std.specs.Prelude.{◌+◌, ℕ, List, nat_lt, count_by, Contains}
use Rattle.rip_outer.specs.Outside.{one_more}
use Rattle.rip_outer.specs.declared.listed.Calls.{Calls}

-- no calls yet, of which these will fail, by their numbers from 1
abbrev pub new_calls : List ℕ → Calls
new_calls failing = record { failing = failing; made = 0 }

-- the next call fails: its number is listed
abbrev pub FailsNext : Calls → Type 0
FailsNext c = Contains c.failing (c.made + 1)

-- one more call was made
abbrev pub after_call : Calls → Calls
after_call c = record c { made = one_more c.made }

-- how many calls that will fail are still to come
abbrev pub failures_left : Calls → ℕ
failures_left calls = count_by (λ n. nat_lt calls.made n) calls.failing
