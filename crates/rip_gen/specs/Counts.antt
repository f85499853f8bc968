-- What is counted in a history, and the line that says it.
use Rattle.std.specs.Prelude.{◌≡◌, ℕ, ◌-◌, Bool, true, false, List, ◌++◌, count_by, length, slice_get, codes, decimal, Some}
use Rattle.rip_wire.specs.declared.ending.Ending.TheVariants as ending
use Rattle.rip_log.specs.Entries.{Recorded, opened, served, done, ended}
use Rattle.rip_gen.specs.Plans.{plan_of}
use Rattle.rip_gen.specs.declared.generate.count.Kind.{Kind}
use Rattle.rip_gen.specs.declared.generate.count.Kind.TheVariants as kind

-- ---- kinds of entries

-- a session was opened
abbrev pub is_opening : Recorded → Bool
is_opening (opened turn session id seed time) = true
is_opening other = false

-- a call was served
abbrev pub is_service : Recorded → Bool
is_service (served turn session batch number name args time reply) = true
is_service other = false

-- a batch was done and ended its session
abbrev pub ends_session : Recorded → Bool
ends_session (done turn session batch (Some how)) = true
ends_session other = false

-- a batch was done and ended its session for want of memory
abbrev pub lacks_memory : Recorded → Bool
lacks_memory (done turn session batch (Some (ending.Memory item))) = true
lacks_memory other = false

-- the entries of a kind
abbrev pub is_of : Kind → Recorded → Bool
is_of kind.Opening r = is_opening r
is_of kind.Service r = is_service r
is_of kind.End r = ends_session r
is_of kind.Lack r = lacks_memory r

-- ---- counts

-- how many entries of a history are of a kind
abbrev pub many : Kind → List Recorded → ℕ
many kind history = count_by (is_of kind) history

-- the last entry ends the history in this turn, with status 0
abbrev pub EndsIn : ℕ → List Recorded → Type 0
EndsIn turn history = slice_get history (length history - 1) ≡ Some (ended turn 0)

-- ---- the line

-- `generate N sessions S served A ended B turns T`
abbrev pub generate_line : ℕ → ℕ → ℕ → ℕ → ℕ → List ℕ
generate_line n sessions calls ends turns =
    codes "generate " ++ (decimal n ++ (codes " sessions " ++ (decimal sessions ++ (codes " served " ++ (decimal calls ++ (codes " ended " ++ (decimal ends ++ (codes " turns " ++ (decimal turns ++ codes "\n")))))))))

-- all sessions of the plan were opened in this history, none of which ended for want of memory, and this line sums it up
pub record IsSummedUp (n : ℕ) (history : List Recorded) (line : List ℕ) : Type 0 where
  pub opened : many kind.Opening history ≡ (plan_of n).sessions
  pub none_lacks : many kind.Lack history ≡ 0
  pub turns : ℕ
  pub ends : EndsIn turns history
  pub is : line ≡ generate_line n (plan_of n).sessions (many kind.Service history) (many kind.End history) turns
