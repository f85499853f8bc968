-- What is decided on a request to a session that was opened, by how the session stands.
use Rattle.std.specs.Prelude.{◌≡◌, ◌↔◌, ℕ, ◌+◌, ◌-◌, ◌&&◌, nat_lt, not, Some, None, if◌then◌else◌}
use Rattle.rip_history.specs.declared.standing.Standing.{Standing}
use Rattle.rip_history.specs.declared.decision.BatchDecision.{BatchDecision}
use Rattle.rip_history.specs.declared.decision.BatchDecision.TheVariants as batch
use Rattle.rip_history.specs.declared.decision.CloseDecision.{CloseDecision}
use Rattle.rip_history.specs.declared.decision.CloseDecision.TheVariants as close
use Rattle.rip_history.specs.Standings.{is_live, is_busy, has_done}

-- a batch of this number, the first that applies: the last finished one of a live session has its stored answer; an
-- ended session is gone; one with a batch that is not done is busy; a number below the last admitted is old; one more
-- than one above it leaves a gap; the next is admitted
abbrev pub batch_decision : Standing → ℕ → BatchDecision
batch_decision s number =
    if is_live s && has_done s.done number then batch.Repeat
    else if not (is_live s) then batch.Gone
    else if is_busy s then batch.Busy
    else if nat_lt number s.last then batch.Old
    else if nat_lt 1 (number - s.last) then batch.Gap
    else batch.Admit

-- the end of the session, the first that applies: an ended one is gone, a busy one is busy, else it is closed
abbrev pub close_decision : Standing → CloseDecision
close_decision s =
    if not (is_live s) then close.Gone
    else if is_busy s then close.Busy
    else close.Close

-- a batch is admitted exactly where the session lives, its last batch is done, and the number is the next
abbrev pub AdmitsNext : Type 0
AdmitsNext = (s : Standing) (number : ℕ) →
    (batch_decision s number ≡ batch.Admit)
    ↔ ((s.ended ≡ None) × (s.done ≡ Some s.last) × (number ≡ s.last + 1))

-- a session is closed exactly where it lives and its last batch is done
abbrev pub ClosesIdle : Type 0
ClosesIdle = (s : Standing) → (close_decision s ≡ close.Close) ↔ ((s.ended ≡ None) × (s.done ≡ Some s.last))
