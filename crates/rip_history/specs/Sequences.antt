-- Which entry may come after which.
use Rattle.std.specs.Prelude.{◌≡◌, ℕ, zero, suc, ◌+◌, ◌==◌, Bool, true, false, List, [], ◌∷◌, ◌++◌, length, map, Some}
use Rattle.std.specs.List.{list_any}
use Rattle.rip_wire.specs.Batches.{Contents}
use Rattle.rip_log.specs.Entries.{Recorded, opened, admitted, served, done, closed, ended}
use Rattle.rip_history.specs.Decisions.{batch_decision, close_decision}
use Rattle.rip_history.specs.Requests.{identifiers_in, was_opened}
use Rattle.rip_history.specs.Sessions.{batches_in}
use Rattle.rip_history.specs.Standings.{is_busy, standing_of}
use Rattle.rip_history.specs.declared.standing.Standing.{Standing}
use Rattle.rip_history.specs.declared.decision.BatchDecision.TheVariants.{Admit}
use Rattle.rip_history.specs.declared.decision.CloseDecision.TheVariants.{Close}

-- the session stands so that its batch of this number was admitted last, and is not done
pub record IsBusyWith (h : List Recorded) (n number : ℕ) : Type 0 where
  pub standing : Standing
  pub stands : standing_of n h ≡ Some standing
  pub last : standing.last ≡ number
  pub busy : is_busy standing ≡ true

-- the session stands so that a batch of this number is admitted
pub record IsReadyFor (h : List Recorded) (n number : ℕ) : Type 0 where
  pub standing : Standing
  pub stands : standing_of n h ≡ Some standing
  pub admits : batch_decision standing number ≡ Admit

-- the session stands so that it is closed
pub record IsIdle (h : List Recorded) (n : ℕ) : Type 0 where
  pub standing : Standing
  pub stands : standing_of n h ≡ Some standing
  pub closes : close_decision standing ≡ Close

-- the entry may come after these: a session is opened with the next ordinal and an identifier that none had; a batch is
-- admitted, and a session is closed, where that is decided; a call is served and a batch is done while it is the
-- session's last
abbrev pub MayFollow : List Recorded → Recorded → Type 0
MayFollow h (opened turn session id seed time) = (session ≡ length (identifiers_in h) + 1) × (was_opened id h ≡ false)
MayFollow h (admitted turn session b) = IsReadyFor h session b.number
MayFollow h (served turn session number k name args time reply) = IsBusyWith h session number
MayFollow h (done turn session number how) = IsBusyWith h session number
MayFollow h (closed turn session) = IsIdle h session
MayFollow h (ended turn status) = Unit {0}

-- the run is over: an entry says its status
abbrev pub is_over : List Recorded → Bool
is_over [] = false
is_over (opened turn session id seed time ∷ h) = is_over h
is_over (admitted turn session b ∷ h) = is_over h
is_over (served turn session number k name args time reply ∷ h) = is_over h
is_over (done turn session number how ∷ h) = is_over h
is_over (closed turn session ∷ h) = is_over h
is_over (ended turn status ∷ h) = true

-- each of the entries may come after those before it, and none comes where the run is over
abbrev pub EachFollows : List Recorded → List Recorded → Type 0
EachFollows before [] = Unit {0}
EachFollows before (e ∷ h) = (is_over before ≡ false) × MayFollow before e × EachFollows (before ++ e ∷ []) h

-- a history whose entries may each come after those before it
abbrev pub IsOrderly : List Recorded → Type 0
IsOrderly h = EachFollows [] h

-- ---- laws

-- so many numbers, from this one on
abbrev pub counted : ℕ → ℕ → List ℕ
counted from zero = []
counted from (suc n) = from ∷ counted (from + 1) n

-- the ordinals of the sessions that were opened, in order
abbrev pub ordinals_in : List Recorded → List ℕ
ordinals_in [] = []
ordinals_in (opened turn session id seed time ∷ h) = session ∷ ordinals_in h
ordinals_in (admitted turn session b ∷ h) = ordinals_in h
ordinals_in (served turn session number k name args time reply ∷ h) = ordinals_in h
ordinals_in (done turn session number how ∷ h) = ordinals_in h
ordinals_in (closed turn session ∷ h) = ordinals_in h
ordinals_in (ended turn status ∷ h) = ordinals_in h

-- the numbers of batches
abbrev pub numbers_of : List Contents → List ℕ
numbers_of bs = map (λ (b : Contents). b.number) bs

-- in an orderly history the sessions are counted from 1
abbrev pub OrdinalsCount : Type 0
OrdinalsCount = (h : List Recorded) → IsOrderly h → ordinals_in h ≡ counted 1 (length (ordinals_in h))

-- and the batches of each session, in the order of their admission, are numbered 1, 2, 3
abbrev pub BatchesCount : Type 0
BatchesCount = (h : List Recorded) (n : ℕ) → IsOrderly h → numbers_of (batches_in n h) ≡ counted 1 (length (batches_in n h))

-- no number stands twice
abbrev pub AreDistinct : List ℕ → Type 0
AreDistinct [] = Unit {0}
AreDistinct (x ∷ xs) = (list_any (λ other. other == x) xs ≡ false) × AreDistinct xs

-- and no two have one identifier
abbrev pub IdentifiersDiffer : Type 0
IdentifiersDiffer = (h : List Recorded) → IsOrderly h → AreDistinct (identifiers_in h)

-- and the entry that says the status of the run is the last
abbrev pub EndsLast : Type 0
EndsLast = (before behind : List Recorded) (turn status : ℕ) → IsOrderly (before ++ ended turn status ∷ behind) → behind ≡ []
