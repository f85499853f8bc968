-- How a session stands after a history.
use Rattle.std.specs.Prelude.{◌≡◌, ℕ, ◌==◌, Bool, false, not, List, [], ◌∷◌, ◌++◌, Option, Some, None, is_none, option_map, if◌then◌else◌}
use Rattle.rip_wire.specs.Reasons.{reason_of}
use Rattle.rip_wire.specs.declared.ending.Reason.{Reason}
use Rattle.rip_wire.specs.declared.ending.Reason.TheVariants.{Closed}
use Rattle.rip_log.specs.Entries.{Recorded, opened, admitted, served, done, closed, ended}
use Rattle.rip_history.specs.declared.standing.Standing.{Standing}

-- as it is opened: batch 0, the opening, is not done
abbrev pub when_opened : Standing
when_opened = record { last = 0; done = None; ended = None }

-- after a batch of this number was admitted
abbrev pub when_admitted : ℕ → Standing → Standing
when_admitted number s = record s { last = number }

-- after a batch of this number was done, and ended the session for this reason, if it did
abbrev pub when_done : ℕ → Option Reason → Standing → Standing
when_done number how s = record s { done = Some number; ended = how }

-- after its client closed it
abbrev pub when_closed : Standing → Standing
when_closed s = record s { ended = Some Closed }

-- it has not ended
abbrev pub is_live : Standing → Bool
is_live s = is_none s.ended

-- the last batch that was done is that of this number
abbrev pub has_done : Option ℕ → ℕ → Bool
has_done None number = false
has_done (Some last) number = last == number

-- a batch that was admitted is not done
abbrev pub is_busy : Standing → Bool
is_busy s = not (has_done s.done s.last)

-- how the session of this ordinal stands after an entry, from how it stood: none before it is opened
abbrev pub after_entry : ℕ → Option Standing → Recorded → Option Standing
after_entry n s (opened turn session id seed time) = if session == n then Some when_opened else s
after_entry n s (admitted turn session batch) = if session == n then option_map (when_admitted batch.number) s else s
after_entry n s (served turn session batch number name args time reply) = s
after_entry n s (done turn session batch how) = if session == n then option_map (when_done batch (option_map reason_of how)) s else s
after_entry n s (closed turn session) = if session == n then option_map when_closed s else s
after_entry n s (ended turn status) = s

-- how it stands after entries
abbrev pub standing_from : ℕ → Option Standing → List Recorded → Option Standing
standing_from n s [] = s
standing_from n s (e ∷ h) = standing_from n (after_entry n s e) h

-- how it stands after a history
abbrev pub standing_of : ℕ → List Recorded → Option Standing
standing_of n h = standing_from n None h

-- the entry is of the session of this ordinal
abbrev pub is_of : ℕ → Recorded → Bool
is_of n (opened turn session id seed time) = session == n
is_of n (admitted turn session batch) = session == n
is_of n (served turn session batch number name args time reply) = session == n
is_of n (done turn session batch how) = session == n
is_of n (closed turn session) = session == n
is_of n (ended turn status) = false

-- the entries of a session, in order
abbrev pub entries_of : ℕ → List Recorded → List Recorded
entries_of n [] = []
entries_of n (e ∷ h) = if is_of n e then e ∷ entries_of n h else entries_of n h

-- one more entry tells how a session stands from how it stood
abbrev pub StandingsFollow : Type 0
StandingsFollow = (n : ℕ) (h : List Recorded) (e : Recorded) → standing_of n (h ++ e ∷ []) ≡ after_entry n (standing_of n h) e

-- a session stands by its own entries: those of others change nothing
abbrev pub StandingsAreOwn : Type 0
StandingsAreOwn = (n : ℕ) (h : List Recorded) → standing_of n h ≡ standing_of n (entries_of n h)
