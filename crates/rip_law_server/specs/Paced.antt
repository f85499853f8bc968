-- A client that tells a session its batches in order, each once the one before it is done, and what it is answered.
use Rattle.std.specs.Prelude.{◌≡◌, ◌≢◌, ℕ, ◌+◌, ◌==◌, ◌&&◌, Bool, true, false, List, [], ◌∷◌, ◌++◌, Option, Some, None, codes, if◌then◌else◌}
use Rattle.std.specs.List.{filter_map, list_any}
use Rattle.rip_wire.specs.Answers.{answer_text}
use Rattle.rip_wire.specs.Batches.{Contents}
use Rattle.rip_wire.specs.declared.ending.Ending.{Ending}
use Rattle.rip_wire.specs.declared.ending.Reason.{Reason}
use Rattle.rip_wire.specs.declared.ending.Reason.TheVariants.{Closed}
use Rattle.rip_log.specs.Entries.{Recorded}
use Rattle.rip_history.specs.Answering.{batch_answer, batch_body, json_answer}
use Rattle.rip_history.specs.Course.{Handled, Turn, decided_entries, turn_entries}
use Rattle.rip_history.specs.Parts.{IsLawful, ends_batch}
use Rattle.rip_history.specs.Requests.{Asked, page, batch, quit, Lack, no_lack, early, late, Decision, admits, closes, decide, fails, gone, named_by}
use Rattle.rip_history.specs.Run.{Site, first_state, Coming}
use Rattle.rip_history.specs.Runs.{AreTurns}
use Rattle.rip_history.specs.Sessions.{Deed, IsFrontOf, batches_in, deeds_in}
use Rattle.rip_history.specs.Standings.{standing_of}
use Rattle.rip_history.specs.declared.standing.Standing.{Standing}
use Rattle.rip_law_history.specs.Legal.{course_turns, history_of}

-- ---- the requests of a run

-- a request that is handled: the history before it, what it asks, want of memory at it, and what is decided on it
pub record Request : Type 0 where
  pub before : List Recorded
  pub asked : Asked
  pub lack : Lack
  pub decision : Decision

-- so it is by the history before it, where at most so many sessions may live
abbrev pub request_of : ℕ → List Recorded → Handled → Request
request_of limit h x = record {
  before = h;
  asked = x.asked;
  lack = x.lack;
  decision = decide limit h x.asked x.drawn x.lack;
}

-- the requests of a turn, in order
abbrev pub requests_in : ℕ → ℕ → ℕ → List Recorded → List Handled → List Request
requests_in limit turn moment h [] = []
requests_in limit turn moment h (x ∷ xs) =
    request_of limit h x ∷ requests_in limit turn moment (h ++ decided_entries turn moment (decide limit h x.asked x.drawn x.lack)) xs

-- those of turns, the first of which has this number
abbrev pub requests_from : ℕ → ℕ → List Recorded → List Turn → List Request
requests_from limit turn h [] = []
requests_from limit turn h (t ∷ ts) =
    requests_in limit turn t.moment h t.handled ++ requests_from limit (turn + 1) (h ++ turn_entries limit turn h t) ts

-- those of a run
abbrev pub requests_of : Site → List Coming → List Request
requests_of site ts = requests_from site.limit 1 [] (course_turns 1 ts)

-- ---- what is asked of a session

-- what a request asks of one session: nothing; that a batch be handled, if its body spells one; or that the session be closed
pub data Wish : Type 0 where
  nothing : Wish
  handles : Option Contents → Wish
  ends : Wish

-- the session that was found is that of this ordinal
abbrev pub is_session : ℕ → Option ℕ → Bool
is_session n None = false
is_session n (Some k) = k == n

-- what is asked of the session of an ordinal, by the identifiers of the history before
abbrev pub wish_in : ℕ → List Recorded → Asked → Wish
wish_in n h page = nothing
wish_in n h (batch id b) = if is_session n (named_by id h) then handles b else nothing
wish_in n h (quit id) = if is_session n (named_by id h) then ends else nothing

-- where memory was wanting before a request was read, nothing is asked of a session: it is answered alike, whatever it asks
abbrev pub wish_read : Lack → Wish → Wish
wish_read no_lack w = w
wish_read early w = nothing
wish_read late w = w

-- what a request asks of the session of an ordinal
abbrev pub wish_of : ℕ → Request → Wish
wish_of n r = wish_read r.lack (wish_in n r.before r.asked)

-- the batch that is to be handled
abbrev pub batch_told : Wish → Option Contents
batch_told nothing = None
batch_told (handles b) = b
batch_told ends = None

-- the batches that requests tell to the session, in order
abbrev pub batches_told : ℕ → List Request → List Contents
batches_told n rs = filter_map (λ (r : Request). batch_told (wish_of n r)) rs

-- ---- the pace of a client

-- the session's batch of this number is done in the history; its opening is batch 0
abbrev pub was_done : ℕ → ℕ → List Recorded → Bool
was_done n number h = list_any (λ (d : Deed). d.batch == number && ends_batch d.fact) (deeds_in n h)

-- behind so many batches the client tells the next, once the last of them is done
abbrev pub IsInPace : ℕ → ℕ → List Recorded → Wish → Type 0
IsInPace n count h nothing = Unit {0}
IsInPace n count h (handles None) = ⊥
IsInPace n count h (handles (Some b)) = (b.number ≡ count + 1) × (was_done n count h ≡ true)
IsInPace n count h ends = Unit {0}

-- how many batches were told then
abbrev pub count_behind : ℕ → Wish → ℕ
count_behind count nothing = count
count_behind count (handles b) = count + 1
count_behind count ends = count

-- of these requests, before which so many batches were told, those for batches of the session tell the next ones in order,
-- each once the one before it is done; one that was not read for want of memory may be asked again
abbrev pub KeepsPace : ℕ → ℕ → List Request → Type 0
KeepsPace n count [] = Unit {0}
KeepsPace n count (r ∷ rs) = IsInPace n count r.before (wish_of n r) × KeepsPace n (count_behind count (wish_of n r)) rs

-- ---- what it is answered

-- what is decided on a request for a session: this; or memory is wanting at it; or the session has ended before, which is
-- told
pub data IsDecided (n : ℕ) (r : Request) (wanted : Decision) : Type 0 where
  so : r.decision ≡ wanted → IsDecided n r wanted
  wants : r.lack ≢ no_lack → r.decision ≡ fails 503 (codes "memory") → IsDecided n r wanted
  over : (s : Standing) (reason : Reason) → standing_of n r.before ≡ Some s → s.ended ≡ Some reason → r.decision ≡ gone s → IsDecided n r wanted

-- that its client closed it, which is told with the number of its last batch
abbrev pub closing : ℕ → ℕ → Decision
closing n count = closes n (answer_text (record { number = count; ended = Some Closed; served = [] }))

-- behind so many batches the next is admitted, and once the last is done the session is closed where that is asked; where
-- memory was wanting before the request was read, that is answered
abbrev pub IsMet : ℕ → ℕ → Request → Wish → Type 0
IsMet n count r nothing = r.lack ≡ early → r.decision ≡ fails 503 (codes "memory")
IsMet n count r (handles None) = Unit {0}
IsMet n count r (handles (Some b)) = IsDecided n r (admits n b)
IsMet n count r ends = was_done n count r.before ≡ true → IsDecided n r (closing n count)

-- so it is with each of these requests, before which so many batches were told
abbrev pub AreMet : ℕ → ℕ → List Request → Type 0
AreMet n count [] = Unit {0}
AreMet n count (r ∷ rs) = IsMet n count r (wish_of n r) × AreMet n (count_behind count (wish_of n r)) rs

-- ---- the law

-- of a session in a run: its requests are met, and its batches are the first of those that were told
pub record IsServed (site : Site) (ts : List Coming) (n : ℕ) : Type 0 where
  pub met : AreMet n 0 (requests_of site ts)
  pub batches : IsFrontOf (batches_in n (history_of site ts)) (batches_told n (requests_of site ts))

-- so it is in each run of the machine, after any of its turns, of a session whose client keeps pace
abbrev pub PacedAreServed : Type 0
PacedAreServed =
    (site : Site) (ts : List Coming) (n : ℕ) → IsLawful site.meaning → AreTurns site 1 first_state ts
    → KeepsPace n 0 (requests_of site ts) → IsServed site ts n

-- the answer that is due when a batch behind the opening is done has code 200, and tells its number, how it ended its session,
-- if it did, and the calls that it served
abbrev pub BatchesAreAnswered : Type 0
BatchesAreAnswered =
    (page : List ℕ) (n number : ℕ) (how : Option Ending) (h : List Recorded) (close : Bool) → number ≢ 0
    → batch_answer page n number how h close ≡ json_answer 200 (batch_body n number how h) close
