-- A course: the requests that are handled in each turn, what is decided on them, and what the sessions do at its end.
use Rattle.std.specs.Prelude.{◌≡◌, ℕ, ◌+◌, ◌≤◌, ◌&&◌, nat_lt, Bool, true, false, List, [], ◌∷◌, ◌++◌, length, map, Some, None}
use Rattle.std.specs.List.{AllByRecursion}
use Rattle.rip_log.specs.Entries.{Recorded, opened, admitted, served, done, closed, ended}
use Rattle.rip_history.specs.Requests.{Asked, page, batch, quit, Drawn, drawn_of, Lack, early, live_count, Decision, answers, opens, admits, closes, decide, identifiers_in}
use Rattle.rip_history.specs.Sequences.{AreDistinct, counted, numbers_of, ordinals_in}
use Rattle.rip_history.specs.Parts.{Meaning, ReadsGivenInTurn}
use Rattle.rip_history.specs.Services.{Called, Service}
use Rattle.rip_history.specs.Sessions.{IsSessionOf, Agree, opening_in, batches_in, given_in, deeds_in, wants_memory, story_in}

-- a request that is handled: what it asks, the words that would be drawn, and want of memory
pub record Handled : Type 0 where
  pub asked : Asked
  pub drawn : Drawn
  pub lack : Lack

-- a turn: its moment, the requests that are handled in it, in order, and the entries of what the sessions did behind that
pub record Turn : Type 0 where
  pub moment : ℕ
  pub handled : List Handled
  pub made : List Recorded

-- the entry of what is decided in a turn, if there is one: a session's time is the moment of its turn
abbrev pub decided_entries : ℕ → ℕ → Decision → List Recorded
decided_entries turn moment (answers code body) = []
decided_entries turn moment (opens n id seed) = opened turn n id seed moment ∷ []
decided_entries turn moment (admits n b) = admitted turn n b ∷ []
decided_entries turn moment (closes n body) = closed turn n ∷ []

-- the entries of requests one after another, each decided by all entries before it
abbrev pub handled_entries : ℕ → ℕ → ℕ → List Recorded → List Handled → List Recorded
handled_entries limit turn moment h [] = []
handled_entries limit turn moment h (x ∷ xs) =
    let es = decided_entries turn moment (decide limit h x.asked x.drawn x.lack) in
    es ++ handled_entries limit turn moment (h ++ es) xs

-- all entries of a turn
abbrev pub turn_entries : ℕ → ℕ → List Recorded → Turn → List Recorded
turn_entries limit turn h t = handled_entries limit turn t.moment h t.handled ++ t.made

-- all entries of turns, the first of which has this number
abbrev pub entries_from : ℕ → ℕ → List Recorded → List Turn → List Recorded
entries_from limit turn h [] = []
entries_from limit turn h (t ∷ ts) =
    let es = turn_entries limit turn h t in
    es ++ entries_from limit (turn + 1) (h ++ es) ts

-- words are drawn at what is asked: at a request for the page for which there is memory, while fewer sessions live than may
-- and fewer than 1,000,000 were opened
abbrev pub draws : ℕ → List Recorded → Asked → Lack → Bool
draws limit h page early = false
draws limit h page lack = nat_lt (live_count h) limit && nat_lt (length (identifiers_in h)) 1000000
draws limit h (batch id b) lack = false
draws limit h (quit id) lack = false

-- three words are drawn, and give what was drawn, and these are left; or none is
abbrev pub Draws : Bool → Drawn → List ℕ → List ℕ → Type 0
Draws true drawn words left =
    (first second third : ℕ) × (words ≡ first ∷ second ∷ third ∷ left) × (drawn ≡ drawn_of first second third)
Draws false drawn words left = words ≡ left

-- so at each request of a turn, from the entries before it, and these are left
abbrev pub HandledDraw : ℕ → ℕ → ℕ → List Recorded → List Handled → List ℕ → List ℕ → Type 0
HandledDraw limit turn moment h [] words left = words ≡ left
HandledDraw limit turn moment h (x ∷ xs) words left =
    (behind : List ℕ) × Draws (draws limit h x.asked x.lack) x.drawn words behind
    × HandledDraw limit turn moment (h ++ decided_entries turn moment (decide limit h x.asked x.drawn x.lack)) xs behind left

-- in turns, the first of which has this number, these words are drawn, and no more
abbrev pub AreDrawn : ℕ → ℕ → List Recorded → List Turn → List ℕ → Type 0
AreDrawn limit turn h [] words = words ≡ []
AreDrawn limit turn h (t ∷ ts) words =
    (left : List ℕ) × HandledDraw limit turn t.moment h t.handled words left
    × AreDrawn limit (turn + 1) (h ++ turn_entries limit turn h t) ts left

-- what a session does in a turn: a call is served, with the moment of the turn, or a batch is done
abbrev pub IsMadeIn : ℕ → ℕ → Recorded → Type 0
IsMadeIn turn moment (opened t session id seed time) = ⊥
IsMadeIn turn moment (admitted t session b) = ⊥
IsMadeIn turn moment (served t session number k name args time reply) = (t ≡ turn) × (time ≡ moment)
IsMadeIn turn moment (done t session number how) = t ≡ turn
IsMadeIn turn moment (closed t session) = ⊥
IsMadeIn turn moment (ended t status) = ⊥

-- the session of an entry; the end of the run is of none, 0
abbrev pub session_of : Recorded → ℕ
session_of (opened t session id seed time) = session
session_of (admitted t session b) = session
session_of (served t session number k name args time reply) = session
session_of (done t session number how) = session
session_of (closed t session) = session
session_of (ended t status) = 0

-- they stand by the ordinals of their sessions, none of which is below this
abbrev pub AreBySession : ℕ → List Recorded → Type 0
AreBySession low [] = Unit {0}
AreBySession low (e ∷ es) = (low ≤ session_of e) × AreBySession (session_of e) es

-- what the sessions did in turns, the first of which has this number
abbrev pub AreMade : ℕ → List Turn → Type 0
AreMade turn [] = Unit {0}
AreMade turn (t ∷ ts) = AllByRecursion (IsMadeIn turn t.moment) t.made × AreBySession 0 t.made × AreMade (turn + 1) ts

-- each reply is that of the service, after the calls before and those of the entries before it
abbrev pub AreReplies : Service → List Called → List Recorded → Type 0
AreReplies service before [] = Unit {0}
AreReplies service before (opened t session id seed time ∷ h) = AreReplies service before h
AreReplies service before (admitted t session b ∷ h) = AreReplies service before h
AreReplies service before (served t session number k name args time reply ∷ h) =
    (reply ≡ service before (name, args)) × AreReplies service (before ++ (name, args) ∷ []) h
AreReplies service before (done t session number how ∷ h) = AreReplies service before h
AreReplies service before (closed t session ∷ h) = AreReplies service before h
AreReplies service before (ended t status ∷ h) = AreReplies service before h

-- turns by the moments of a clock and the words that were drawn
pub record Told : Type 0 where
  pub moments : List ℕ
  pub words : List ℕ

-- the history of turns: openings, admissions and closings are those that are decided;
-- behind them each session does, up to the last turn, what the meaning says, in the turn of its cost; the moments, the
-- words and the replies are those of one clock, one source of words and one service
pub record IsCourse (m : Meaning) (service : Service) (limit : ℕ) (told : Told) (turns : List Turn) (history : List Recorded) : Type 0 where
  pub entries : history ≡ entries_from limit 1 [] turns
  pub made : AreMade 1 turns
  pub moments : told.moments ≡ map (λ (t : Turn). t.moment) turns
  pub words : AreDrawn limit 1 [] turns told.words
  pub sessions : (n : ℕ) (opening : ℕ × ℕ) → opening_in n history ≡ Some opening → IsSessionOf m (length turns) history n
  pub others : (n : ℕ) → opening_in n history ≡ None → deeds_in n history ≡ []
  pub replies : AreReplies service [] history

-- ---- laws

-- the turn of an entry
abbrev pub turn_of : Recorded → ℕ
turn_of (opened t session id seed time) = t
turn_of (admitted t session b) = t
turn_of (served t session number k name args time reply) = t
turn_of (done t session number how) = t
turn_of (closed t session) = t
turn_of (ended t status) = t

-- their turns never fall, none is below the first of these numbers, and none above the second
abbrev pub AreWithin : ℕ → ℕ → List Recorded → Type 0
AreWithin low high [] = Unit {0}
AreWithin low high (e ∷ h) = (low ≤ turn_of e) × (turn_of e ≤ high) × AreWithin (turn_of e) high h

-- in a course the turns never fall; the first is 1, and none is above the last
abbrev pub CoursesAreInOrder : Type 0
CoursesAreInOrder =
    (m : Meaning) (service : Service) (limit : ℕ) (told : Told) (turns : List Turn) (history : List Recorded)
    → IsCourse m service limit told turns history → AreWithin 1 (length turns) history

-- sessions are counted from 1 in the order of their opening, no two have one identifier, and the batches of each are counted
-- from 1 in the order of their admission
pub record CountsFromOne (h : List Recorded) : Type 0 where
  pub ordinals : ordinals_in h ≡ counted 1 (length (ordinals_in h))
  pub identifiers : AreDistinct (identifiers_in h)
  pub batches : (n : ℕ) → numbers_of (batches_in n h) ≡ counted 1 (length (batches_in n h))

-- so it is in a course
abbrev pub CoursesCount : Type 0
CoursesCount =
    (m : Meaning) (service : Service) (limit : ℕ) (told : Told) (turns : List Turn) (history : List Recorded)
    → IsCourse m service limit told turns history → CountsFromOne history

-- isolation: two courses of one meaning, over any services, that give a session of each, which wants no memory there, the
-- same opening, the same batches and, as far as both go, the same moments and replies, have it do the same as far as both
-- go
abbrev pub CoursesIsolate : Type 0
CoursesIsolate =
    (m : Meaning) → ReadsGivenInTurn m
    → (service other_service : Service) (limit other_limit : ℕ) (told other_told : Told) (turns other_turns : List Turn)
    → (history other : List Recorded) (n k : ℕ) (opening : ℕ × ℕ)
    → IsCourse m service limit told turns history → IsCourse m other_service other_limit other_told other_turns other
    → opening_in n history ≡ Some opening → opening_in k other ≡ Some opening
    → wants_memory n history ≡ false → wants_memory k other ≡ false
    → batches_in n history ≡ batches_in k other
    → Agree (given_in n history) (given_in k other)
    → Agree (story_in n history) (story_in k other)
