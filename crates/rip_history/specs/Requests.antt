-- What is decided on a request, by the history so far.
use Rattle.std.specs.Prelude.{◌≡◌, ℕ, zero, suc, ◌+◌, ◌<◌, ◌==◌, ◌%◌, ◌^◌, ◌&&◌, Bool, false, nat_le, List, [], ◌∷◌, ◌++◌, length, Option, Some, None, option_map, codes, if◌then◌else◌}
use Rattle.std.specs.List.{list_any}
use Rattle.std.specs.Int.{to_be_bytes, from_be_bytes, w64, w128}
use Rattle.serde_json.specs.Data.{object, member, no_members, string}
use Rattle.serde_json.specs.Written.{compact_text}
use Rattle.uuid.specs.Text.{parsed}
use Rattle.uuid.specs.Parts.{with_version, with_variant}
use Rattle.uuid.specs.declared.Version.TheVariants.{Random}
use Rattle.uuid.specs.declared.Variant.TheVariants.{RFC4122}
use Rattle.rip_http.specs.declared.request.Message.{Message}
use Rattle.rip_http.specs.declared.request.Route.{Route}
use Rattle.rip_http.specs.declared.request.Route.TheVariants.{Page, Events, Quit}
use Rattle.rip_wire.specs.Answers.{Served, answer_text}
use Rattle.rip_wire.specs.Batches.{Contents, Spells, SpellsNone}
use Rattle.rip_wire.specs.declared.ending.Reason.TheVariants.{Closed}
use Rattle.rip_log.specs.Entries.{Recorded, opened, admitted, served, done, closed, ended}
use Rattle.rip_history.specs.Decisions.{batch_decision, close_decision}
use Rattle.rip_history.specs.Standings.{is_live, standing_of}
use Rattle.rip_history.specs.declared.standing.Standing.{Standing}
use Rattle.rip_history.specs.declared.decision.BatchDecision.{BatchDecision}
use Rattle.rip_history.specs.declared.decision.BatchDecision.TheVariants as on_batch
use Rattle.rip_history.specs.declared.decision.CloseDecision.{CloseDecision}
use Rattle.rip_history.specs.declared.decision.CloseDecision.TheVariants as on_close

-- ---- what is asked

-- what a request asks: the page; that a batch be handled, for the session of an identifier; that a session be closed.
-- There is no identifier where the segment spells none, and no batch where the body spells none
pub data Asked : Type 0 where
  page : Asked
  batch : Option ℕ → Option Contents → Asked
  quit : Option ℕ → Asked

-- RFC 9562 4: the identifier that a segment spells
abbrev pub identifier_in : List ℕ → Option ℕ
identifier_in segment = option_map (from_be_bytes w128) (parsed segment)

-- the batch that a body spells, or that it spells none
abbrev pub Says : List ℕ → Option Contents → Type 0
Says body None = SpellsNone body
Says body (Some b) = Spells body b

-- what is asked at a route with this segment and body
abbrev pub AsksAt : Route → List ℕ → List ℕ → Asked → Type 0
AsksAt Page segment body asked = asked ≡ page
AsksAt Events segment body asked = (b : Option Contents) × Says body b × (asked ≡ batch (identifier_in segment) b)
AsksAt Quit segment body asked = asked ≡ quit (identifier_in segment)

-- what a message asks
abbrev pub Asks : Message → Asked → Type 0
Asks m asked = AsksAt m.route m.segment m.body asked

-- ---- what the history says

-- the identifiers of the sessions that were opened, in order: the session at place k, from 1, has the ordinal k
abbrev pub identifiers_in : List Recorded → List ℕ
identifiers_in [] = []
identifiers_in (opened turn session id seed time ∷ h) = id ∷ identifiers_in h
identifiers_in (admitted turn session b ∷ h) = identifiers_in h
identifiers_in (served turn session number k name args time reply ∷ h) = identifiers_in h
identifiers_in (done turn session number how ∷ h) = identifiers_in h
identifiers_in (closed turn session ∷ h) = identifiers_in h
identifiers_in (ended turn status ∷ h) = identifiers_in h

-- a session was opened with this identifier
abbrev pub was_opened : ℕ → List Recorded → Bool
was_opened id h = list_any (λ other. other == id) (identifiers_in h)

-- the ordinal of the first session that was opened with this identifier
abbrev pub session_named : ℕ → List Recorded → Option ℕ
session_named wanted [] = None
session_named wanted (opened turn session id seed time ∷ h) = if id == wanted then Some session else session_named wanted h
session_named wanted (admitted turn session b ∷ h) = session_named wanted h
session_named wanted (served turn session number k name args time reply ∷ h) = session_named wanted h
session_named wanted (done turn session number how ∷ h) = session_named wanted h
session_named wanted (closed turn session ∷ h) = session_named wanted h
session_named wanted (ended turn status ∷ h) = session_named wanted h

-- there is a session, and it lives
abbrev pub lives : Option Standing → Bool
lives None = false
lives (Some s) = is_live s

-- how many of the sessions up to this ordinal live
abbrev pub live_up_to : ℕ → List Recorded → ℕ
live_up_to zero h = 0
live_up_to (suc n) h = if lives (standing_of (suc n) h) then suc (live_up_to n h) else live_up_to n h

-- how many sessions live
abbrev pub live_count : List Recorded → ℕ
live_count h = live_up_to (length (identifiers_in h)) h

-- the calls that a session's batch of this number served, with their moments and replies
abbrev pub served_in : ℕ → ℕ → List Recorded → List Served
served_in n wanted [] = []
served_in n wanted (opened turn session id seed time ∷ h) = served_in n wanted h
served_in n wanted (admitted turn session b ∷ h) = served_in n wanted h
served_in n wanted (served turn session number k name args time reply ∷ h) =
    if session == n && number == wanted then record { number = k; time = time; reply = reply } ∷ served_in n wanted h
    else served_in n wanted h
served_in n wanted (done turn session number how ∷ h) = served_in n wanted h
served_in n wanted (closed turn session ∷ h) = served_in n wanted h
served_in n wanted (ended turn status ∷ h) = served_in n wanted h

-- ---- what is decided

-- want of memory at a request: none, or before words were drawn for an opening, or after
pub data Lack : Type 0 where
  no_lack : Lack
  early : Lack
  late : Lack

-- what the words drawn for an opening give: its identifier and its seed
pub record Drawn : Type 0 where
  pub id : ℕ
  pub seed : ℕ

-- RFC 9562 5.4: the identifier of version 4 whose 16 bytes are two words, big-endian, with version and variant set; the
-- seed is the third word modulo 2^32
abbrev pub drawn_of : ℕ → ℕ → ℕ → Drawn
drawn_of first second third = record {
  id = from_be_bytes w128 (with_version (with_variant (to_be_bytes w64 first ++ to_be_bytes w64 second) RFC4122) Random);
  seed = third % 2 ^ 32;
}

-- what is decided: an answer at once, by its code and its body; a session is opened, by its ordinal, identifier and seed;
-- a batch is admitted to a session; a session is closed, and that is answered with this body
pub data Decision : Type 0 where
  answers : ℕ → List ℕ → Decision
  opens : ℕ → ℕ → ℕ → Decision
  admits : ℕ → Contents → Decision
  closes : ℕ → List ℕ → Decision

-- `{"error":WORD}`
abbrev pub error_body : List ℕ → List ℕ
error_body word = compact_text (object (member (codes "error") (string word) no_members))

-- an answer of that body
abbrev pub fails : ℕ → List ℕ → Decision
fails code word = answers code (error_body word)

-- the page is asked for, where there was memory to draw words and these are drawn
abbrev pub on_drawn : List Recorded → Drawn → Lack → Decision
on_drawn h drawn early = fails 503 (codes "memory")
on_drawn h drawn late = fails 503 (codes "memory")
on_drawn h drawn no_lack =
    if was_opened drawn.id h then fails 503 (codes "clash")
    else opens (length (identifiers_in h) + 1) drawn.id drawn.seed

-- the page is asked for: as many sessions live as may; 1,000,000 were opened; the identifier was opened before; or there
-- is a session more
abbrev pub on_page : ℕ → List Recorded → Drawn → Lack → Decision
on_page limit h drawn early = fails 503 (codes "memory")
on_page limit h drawn lack =
    if nat_le limit (live_count h) then fails 503 (codes "full")
    else if nat_le 1000000 (length (identifiers_in h)) then fails 503 (codes "spent")
    else on_drawn h drawn lack

-- RFC 9110 15.5.11: the session has ended; the last number and the reason are told
abbrev pub gone : Standing → Decision
gone s = answers 410 (answer_text (record { number = s.last; ended = s.ended; served = [] }))

-- what comes of a batch by what is decided
abbrev pub on_batch_of : ℕ → List Recorded → Standing → Contents → BatchDecision → Decision
on_batch_of n h s b on_batch.Repeat = answers 200 (answer_text (record { number = b.number; ended = None; served = served_in n b.number h }))
on_batch_of n h s b on_batch.Gone = gone s
on_batch_of n h s b on_batch.Busy = fails 409 (codes "busy")
on_batch_of n h s b on_batch.Old = fails 409 (codes "old")
on_batch_of n h s b on_batch.Gap = fails 409 (codes "gap")
on_batch_of n h s b on_batch.Admit = admits n b

-- what comes of the end of a session by what is decided
abbrev pub on_close_of : ℕ → Standing → CloseDecision → Decision
on_close_of n s on_close.Gone = gone s
on_close_of n s on_close.Busy = fails 409 (codes "busy")
on_close_of n s on_close.Close = closes n (answer_text (record { number = s.last; ended = Some Closed; served = [] }))

-- no session of that identifier, then a body that is no batch, then by how the session stands
abbrev pub on_batch_to : ℕ → List Recorded → Option Standing → Option Contents → Decision
on_batch_to n h None b = fails 404 (codes "session")
on_batch_to n h (Some s) None = fails 400 (codes "body")
on_batch_to n h (Some s) (Some b) = on_batch_of n h s b (batch_decision s b.number)

abbrev pub on_close_to : ℕ → Option Standing → Decision
on_close_to n None = fails 404 (codes "session")
on_close_to n (Some s) = on_close_of n s (close_decision s)

-- for the session of this ordinal, if there is one
abbrev pub for_session : Option ℕ → (ℕ → Decision) → Decision
for_session None on = fails 404 (codes "session")
for_session (Some n) on = on n

-- the session that an identifier names, if there is an identifier and such a session
abbrev pub named_by : Option ℕ → List Recorded → Option ℕ
named_by None h = None
named_by (Some id) h = session_named id h

-- what is decided on what is asked, on the entries so far, where at most so many sessions may live, these words would be
-- drawn, and memory was wanting so
abbrev pub decide : ℕ → List Recorded → Asked → Drawn → Lack → Decision
decide limit h page drawn lack = on_page limit h drawn lack
decide limit h (batch id b) drawn no_lack = for_session (named_by id h) (λ n. on_batch_to n h (standing_of n h) b)
decide limit h (batch id b) drawn early = fails 503 (codes "memory")
decide limit h (batch id b) drawn late = fails 503 (codes "memory")
decide limit h (quit id) drawn no_lack = for_session (named_by id h) (λ n. on_close_to n (standing_of n h))
decide limit h (quit id) drawn early = fails 503 (codes "memory")
decide limit h (quit id) drawn late = fails 503 (codes "memory")

-- ---- laws

-- a message asks one thing
abbrev pub AskedIsOne : Type 0
AskedIsOne = (m : Message) (a b : Asked) → Asks m a → Asks m b → a ≡ b

-- what is admitted is the batch that was asked for, to the session of the identifier, which lives, whose last batch is
-- done and is the one before
pub record IsAdmission (h : List Recorded) (id : Option ℕ) (asked : Option Contents) (n : ℕ) (b : Contents) : Type 0 where
  pub standing : Standing
  pub session : named_by id h ≡ Some n
  pub stands : standing_of n h ≡ Some standing
  pub lives : standing.ended ≡ None
  pub idle : standing.done ≡ Some standing.last
  pub asked_for : asked ≡ Some b
  pub next : b.number ≡ standing.last + 1

abbrev pub AdmissionsAre : Type 0
AdmissionsAre =
    (limit : ℕ) (h : List Recorded) (id : Option ℕ) (asked : Option Contents) (drawn : Drawn) (lack : Lack) (n : ℕ) (b : Contents)
    → decide limit h (batch id asked) drawn lack ≡ admits n b → IsAdmission h id asked n b

-- a session is opened only where words were drawn: fewer live than may, and the next ordinal and the drawn identifier, new
-- to the history, are its own
pub record IsNewSession (limit : ℕ) (h : List Recorded) (drawn : Drawn) (n id seed : ℕ) : Type 0 where
  pub room : live_count h < limit
  pub unspent : length (identifiers_in h) < 1000000
  pub ordinal : n ≡ length (identifiers_in h) + 1
  pub drawn_id : id ≡ drawn.id
  pub drawn_seed : seed ≡ drawn.seed
  pub fresh : was_opened id h ≡ false

abbrev pub OpeningsAre : Type 0
OpeningsAre =
    (limit : ℕ) (h : List Recorded) (drawn : Drawn) (lack : Lack) (n id seed : ℕ)
    → decide limit h page drawn lack ≡ opens n id seed → IsNewSession limit h drawn n id seed
