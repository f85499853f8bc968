-- On which connection a session's batch is answered.
use Rattle.std.specs.Prelude.{◌≡◌, ℕ, ◌+◌, ◌==◌, Bool, List, [], ◌∷◌, ◌++◌, length, Option, Some, None, if◌then◌else◌}
use Rattle.rip_http.specs.Answers.{answer_text}
use Rattle.rip_wire.specs.declared.ending.Ending.{Ending}
use Rattle.rip_log.specs.Entries.{Recorded}
use Rattle.rip_history.specs.Answering.{batch_answer, decided_owed}
use Rattle.rip_history.specs.Connections.{Act, Connection, all_put, answer_acts, is_there}
use Rattle.rip_history.specs.Parts.{IsLawful}
use Rattle.rip_history.specs.Run.{Advance, Arrived, Coming, Handling, IsTurn, Site, State, advance_acts, advance_entries, after_advance, after_handling, after_turn, decided, first_state, handled_at, knocked_at, message, refused}
use Rattle.rip_history.specs.Runs.{AreTurns, after_turns}
use Rattle.rip_history.specs.declared.sessions.Progress.{Progress}
use Rattle.rip_history.specs.declared.sessions.Progress.TheVariants.{Busy, Finished}

-- the connection on which the last batch of a session was asked for, and whether that is shut behind the answer
pub record Asker : Type 0 where
  pub connection : ℕ
  pub close : Bool

-- behind a request on a connection: that one, where the answer waits for the batch of the session
abbrev pub asker_by : ℕ → ℕ → Bool → Option ℕ → Option Asker → Option Asker
asker_by n c close None old = old
asker_by n c close (Some k) old = if k == n then Some (record { connection = c; close = close }) else old

abbrev pub asker_behind : Site → State → ℕ → ℕ → Arrived → Option Asker → Option Asker
asker_behind site s n c (refused r) old = old
asker_behind site s n c (message m x) old = asker_by n c m.close (decided_owed (decided site.limit s.history x)) old

-- behind the requests of a turn
abbrev pub asker_in : Site → ℕ → ℕ → State → List Handling → ℕ → Option Asker → Option Asker
asker_in site turn moment s [] n old = old
asker_in site turn moment s (h ∷ hs) n old =
    asker_in site turn moment (after_handling site turn moment s h) hs n (asker_behind site s n h.connection h.arrived old)

-- behind those of turns, the first of which has this number
abbrev pub asker_from : Site → ℕ → State → List Coming → ℕ → Option Asker → Option Asker
asker_from site turn s [] n old = old
asker_from site turn s (t ∷ ts) n old =
    asker_from site (turn + 1) (after_turn site turn t s) ts n (asker_in site turn t.moment (knocked_at t s) t.handlings n old)

-- behind those of the turns of a run and of the next
abbrev pub asker_of : Site → List Coming → Coming → ℕ → Option Asker
asker_of site ts t n =
    asker_in site (length ts + 1) t.moment (knocked_at t (after_turns site 1 first_state ts)) t.handlings n (asker_from site 1 first_state ts n None)

-- what is sent for a batch that is done so: its answer on that connection, where it is still there
abbrev pub answer_to : Site → Bool → ℕ → ℕ → Option Ending → Option Asker → List Connection → List Recorded → List Act
answer_to site gone n number how None cs h = []
answer_to site gone n number how (Some k) cs h =
    if is_there k.connection cs
    then answer_acts gone k.close k.connection (answer_text (batch_answer site.page n number how h k.close))
    else []

abbrev pub progress_to : Site → Bool → ℕ → ℕ → Progress → Option Asker → List Connection → List Recorded → List Act
progress_to site gone n number Busy asker cs h = []
progress_to site gone n number (Finished how) asker cs h = answer_to site gone n number how asker cs h

-- each session that goes on is answered so where its batch is done, and nothing else is sent
abbrev pub AreAnswered : Site → ℕ → (ℕ → Option Asker) → State → List Advance → Type 0
AreAnswered site turn askers s [] = Unit {0}
AreAnswered site turn askers s (a ∷ rest) =
    (advance_acts site turn s a
    ≡ all_put (advance_entries turn a)
    ++ progress_to site a.gone a.session (length a.next.batches) a.progress (askers a.session) s.connections.there (s.history ++ advance_entries turn a))
    × AreAnswered site turn askers (after_advance turn s a) rest

-- so it is in each turn of a run: a batch that is done is answered on the connection on which it was asked for, if that is
-- still there, and on no other
abbrev pub AskersAreAnswered : Type 0
AskersAreAnswered =
    (site : Site) (ts : List Coming) (t : Coming) → IsLawful site.meaning → AreTurns site 1 first_state ts
    → IsTurn site (length ts + 1) (after_turns site 1 first_state ts) t
    → AreAnswered site (length ts + 1) (asker_of site ts t)
    (handled_at site (length ts + 1) t (after_turns site 1 first_state ts)) t.advances
