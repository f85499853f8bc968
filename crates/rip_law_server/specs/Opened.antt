-- How the opening of a session is answered.
use Rattle.std.specs.Prelude.{◌≡◌, ℕ, ◌+◌, Bool, true, false, List, [], ◌∷◌, ◌++◌, length, Option, Some, None, if◌then◌else◌}
use Rattle.rip_http.specs.Answers as http
use Rattle.rip_http.specs.declared.answer.HttpAnswer.{HttpAnswer}
use Rattle.rip_http.specs.declared.answer.Opening.{Opening}
use Rattle.rip_wire.specs.Answers.{answer_text}
use Rattle.rip_wire.specs.Reasons.{reason_of}
use Rattle.rip_wire.specs.declared.ending.Ending.{Ending}
use Rattle.rip_log.specs.Entries.{Recorded}
use Rattle.rip_history.specs.Answering.{batch_answer, opening_told}
use Rattle.rip_history.specs.Connections.{Act, Connection, all_put, answer_acts, is_there}
use Rattle.rip_history.specs.Parts.{IsLawful}
use Rattle.rip_history.specs.Run.{Advance, Coming, IsTurn, Site, State, advance_acts, advance_entries, after_advance, first_state, handled_at}
use Rattle.rip_history.specs.Runs.{AreTurns, after_turns}
use Rattle.rip_history.specs.declared.sessions.Progress.TheVariants.{Finished}
use Rattle.rip_law_server.specs.Answered.{Asker, asker_of}

-- the answer to the opening of a session with this identifier, seed and time: the page with code 200 where the session lives;
-- and code 500 where its opening ended it, which is told
abbrev pub welcome : List ℕ → Opening → Option Ending → Bool → HttpAnswer
welcome page o None close = record {
  code = 200;
  html = true;
  allow = None;
  opening = Some o;
  body = page;
  close = close;
  bare = false;
}
welcome page o (Some e) close = record {
  code = 500;
  html = false;
  allow = None;
  opening = Some o;
  body = answer_text (record { number = 0; ended = Some (reason_of e); served = [] });
  close = close;
  bare = false;
}

-- the answer that is due when a session's batch 0, which is its opening, is done is that one, by what the session was opened
-- with: nothing else of the history is told
abbrev pub OpeningsAreAnswered : Type 0
OpeningsAreAnswered =
    (page : List ℕ) (n number : ℕ) (how : Option Ending) (h : List Recorded) (close : Bool) (o : Opening) → number ≡ 0
    → opening_told n h ≡ Some o → batch_answer page n number how h close ≡ welcome page o how close

-- what is sent for an opening that is done so: its answer on the connection on which it was asked for, where that is still
-- there
abbrev pub welcome_to : Site → Bool → Opening → Option Ending → Option Asker → List Connection → List Act
welcome_to site gone o how None cs = []
welcome_to site gone o how (Some k) cs =
    if is_there k.connection cs then answer_acts gone k.close k.connection (http.answer_text (welcome site.page o how k.close)) else []

-- a session that goes on, and whose opening is done, was opened before, and is answered so behind its entries; nothing else is
-- sent
abbrev pub IsWelcomed : Site → ℕ → Option Asker → State → Advance → Type 0
IsWelcomed site turn asker s a =
    (how : Option Ending) → a.progress ≡ Finished how → length a.next.batches ≡ 0
    → (o : Opening) × (opening_told a.session s.history ≡ Some o)
    × (advance_acts site turn s a ≡ all_put (advance_entries turn a) ++ welcome_to site a.gone o how asker s.connections.there)

abbrev pub AreWelcomed : Site → ℕ → (ℕ → Option Asker) → State → List Advance → Type 0
AreWelcomed site turn askers s [] = Unit {0}
AreWelcomed site turn askers s (a ∷ rest) =
    IsWelcomed site turn (askers a.session) s a × AreWelcomed site turn askers (after_advance turn s a) rest

-- so it is in each turn of a run: an opening that is done is answered on the connection on which it was asked for, if that is
-- still there, and on no other
abbrev pub OpenersAreAnswered : Type 0
OpenersAreAnswered =
    (site : Site) (ts : List Coming) (t : Coming) → IsLawful site.meaning → AreTurns site 1 first_state ts
    → IsTurn site (length ts + 1) (after_turns site 1 first_state ts) t
    → AreWelcomed site (length ts + 1) (asker_of site ts t)
    (handled_at site (length ts + 1) t (after_turns site 1 first_state ts)) t.advances
