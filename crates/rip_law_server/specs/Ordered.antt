-- In which order the requests of a turn are handled: by connection, and on each by their place in its bytes.
use Rattle.std.specs.Prelude.{ℕ, ◌+◌, ◌≤◌, List, [], ◌∷◌, length}
use Rattle.rip_history.specs.Run.{Coming, Handling, IsTurn, Site, first_state}
use Rattle.rip_history.specs.Runs.{AreTurns, after_turns}

-- the numbers of their connections, of which none is below this one, never fall
abbrev pub AreByConnection : ℕ → List Handling → Type 0
AreByConnection low [] = Unit {0}
AreByConnection low (h ∷ hs) = (low ≤ h.connection) × AreByConnection h.connection hs

-- so it is in each turn of a run
abbrev pub TurnsAreByConnection : Type 0
TurnsAreByConnection =
    (site : Site) (ts : List Coming) (t : Coming) → AreTurns site 1 first_state ts
    → IsTurn site (length ts + 1) (after_turns site 1 first_state ts) t → AreByConnection 0 t.handlings
