-- Which calls the sessions of a run that broke off serve.
use Rattle.std.specs.Prelude.{◌≡◌, ◌⊎◌, ℕ, ◌+◌, List, length}
use Rattle.rip_app.specs.App.{Loaded}
use Rattle.rip_log.specs.Entries.{Recorded}
use Rattle.rip_history.specs.Run.{Coming, Site}
use Rattle.rip_history.specs.Sessions.{IsFrontOf, opening_in}
use Rattle.rip_law_history.specs.Broken.{IsFrontOfRun}
use Rattle.rip_session.specs.Application.{meaning_of_app}
use Rattle.rip_headline.specs.PrefixHistories.{ServesIn, calls_in}

-- of a session of a history that goes on by what a turn did before it broke off: the calls of its entries are served as in a
-- whole history, up to this turn, or to the one before, where it had not gone on; and those of the entries that were put are
-- the first of these calls
pub record ServesFirst (app : Loaded) (last : ℕ) (next put : List Recorded) (n : ℕ) : Type 0 where
  pub served : ServesIn app last next n (opening_in n next) ⊎ ServesIn app (last + 1) next n (opening_in n next)
  pub front : IsFrontOf (calls_in n put) (calls_in n next)

-- so it is of each session, whatever front of such a history a run of the application put that broke off
abbrev pub BrokenRunsServePrefixes : Type 0
BrokenRunsServePrefixes =
    (app : Loaded) (site : Site) (ts : List Coming) (t : Coming) (put : List Recorded) → site.meaning ≡ meaning_of_app app
    → (run : IsFrontOfRun site ts t put) → (n : ℕ) → ServesFirst app (length ts) run.next put n
