-- The busy sessions go on: private to this crate.
use Rattle.std.specs.Prelude.{◌≡◌, ℕ, Bool, List, [], ◌∷◌, ◌++◌, Option, Some, Result, OnOk, option_map}
use Rattle.rip_log.specs.Entries.{Recorded, done}
use Rattle.rip_wire.specs.Reasons.{reason_of}
use Rattle.rip_wire.specs.declared.ending.Ending.{Ending}
use Rattle.rip_history.specs.Connections.{all_put, Connection as Link, owing}
use Rattle.rip_history.specs.Run.{Site, State, Advance, IsAdvance, AreAdvancedSo, after_advance, advance_acts, after_advances, advances_acts, answered_there, answered_acts, done_entries, progress_there, progress_acts}
use Rattle.rip_history.specs.Standings.{standing_of}
use Rattle.rip_history.specs.declared.sessions.Progress.{Progress}
use Rattle.rip_history.specs.declared.sessions.Progress.TheVariants.{Busy, Finished}
use Rattle.rip_history.specs.declared.standing.Standing.{Standing}
use Rattle.rip_table.specs.Seats.{Leaves}
use Rattle.rip_table.specs.declared.roll.seat.Legacy.{Legacy}
use Rattle.rip_server.specs.Acts.{Seen, Acted}
use Rattle.rip_server.specs.declared.halt.Halt.{Halt}

-- the entry of a batch that is done is put, and the batch answered on the connection that waits for it
pub record Answered (site : Site) (turn n number : ℕ) (how : Option Ending) (h : List Recorded) (r : Result (Unit {0}) Halt) (there now : List Link)
    (old new : Seen) : Type 0 where
  pub gone : Bool
  pub after : OnOk r (now ≡ answered_there gone (owing n there) there)
  pub acts : Acted r (all_put (done turn n number how ∷ []) ++ answered_acts site gone (owing n there) n number how h) old new

-- the history tells that a batch of this number is done, and ended the session so, if it did; and what that leaves
pub record IsDoneSo (how : Option Ending) (legacy : Option Legacy) (n number : ℕ) (h : List Recorded) : Type 0 where
  pub standing : Standing
  pub stands : standing_of n h ≡ Some standing
  pub done : standing.done ≡ Some number
  pub ended : standing.ended ≡ option_map reason_of how
  pub leaves : Leaves (Finished how) legacy n number h

-- a batch that is done, so that the history tells it
abbrev pub IsDoneIn : Progress → Option Legacy → ℕ → ℕ → List Recorded → Type 0
IsDoneIn Busy legacy n number h = Unit {0}
IsDoneIn (Finished how) legacy n number h = IsDoneSo how legacy n number h

-- the entries of what a session did are put, and its batch answered, where that is done
pub record Told (site : Site) (turn n number : ℕ) (es : List Recorded) (progress : Progress) (h : List Recorded) (r : Result (Unit {0}) Halt)
    (there now : List Link) (old new : Seen) : Type 0 where
  pub gone : Bool
  pub after : OnOk r (now ≡ progress_there gone n progress there)
  pub acts : Acted r (all_put (es ++ done_entries turn n number progress) ++ progress_acts site gone n number progress there h) old new

-- a busy session went on, or the turn stops in what is done at it
pub record AdvancedOne (site : Site) (turn time n : ℕ) (s : State) (r : Result (Unit {0}) Halt) (After : State → Type 0) (old new : Seen) : Type 0 where
  pub advance : Advance
  pub session : advance.session ≡ n
  pub is : IsAdvance site time s advance
  pub acts : Acted r (advance_acts site turn s advance) old new
  pub after : OnOk r (After (after_advance turn s advance))

-- of the busy sessions these went on: all of them, or the turn stops in what is done at one
pub record AdvancedSo (site : Site) (turn time : ℕ) (busy : List ℕ) (s : State) (r : Result (Unit {0}) Halt) (After : State → Type 0) (old new : Seen) : Type 0 where
  pub advances : List Advance
  pub first : List ℕ
  pub others : List ℕ
  pub busy_are : busy ≡ first ++ others
  pub advanced : AreAdvancedSo site turn time s first advances
  pub acts : Acted r (advances_acts site turn s advances) old new
  pub after : OnOk r ((others ≡ []) × After (after_advances turn s advances))
