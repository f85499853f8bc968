-- What the batches of a session are answered depends on what it is given alone.
use Rattle.std.specs.Prelude.{◌≡◌, ℕ, ◌==◌, false, List, [], ◌∷◌, ◌++◌, Some, option_map, if◌then◌else◌}
use Rattle.rip_wire.specs.Answers.{Said}
use Rattle.rip_wire.specs.Reasons.{reason_of}
use Rattle.rip_log.specs.Entries.{Recorded, opened, admitted, served, done, closed, ended}
use Rattle.rip_history.specs.Parts.{IsLawful}
use Rattle.rip_history.specs.Requests.{served_in}
use Rattle.rip_history.specs.Run.{Site, first_state, Coming}
use Rattle.rip_history.specs.Runs.{AreTurns}
use Rattle.rip_history.specs.Sessions.{opening_in, batches_in, given_in, wants_memory, story_in, Agree}
use Rattle.rip_law_history.specs.Legal.{history_of}

-- what the answers to the batches of a session say, after these entries: of each batch that is done its number, why it
-- ended the session, if it did, and its served calls so far
abbrev pub said_after : ℕ → List Recorded → List Recorded → List Said
said_after n before [] = []
said_after n before (opened turn session id seed time ∷ h) = said_after n (before ++ opened turn session id seed time ∷ []) h
said_after n before (admitted turn session b ∷ h) = said_after n (before ++ admitted turn session b ∷ []) h
said_after n before (served turn session number k name args time reply ∷ h) =
    said_after n (before ++ served turn session number k name args time reply ∷ []) h
said_after n before (done turn session number how ∷ h) =
    let now = before ++ done turn session number how ∷ [] in
    if session == n
    then record { number = number; ended = option_map reason_of how; served = served_in n number now } ∷ said_after n now h
    else said_after n now h
said_after n before (closed turn session ∷ h) = said_after n (before ++ closed turn session ∷ []) h
said_after n before (ended turn status ∷ h) = said_after n (before ++ ended turn status ∷ []) h

abbrev pub said_in : ℕ → List Recorded → List Said
said_in n h = said_after n [] h

-- a session is given the same in two histories: the same opening, the same batches and, as far as both go, the same moments
-- and replies; and in neither it ends for want of memory
pub record IsGivenAlike (history other : List Recorded) (n k : ℕ) : Type 0 where
  pub start : ℕ × ℕ
  pub opening : opening_in n history ≡ Some start
  pub other_opening : opening_in k other ≡ Some start
  pub batches : batches_in n history ≡ batches_in k other
  pub given : Agree (given_in n history) (given_in k other)
  pub calm : wants_memory n history ≡ false
  pub other_calm : wants_memory k other ≡ false

-- it does the same, each so many turns after the admission of its batch, and is answered the same, as far as both go
pub record DoesAlike (history other : List Recorded) (n k : ℕ) : Type 0 where
  pub story : Agree (story_in n history) (story_in k other)
  pub said : Agree (said_in n history) (said_in k other)

-- isolation: so it is of a session in two runs of servers that serve one application, whatever else they do
abbrev pub RunsIsolate : Type 0
RunsIsolate =
    (site other_site : Site) (ts other_ts : List Coming) (n k : ℕ)
    → IsLawful site.meaning → other_site.meaning ≡ site.meaning
    → AreTurns site 1 first_state ts → AreTurns other_site 1 first_state other_ts
    → IsGivenAlike (history_of site ts) (history_of other_site other_ts) n k
    → DoesAlike (history_of site ts) (history_of other_site other_ts) n k
