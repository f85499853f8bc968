-- The journal of a door: what it did, and of which connections it may still tell.
use Rattle.std.specs.Prelude.{◌≡◌, ◌≢◌, ◌<◌, ◌≤◌, ℕ, Bool, List, [], ◌∷◌, ◌++◌, count_by, All, Contains}
use Rattle.rip_outer.specs.declared.connections.TraceKnock.TheVariants.{Opened, Gone}
use Rattle.rip_outer.specs.declared.connections.Knock.{Knock}
use Rattle.rip_outer.specs.declared.connections.Knock.TheVariants as knock
use Rattle.rip_outer.specs.declared.connections.Sent.{Sent}
use Rattle.rip_outer.specs.Connections.{Told, knocked, lost, is_opening, IsShut, IsLive, IsAllowedAfter, FitsRoom, telling, CountsKnock, CountsSent}
use Rattle.rip_real.specs.History.{Deed, next, send, shut, told_in, shuts_in}

-- what was done, how many connections were opened, those that are neither gone nor shut, and how often the outside failed
pub record JournalState : Type 0 where
  pub deeds : List Deed
  pub opened : ℕ
  pub live : List ℕ
  pub faults : ℕ

-- a journal as it is made
abbrev pub new_journal : JournalState
new_journal = record { deeds = []; opened = 0; live = []; faults = 0 }

-- a knock was told
pub record Tells (old new : JournalState) (k : Knock) (room : List ℕ) (busy : Bool) : Type 0 where
  pub deeds : new.deeds ≡ old.deeds ++ next k room busy ∷ []
  pub fits : FitsRoom k
  pub allowed : All (IsAllowedAfter (told_in old.deeds) (shuts_in old.deeds)) (telling k room)
  pub opens : (c : ℕ) → k ≡ knock.Opened c → c < new.opened
  pub stays : old.opened ≤ new.opened
  pub counted : CountsKnock k old.faults new.faults
  pub later : old.faults ≤ new.faults

-- bytes were to be sent
pub record Answers (old new : JournalState) (s : Sent) (c : ℕ) (bytes : List ℕ) : Type 0 where
  pub deeds : new.deeds ≡ old.deeds ++ send s c bytes ∷ []
  pub opened : new.opened ≡ old.opened
  pub counted : CountsSent s old.faults new.faults
  pub later : old.faults ≤ new.faults

-- a connection was shut
pub record Shuts (old new : JournalState) (c : ℕ) : Type 0 where
  pub deeds : new.deeds ≡ old.deeds ++ shut c ∷ []
  pub opened : new.opened ≡ old.opened
  pub counted : new.faults ≡ old.faults

-- HOW IT IS KEPT

-- what a journal keeps, where these things were told and these connections shut: connections are numbered in the order
-- of their opening, what was told or shut names such a number, and the live ones are live
pub record IsJournal (told : List Told) (shuts : List (ℕ × ℕ)) (opened : ℕ) (live : List ℕ) : Type 0 where
  pub numbered : opened ≡ count_by is_opening told
  pub opened_below : (c : ℕ) → Contains told (knocked (Opened c)) → c < opened
  pub gone_below : (c : ℕ) → Contains told (knocked (Gone c)) → c < opened
  pub lost_below : (c : ℕ) → Contains told (lost c) → c < opened
  pub shut_below : (c : ℕ) → IsShut shuts c → c < opened
  pub each : (c : ℕ) → Contains live c → IsLive told shuts c

-- these are others of the connections than c
abbrev pub AreOthers : List ℕ → ℕ → List ℕ → Type 0
AreOthers all c rest = (d : ℕ) → Contains rest d → Contains all d × (d ≢ c)
