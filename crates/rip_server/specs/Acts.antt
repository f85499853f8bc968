-- What is done at a door and a sink: all of some acts; or a front of them, where a turn stops.
use Rattle.std.specs.Prelude.{◌≡◌, ℕ, Bool, List, [], ◌∷◌, ◌++◌, Option, option_map, Result, Ok, Err}
use Rattle.rip_outer.specs.Connections.{Told, Telling, hushed, also_shut}
use Rattle.rip_outer.specs.Outside.{also, Front}
use Rattle.rip_outer.specs.declared.connections.TraceKnock.{TraceKnock}
use Rattle.rip_log.specs.Entries.{entry_text}
use Rattle.rip_log.specs.Histories.{history_text}
use Rattle.rip_history.specs.Connections.{Act, puts, sends, loses, shuts, put_in, sent_in, lost_in}
use Rattle.rip_server.specs.declared.halt.Halt.{Halt}

-- what a door tells, and what a sink holds, where they do: the bytes sent on each connection; what was told and is left; the
-- connections that were shut; what was asked; the bytes put
pub record Seen : Type 0 where
  pub sent : ℕ → Option (List ℕ)
  pub telling : Telling
  pub shut : Option (List (ℕ × ℕ))
  pub asked : Option (List Bool)
  pub held : Option (List ℕ)

abbrev pub seen : (ℕ → Option (List ℕ)) → Telling → Option (List (ℕ × ℕ)) → Option (List Bool) → Option (List ℕ) → Seen
seen sent telling shut asked held = record { sent = sent; telling = telling; shut = shut; asked = asked; held = held }

-- what is left after acts: nothing is told any more of a connection that was found gone or is shut
abbrev pub left_by : List Act → Option (List TraceKnock) → Option (List TraceKnock)
left_by [] left = left
left_by (puts e ∷ acts) left = left_by acts left
left_by (sends c bytes ∷ acts) left = left_by acts left
left_by (loses c ∷ acts) left = left_by acts (option_map (hushed c) left)
left_by (shuts c ∷ acts) left = left_by acts (option_map (hushed c) left)

-- the connections that were shut after acts, each with the number of knocks told before
abbrev pub shut_by : List Act → Option (List Told) → Option (List (ℕ × ℕ)) → Option (List (ℕ × ℕ))
shut_by [] told shut = shut
shut_by (puts e ∷ acts) told shut = shut_by acts told shut
shut_by (sends c bytes ∷ acts) told shut = shut_by acts told shut
shut_by (loses c ∷ acts) told shut = shut_by acts told shut
shut_by (shuts c ∷ acts) told shut = shut_by acts told (also_shut c told shut)

-- these acts were done, and nothing else
pub record Did (acts : List Act) (old new : Seen) : Type 0 where
  pub sent : (c : ℕ) → new.sent c ≡ also (sent_in c acts) (old.sent c)
  pub told : new.telling.told ≡ also (lost_in acts) old.telling.told
  pub left : new.telling.left ≡ left_by acts old.telling.left
  pub shut : new.shut ≡ shut_by acts old.telling.told old.shut
  pub asked : new.asked ≡ old.asked
  pub held : new.held ≡ also (history_text (put_in acts)) old.held

-- a front of what an act does was done: of the line of an entry, or of bytes that are sent
abbrev pub InPart : List Act → Seen → Seen → Type 0
InPart [] old new = Did [] old new
InPart (puts e ∷ acts) old new =
    (held : Option (List ℕ)) × Front (entry_text e) old.held held × Did [] (record old { held = held }) new
InPart (sends c bytes ∷ acts) old new =
    (more : List ℕ) × (rest : List ℕ) × (bytes ≡ more ++ rest) × Did (sends c more ∷ []) old new
InPart (loses c ∷ acts) old new = Did [] old new
InPart (shuts c ∷ acts) old new = Did [] old new

-- a front of these acts was done, and of the next one perhaps a front
pub record Stopped (acts : List Act) (old new : Seen) : Type 0 where
  pub done : List Act
  pub others : List Act
  pub parts : acts ≡ done ++ others
  pub mid : Seen
  pub did : Did done old mid
  pub in_part : InPart others mid new

-- they were done, or the turn stops in them
abbrev pub Acted : {A : Type 0} → Result A Halt → List Act → Seen → Seen → Type 0
Acted (Ok done) acts old new = Did acts old new
Acted (Err halt) acts old new = Stopped acts old new
