-- What serving does: a run of the machine, and what is told of it outside.
use Rattle.std.specs.Prelude.{◌≡◌, ◌⊎◌, ℕ, ◌+◌, ◌<◌, ◌^◌, Bool, List, [], ◌∷◌, ◌++◌, length, map, count_by, Option, Some}
use Rattle.std.specs.List.{AllByRecursion, flat_map}
use Rattle.rip_outer.specs.Connections.{Told, is_knock}
use Rattle.rip_outer.specs.Outside.{Rose, Front, also, before}
use Rattle.rip_outer.specs.declared.connections.TraceKnock.{TraceKnock}
use Rattle.rip_log.specs.Entries.{Recorded, ended, entry_text}
use Rattle.rip_log.specs.Histories.{history_text}
use Rattle.rip_history.specs.Connections.{Act, put_in, sent_in}
use Rattle.rip_history.specs.Run.{Site, State, first_state, Coming, after_turn, turn_acts}
use Rattle.rip_history.specs.Runs.{after_turns, turns_acts, AreTurns, GoOn, IsRun, turns_told, turns_shut, AreAsked}
use Rattle.rip_server.specs.Acts.{left_by}
use Rattle.rip_server.specs.Turning.{Outer, Gives, ClosedSo, knocks_of, Halted}
use Rattle.rip_serve.specs.declared.serving.Stop.{Stop}
use Rattle.rip_serve.specs.declared.serving.Stop.TheVariants.{Idle, TurnsSpent, Outside, Memory}

-- the moments of turns, and the words that are drawn in them
abbrev pub moments_of : List Coming → List ℕ
moments_of ts = map (λ (t : Coming). t.moment) ts

abbrev pub words_of : List Coming → List ℕ
words_of ts = flat_map (λ (t : Coming). t.words) ts

-- the moments of turns have at most 53 bits
abbrev pub AreTimely : List Coming → Type 0
AreTimely ts = AllByRecursion (λ (t : Coming). t.moment < 2 ^ 53) ts

-- the knock of each turn is the first that is left, or none is; and then nothing is told any more of a connection that was
-- found gone or is shut
abbrev pub AreKnocks : Site → ℕ → State → List Coming → Option (List TraceKnock) → Option (List TraceKnock) → Type 0
AreKnocks site turn s [] old new = new ≡ old
AreKnocks site turn s (t ∷ ts) old new =
    (left : Option (List TraceKnock)) × (old ≡ before (knocks_of t.knock) left) × ClosedSo t.knock left
    × AreKnocks site (turn + 1) (after_turn site turn t s) ts (left_by (turn_acts site turn t s) left) new

-- what is told of turns that a server makes from its beginning, in which these acts are done
pub record Tells (site : Site) (ts : List Coming) (acts : List Act) (old new : Outer) : Type 0 where
  pub held : new.seen.held ≡ also (history_text (put_in acts)) old.seen.held
  pub sent : (c : ℕ) → new.seen.sent c ≡ also (sent_in c acts) (old.seen.sent c)
  pub told : new.seen.telling.told ≡ also (turns_told site 1 first_state ts) old.seen.telling.told
  pub knocks : AreKnocks site 1 first_state ts old.seen.telling.left new.seen.telling.left
  pub shut : (told : List Told) → old.seen.telling.told ≡ Some told
      → new.seen.shut ≡ also (turns_shut site 1 (count_by is_knock told) first_state ts) old.seen.shut
  pub busy : List Bool
  pub asks : AreAsked site 1 first_state ts busy
  pub asked : new.seen.asked ≡ also busy old.seen.asked
  pub moments : Gives (moments_of ts) old.clock new.clock
  pub timely : AreTimely ts
  pub words : Gives (words_of ts) old.words new.words

-- a whole run of at most so many turns, with its last line
pub record Ran (site : Site) (most status : ℕ) (old new : Outer) : Type 0 where
  pub turns : List Coming
  pub acts : List Act
  pub run : IsRun site (Some most) turns status acts
  pub tells : Tells site turns acts old new

-- a run breaks off in a turn
pub record BreaksInTurn (site : Site) (most : ℕ) (old new : Outer) : Type 0 where
  pub turns : List Coming
  pub made : AreTurns site 1 first_state turns
  pub go_on : GoOn site 1 first_state turns
  pub few : length turns < most
  pub between : Outer
  pub tells : Tells site turns (turns_acts site 1 first_state turns) old between
  pub last : Halted site (length turns + 1) (after_turns site 1 first_state turns) between new

-- nothing but the sink is other than before
pub record OnlyPuts (old new : Outer) : Type 0 where
  pub seen : new.seen ≡ record old.seen { held = new.seen.held }
  pub clock : new.clock ≡ old.clock
  pub words : new.words ≡ old.words

-- a run breaks off at its last line, of which a front was put
pub record BreaksAtEnd (site : Site) (most : ℕ) (old new : Outer) : Type 0 where
  pub turns : List Coming
  pub status : ℕ
  pub acts : List Act
  pub run : IsRun site (Some most) turns status acts
  pub between : Outer
  pub tells : Tells site turns (turns_acts site 1 first_state turns) old between
  pub line : Front (entry_text (ended (length turns) status)) between.seen.held new.seen.held
  pub others : OnlyPuts between new

-- a run breaks off before its first turn, in a turn, or at its last line
pub data Breaks (site : Site) (most : ℕ) (old new : Outer) : Type 0 where
  unmade : new ≡ old → Breaks site most old new
  in_turn : BreaksInTurn site most old new → Breaks site most old new
  at_end : BreaksAtEnd site most old new → Breaks site most old new

-- door and sink failed no more often than before
pub record NoFaults (old new : Outer) : Type 0 where
  pub door : new.door_faults ≡ old.door_faults
  pub sink : new.sink_faults ≡ old.sink_faults

-- one of them failed once
abbrev pub OneFault : Outer → Outer → Type 0
OneFault old new =
    (Rose old.door_faults new.door_faults × (new.sink_faults ≡ old.sink_faults))
    ⊎ ((new.door_faults ≡ old.door_faults) × Rose old.sink_faults new.sink_faults)

-- what serving comes to: with status 0 or 3 a whole run; or one that breaks off, where the outside fails or memory is wanting
abbrev pub Serves : Site → ℕ → Stop → Outer → Outer → Type 0
Serves site most Idle old new = Ran site most 0 old new × NoFaults old new
Serves site most TurnsSpent old new = Ran site most 3 old new × NoFaults old new
Serves site most Outside old new = Breaks site most old new × OneFault old new
Serves site most Memory old new = Breaks site most old new × NoFaults old new

-- the entries that a run was to put that broke off: those of what was done before, of its last turn, and its last line
abbrev pub entries_begun : (site : Site) (most : ℕ) (old new : Outer) → Breaks site most old new → List Recorded
entries_begun site most old new (unmade same) = []
entries_begun site most old new (in_turn b) =
    let before = turns_acts site 1 first_state b.turns in
    let halted = b.last in
    put_in (before ++ turn_acts site (length b.turns + 1) halted.coming (after_turns site 1 first_state b.turns))
entries_begun site most old new (at_end b) = put_in b.acts

-- the entries of which serving put the text, or a prefix of it where it broke off
abbrev pub entries_put : (site : Site) (most : ℕ) (stop : Stop) (old new : Outer) → Serves site most stop old new → List Recorded
entries_put site most Idle old new (run, calm) = put_in run.acts
entries_put site most TurnsSpent old new (run, calm) = put_in run.acts
entries_put site most Outside old new (breaks, fault) = entries_begun site most old new breaks
entries_put site most Memory old new (breaks, calm) = entries_begun site most old new breaks
