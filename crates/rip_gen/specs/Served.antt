-- A trace that is served from its start, over memory.
use Rattle.std.specs.Prelude.{◌≡◌, ℕ, List, [], map, Some, None}
use Rattle.rip_outer.specs.Connections.{knocked}
use Rattle.rip_outer.specs.Memory.{SinkState}
use Rattle.rip_outer.specs.MemoryDoor.{DoorState, new_door, sent_to, telling_of}
use Rattle.rip_outer.specs.declared.connections.TraceKnock.{TraceKnock}
use Rattle.rip_outer.specs.Moments.{ClockState, WordsState, moment_at, new_clock, new_words, word_at}
use Rattle.rip_app.specs.App.{Loaded}
use Rattle.rip_trace.specs.Traces.{Given, IsTrace}
use Rattle.rip_log.specs.Entries.{Recorded}
use Rattle.rip_log.specs.Histories.{IsHistory, history_text}
use Rattle.rip_server.specs.Acts.{seen}
use Rattle.rip_server.specs.Turning.{Outer, outer, source}
use Rattle.rip_serve.specs.declared.serving.Stop.TheVariants.{Idle}
use Rattle.rip_serve.specs.Sites.{ServesApp}
use Rattle.rip_gen.specs.Form.{IsForm}

-- what a door, a clock, words and a sink in memory tell
abbrev pub told_by : DoorState → ClockState → WordsState → SinkState → Outer
told_by door clock words sink =
    outer (seen (sent_to door) (telling_of door) (Some door.shuts) (Some door.busy) (Some sink.bytes)) (source None (λ j. Some (moment_at clock j)))
    (source None (λ j. Some (word_at words j))) door.faults sink.faults

-- what a trace brings: its knocks come at a door that never fails, to which nothing was told or sent yet; its moments and
-- words come in turn, where the last moment stands, and behind the last word j comes j; and nothing was put
abbrev pub brought : Given → Outer
brought given =
    let door = new_door given.knocks [] [] in
    outer (seen (sent_to door) (telling_of door) (Some []) (Some []) (Some []))
    (source None (λ j. Some (moment_at (new_clock given.moments) j)))
    (source None (λ j. Some (word_at (new_words given.words) j)))
    0 0

-- generated work is served for so many turns
abbrev pub most_turns : ℕ
most_turns = 1000000000

-- the application was served to what the trace brings until nothing was to be done any more, and this was put; all that the
-- door told are knocks: no send found its connection gone
pub record IsLogOf (app : Loaded) (given : Given) (log : List ℕ) : Type 0 where
  pub end : Outer
  pub serves : ServesApp app most_turns Idle (brought given) end
  pub put : end.seen.held ≡ Some log
  pub came : List TraceKnock
  pub never_gone : end.seen.telling.told ≡ Some (map knocked came)

-- this is the history of the application, served to a trace
pub record IsServed (app : Loaded) (text : List ℕ) (history : List Recorded) : Type 0 where
  pub given : Given
  pub gives : IsTrace text given
  pub is_log : IsLogOf app given (history_text history)
  pub in_range : IsHistory history

-- this is the history of the application of generated work, served to a trace
pub record IsServedForm (text : List ℕ) (history : List Recorded) : Type 0 where
  pub app : Loaded
  pub is_form : IsForm app
  pub served : IsServed app text history
