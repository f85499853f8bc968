-- A trace that is served over memory.
use Rattle.std.proofs.Common.{◌≡◌, ◌∙◌, ℕ, List, [], map, Some, ap, subst}
use Rattle.rip_outer.specs.Connections.{knocked}
use Rattle.rip_outer.specs.declared.connections.TraceKnock.{TraceKnock}
use Rattle.rip_outer.specs.Memory.{SinkState, new_sink}
use Rattle.rip_outer.specs.MemoryDoor.{DoorState, new_door}
use Rattle.rip_outer.specs.Moments.{ClockState, WordsState, new_clock, new_words}
use Rattle.rip_app.specs.App.{Loaded}
use Rattle.rip_trace.specs.Traces.{Given, IsTrace}
use Rattle.rip_log.specs.Entries.{Recorded}
use Rattle.rip_log.specs.Histories.{IsHistory, history_text}
use Rattle.rip_server.specs.Turning.{Outer}
use Rattle.rip_serve.specs.declared.serving.Stop.{Stop}
use Rattle.rip_serve.specs.declared.serving.Stop.TheVariants.{Idle}
use Rattle.rip_serve.specs.Sites.{ServesApp}
use Rattle.rip_gen.specs.Served.{IsLogOf, IsServed, brought, most_turns, told_by}

-- as they are made for a trace, they tell what it brings
pub told_same : (given : Given) (door : DoorState) (clock : ClockState) (words : WordsState) (sink : SinkState) → door ≡ new_door given.knocks [] []
    → clock ≡ new_clock given.moments → words ≡ new_words given.words → sink ≡ new_sink [] → told_by door clock words sink ≡ brought given
told_same given door clock words sink one two three four =
    ap (λ (d : DoorState). told_by d clock words sink) one ∙ ap (λ (k : ClockState). told_by (new_door given.knocks [] []) k words sink) two
    ∙ ap (λ (w : WordsState). told_by (new_door given.knocks [] []) (new_clock given.moments) w sink) three
    ∙ ap (λ (s : SinkState). told_by (new_door given.knocks [] []) (new_clock given.moments) (new_words given.words) s) four

pub log_of : (app : Loaded) (given : Given) (begin end : Outer) (log : List ℕ) (came : List TraceKnock) (how : Stop) → begin ≡ brought given → how ≡ Idle
    → ServesApp app most_turns how begin end → end.seen.held ≡ Some log → end.seen.telling.told ≡ Some (map knocked came) → IsLogOf app given log
log_of app given begin end log came how begins idle serves put told =
    record {
      end = end;
      serves = subst (λ (o : Outer). ServesApp app most_turns Idle o end) begins (subst (λ (h : Stop). ServesApp app most_turns h begin end) idle serves);
      put = put;
      came = came;
      never_gone = told;
    }

pub served_so : (app : Loaded) (text : List ℕ) (given : Given) (log : List ℕ) (history : List Recorded) → IsTrace text given → IsLogOf app given log → log ≡ history_text history → IsHistory history → IsServed app text history
served_so app text given log history gives is_log is in_range = record { given = given; gives = gives; is_log = subst (λ t. IsLogOf app given t) is is_log; in_range = in_range }
