-- What serving says of what was done for the input.
use Rattle.std.proofs.Common.{◌≡◌, ℕ, List, [], map, Option, Some, None, inl, inr, refl, sym, ap, ◌∙◌, subst, arith}
use Rattle.std.specs.Prelude.{Result, Ok, Err, IfOk}
use Rattle.rip_outer.specs.Moments.{ClockState, WordsState, new_clock, moment_at, new_words, word_at}
use Rattle.rip_outer.specs.Connections.{knocked}
use Rattle.rip_outer.specs.Outside.{Rose}
use Rattle.rip_outer.specs.declared.connections.TraceKnock.{TraceKnock}
use Rattle.rip_server.specs.Acts.{seen}
use Rattle.rip_app.specs.App.{Loaded}
use Rattle.rip_trace.specs.Traces.{Given}
use Rattle.rip_server.specs.Turning.{Outer, outer, source}
use Rattle.rip_serve.specs.Serving.{Serves, NoFaults, OneFault}
use Rattle.rip_serve.specs.declared.serving.Stop.{Stop}
use Rattle.rip_cli.specs.Input.{IsApp, HasTrace}
use Rattle.rip_serve.specs.Sites.{ServesApp, site_of_app}
use Rattle.rip_cli.specs.Service.{IsStop, Replayed, brought}
use Rattle.rip_cli.specs.Settling.{Settles, Counts, with_sink}
use Rattle.rip_cli.specs.Steps.{CountsStatus}
use Rattle.rip_cli.specs.TraceDoor.{Bringing, left_of, telling_of}
use Rattle.rip_cli.specs.declared.input.AppInput.{AppInput}
use Rattle.rip_cli.specs.declared.input.ThreeFiles.{ThreeFiles}
use Rattle.rip_cli.specs.declared.input.Input.TheVariants.{Replay, Serve}
use Rattle.rip_cli.specs.declared.status.Status.{Status}
use Rattle.rip_cli.specs.declared.status.Status.TheVariants.{Read, BadWords, BadInput, TurnsSpent, Outside, NoMemory}

-- ---- at a door

-- the counts of serving, by the status
pub serve_counts : (s : Status) (app : Loaded) (most : ℕ) (how : Stop) (old new : Outer) → IsStop s how → ServesApp app most how old new → Counts s old new
serve_counts Read app most how old new is served = (subst (λ h. Serves (site_of_app app) most h old new) is served.serves).1
serve_counts BadWords app most how old new is served = absurd is
serve_counts BadInput app most how old new is served = absurd is
serve_counts TurnsSpent app most how old new is served = (subst (λ h. Serves (site_of_app app) most h old new) is served.serves).1
serve_counts Outside app most how old new is served = (subst (λ h. Serves (site_of_app app) most h old new) is served.serves).1
serve_counts NoMemory app most how old new is served = (subst (λ h. Serves (site_of_app app) most h old new) is served.serves).1

-- what was served at the door settles the input
pub serve_settles : (s : Status) (i : AppInput) (turns : ℕ) (app : Loaded) (how : Stop) (old new : Outer) → IsApp i app → IsStop s how
    → ServesApp app turns how old new → Settles s (Serve i turns) old new
serve_settles Read i turns app how old new is stops served = record { app = app; is_app = is; how = how; stops = stops; served = served }
serve_settles BadWords i turns app how old new is stops served = absurd stops
serve_settles BadInput i turns app how old new is stops served = absurd stops
serve_settles TurnsSpent i turns app how old new is stops served = record { app = app; is_app = is; how = how; stops = stops; served = served }
serve_settles Outside i turns app how old new is stops served = inr (record { app = app; is_app = is; how = how; stops = stops; served = served })
serve_settles NoMemory i turns app how old new is stops served = inr (inr (record { app = app; is_app = is; how = how; stops = stops; served = served }))

-- ---- to a trace

-- a count that stays 0 did not rise
zero_stays : (n : ℕ) → n ≡ 0 → ¬ Rose 0 n
zero_stays n is = λ rose. omega (arith, is, rose)

sink_rose : (old new : Outer) → old.door_faults ≡ 0 → new.door_faults ≡ 0 → OneFault old new → Rose old.sink_faults new.sink_faults
sink_rose old new before after (inl h) = absurd (zero_stays new.door_faults after (subst (λ n. Rose n new.door_faults) before h.0))
sink_rose old new before after (inr h) = h.1

module _ (app : Loaded) (given : Given) (turns : ℕ) (how : Stop) (held held_new : Option (List ℕ)) (faults faults_new : ℕ) where
  counts_at : (s : Status) → IsStop s how → (served : Replayed app given turns how held held_new faults faults_new) → Counts s (brought given held faults) served.end
  counts_at s stops served = serve_counts s app turns how (brought given held faults) served.end stops served.served

  -- how often the sink failed, by the status
  pub replay_counts : (s : Status) → IsStop s how → Replayed app given turns how held held_new faults faults_new → CountsStatus s faults faults_new
  replay_counts Read stops served = let calm : NoFaults (brought given held faults) served.end = counts_at Read stops served in served.counted ∙ calm.sink
  replay_counts BadWords stops served = absurd stops
  replay_counts BadInput stops served = absurd stops
  replay_counts TurnsSpent stops served = let calm : NoFaults (brought given held faults) served.end = counts_at TurnsSpent stops served in served.counted ∙ calm.sink
  replay_counts Outside stops served =
      let rose = sink_rose (brought given held faults) served.end refl served.never_fails (counts_at Outside stops served) in
      subst (λ n. Rose faults n) (sym served.counted) rose
  replay_counts NoMemory stops served = let calm : NoFaults (brought given held faults) served.end = counts_at NoMemory stops served in served.counted ∙ calm.sink

  -- what was served to the trace settles the input
  pub replay_settles : (s : Status) (i : ThreeFiles) (rest : Outer) → IsApp i.app app → HasTrace i given → IsStop s how
      → Replayed app given turns how held held_new faults faults_new
      → Settles s (Replay i turns) (with_sink rest held faults) (with_sink rest held_new faults_new)
  replay_settles Read i rest is gives stops served =
      record { app = app; is_app = is; given = given; gives = gives; how = how; stops = stops; served = served }
  replay_settles BadWords i rest is gives stops served = absurd stops
  replay_settles BadInput i rest is gives stops served = absurd stops
  replay_settles TurnsSpent i rest is gives stops served =
      record { app = app; is_app = is; given = given; gives = gives; how = how; stops = stops; served = served }
  replay_settles Outside i rest is gives stops served =
      inr (record { app = app; is_app = is; given = given; gives = gives; how = how; stops = stops; served = served })
  replay_settles NoMemory i rest is gives stops served =
      inr (inr (record { app = app; is_app = is; given = given; gives = gives; how = how; stops = stops; served = served }))

-- ---- what a trace brings

pub if_ok : {A E : Type 0} (r : Result A E) (P Q : A → Type 0) → ((x : A) → P x → Q x) → IfOk r P → IfOk r Q
if_ok (Ok x) P Q f h = f x h
if_ok (Err e) P Q f h = h

-- door, clock and words of a trace are what it brings
abbrev pub told_by : Bringing → ClockState → WordsState → Option (List ℕ) → ℕ → Outer
told_by door clock words held faults =
    outer (seen (λ c. None) (telling_of door) None None held) (source None (λ j. Some (moment_at clock j))) (source None (λ j. Some (word_at words j))) 0 faults

pub brought_by : (given : Given) (held : Option (List ℕ)) (faults : ℕ) (door : Bringing) (clock : ClockState) (words : WordsState)
    → door.came ≡ [] → left_of door ≡ given.knocks → clock ≡ new_clock given.moments → words ≡ new_words given.words
    → told_by door clock words held faults ≡ brought given held faults
brought_by given held faults door clock words none one two three =
    ap (λ (ks : List TraceKnock). outer (seen (λ c. None) (record { told = Some (map knocked ks); left = Some (left_of door) }) None None held) (source None (λ j. Some (moment_at clock j))) (source None (λ j. Some (word_at words j))) 0 faults) none
    ∙ ap (λ (ks : List TraceKnock). outer (seen (λ c. None) (record { told = Some []; left = Some ks }) None None held) (source None (λ j. Some (moment_at clock j))) (source None (λ j. Some (word_at words j))) 0 faults) one
    ∙ ap (λ (k : ClockState). outer (seen (λ c. None) (record { told = Some []; left = Some given.knocks }) None None held) (source None (λ j. Some (moment_at k j))) (source None (λ j. Some (word_at words j))) 0 faults) two
    ∙ ap (λ (w : WordsState). outer (seen (λ c. None) (record { told = Some []; left = Some given.knocks }) None None held) (source None (λ j. Some (moment_at (new_clock given.moments) j))) (source None (λ j. Some (word_at w j))) 0 faults) three

pub replayed : (app : Loaded) (given : Given) (most : ℕ) (how : Stop) (held : Option (List ℕ)) (faults : ℕ) (old end : Outer) (came : List TraceKnock)
    → old ≡ brought given held faults → ServesApp app most how old end → end.door_faults ≡ 0 → end.seen.telling.told ≡ Some (map knocked came)
    → Replayed app given most how held end.seen.held faults end.sink_faults
replayed app given most how held faults old end came from served never told =
    record { end = end; served = subst (λ o. ServesApp app most how o end) from served; put = refl; counted = refl; never_fails = never; came = came; never_gone = told }
