-- That no script reads the replies that wait to be delivered.
use Rattle.std.specs.Prelude.{◌≡◌, ℕ}
use Rattle.rip_heap.specs.Host.{Request}
use Rattle.rip_heap.specs.World.{World}
use Rattle.rip_heap.specs.declared.host.HostDone.{HostDone}
use Rattle.rip_eval_rows.specs.Run.{Answer, Completes, Stops, Cuts}
use Rattle.rip_eval_rows.specs.Started.{Started}
use Rattle.rip_eval_language.specs.Reading.{Loaded}
use Rattle.rip_machine.specs.Run.{run_from}
use Rattle.rip_host.specs.Answers.{answers}
use Rattle.rip_host.specs.declared.browser.Browser.{Browser}
use Rattle.rip_host.specs.Waiting.{Waiting}

-- a browser with these replies in place of those that wait, and room for so many
abbrev pub with_waiting : Waiting → Browser → Browser
with_waiting rs s = record s { undelivered = rs }

-- an answer after which that browser is there
abbrev pub answered_with : Waiting → HostDone × World × Browser → HostDone × World × Browser
answered_with rs a = (a.0, a.1, with_waiting rs a.2)

-- a run behind which it is there
abbrev pub run_with : Waiting → Answer Browser → Answer Browser
run_with rs (Completes c u w s) = Completes c u w (with_waiting rs s)
run_with rs (Stops stop room u w s) = Stops stop room u w (with_waiting rs s)
run_with rs (Cuts room w s) = Cuts room w (with_waiting rs s)

-- a browser answers alike whichever replies wait, and they stay
abbrev pub AnswersReadNoReply : Type 0
AnswersReadNoReply =
    (rs : Waiting) (s : Browser) (w : World) (r : Request)
    → answers (with_waiting rs s) w r ≡ answered_with rs (answers s w r)

-- so does each run of a program over it, cut after any unit
abbrev pub RunsReadNoReply : Type 0
RunsReadNoReply =
    (rs : Waiting) (p : Loaded) (depth : ℕ) (start : Started) (w : World) (s : Browser) (fuel k : ℕ)
    → run_from answers p depth start w (with_waiting rs s) fuel k ≡ run_with rs (run_from answers p depth start w s fuel k)
