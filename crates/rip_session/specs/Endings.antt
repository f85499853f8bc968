-- How an item that closed ends its session.
use Rattle.std.specs.Prelude.{ℕ, ◌-◌, List, [], Option, None, Some, slice_get}
use Rattle.rip_calls.specs.Calls.{front_text}
use Rattle.rip_host.specs.declared.browser.Browser.{Browser}
use Rattle.rip_eval_rows.specs.declared.close.Close.{Close}
use Rattle.rip_eval_rows.specs.declared.close.Close.TheVariants.{Fine, Refused, Mismatch, Stopped}
use Rattle.rip_eval_rows.specs.declared.completion.Stop.{Stop}
use Rattle.rip_eval_rows.specs.declared.completion.Stop.TheVariants.{Fault as AtFault, Limit as AtLimit}
use Rattle.rip_wire.specs.declared.ending.Ending.{Ending}
use Rattle.rip_wire.specs.declared.ending.Ending.TheVariants as ending
use Rattle.rip_session.specs.Tasks.{Task, reported_by}

-- what is reported by the item at this place, if there is one
abbrev pub reported_at : Option Task → ℕ × List ℕ
reported_at None = (0, [])
reported_at (Some t) = reported_by t

-- another call was reported by the item of this number than the one that is next of those that the script made, if there
-- is one
abbrev pub mismatch : List Task → ℕ → Browser → Ending
mismatch tasks item s =
    let reported = reported_at (slice_get tasks (item - 1)) in
    ending.Mismatch item reported.0 reported.1 (front_text s.calls)

-- the item met a fault or a limit
abbrev pub stopped : ℕ → Stop → Ending
stopped item (AtFault fault) = ending.Fault item fault
stopped item (AtLimit limit) = ending.Limit item limit

-- how an item of these that closed so, and left this browser, ends the session; a fine one ends none
abbrev pub ending_of : List Task → Close → Browser → Ending
ending_of tasks Fine s = ending.Closed
ending_of tasks (Refused item kind) s = ending.BadReport item kind
ending_of tasks (Mismatch item) s = mismatch tasks item s
ending_of tasks (Stopped item stop) s = stopped item stop
