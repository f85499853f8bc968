-- Generated work, and the line that sums it up.
use Rattle.std.specs.Prelude.{ℕ, List}
use Rattle.rip_app.specs.App.{Loaded}
use Rattle.rip_gen.specs.Plans.{plan_of}
use Rattle.rip_log.specs.Entries.{Recorded}
use Rattle.rip_gen.specs.Counts.{IsSummedUp}
use Rattle.rip_gen.specs.Form.{IsForm}
use Rattle.rip_gen.specs.Pace.{IsPaced}
use Rattle.rip_gen.specs.Served.{IsServed}
use Rattle.rip_gen.specs.Trace.{IsTraceOf}

-- the line sums up the history of the application of generated work, served to the trace of the plan, in which each request
-- came right behind the answer to the one before
pub record IsGenerated (n : ℕ) (line : List ℕ) : Type 0 where
  pub app : Loaded
  pub is_form : IsForm app
  pub trace : List ℕ
  pub is_trace : IsTraceOf app (plan_of n) trace
  pub history : List Recorded
  pub served : IsServed app trace history
  pub paced : IsPaced history
  pub summed_up : IsSummedUp n history line
