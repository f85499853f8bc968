-- A run that may be cut after any unit. Its fuel enters here, and nowhere below.
use Rattle.std.specs.Prelude.{ℕ, min, nat_le, Bool, true, false, List}
use Rattle.rip_base.specs.declared.value.Limit.TheVariants.{Fuel}
use Rattle.rip_heap.specs.World.{World}
use Rattle.rip_eval_rows.specs.declared.completion.Stop.TheVariants.{Limit as AtLimit}
use Rattle.rip_eval_rows.specs.declared.next.Control.{Control}
use Rattle.rip_eval_rows.specs.Rest.{rest}
use Rattle.rip_eval_rows.specs.Row.{Row, Table}
use Rattle.rip_eval_rows.specs.Run.{Answer, Completes, Stops, Cuts, Calling, run}
use Rattle.rip_eval_rows.specs.Stack.{Open}

-- a cut where the fuel is spent is its limit; all else stays
abbrev pub conclude : {S : Type 0} → Bool → Answer S → Answer S
conclude false answer = answer
conclude true (Completes c u w s) = Completes c u w s
conclude true (Stops stop room u w s) = Stops stop room u w s
conclude true (Cuts room w s) = Stops (AtLimit Fuel) room 0 w s

-- the answer for k units where so much fuel is there: more units count as the fuel
abbrev pub capped : {S : Type 0} → ℕ → (ℕ → Answer S) → ℕ → Answer S
capped fuel answer k = conclude (nat_le fuel k) (answer (min fuel k))

-- a run of this row with so much depth and fuel, after k units
abbrev pub run_of : {S : Type 0} → Calling S → Table → ℕ → Row → S → ℕ → ℕ → Answer S
run_of h t room row s fuel k = capped fuel (λ u. run h t room row u s) k

-- the same of a run that stands, with so much fuel left
abbrev pub rest_of : {S : Type 0} → Calling S → Table → Control → List Open → World → S → ℕ → ℕ → Answer S
rest_of h t control os w s fuel k = capped fuel (λ u. rest h t control os u w s) k
