-- A whole run: what a start comes to, with so much fuel and so many units.
use Rattle.std.specs.Prelude.{◌≡◌, ℕ, ◌+◌, min, Option, Some}
use Rattle.rip_base.specs.declared.value.Limit.{Limit as At}
use Rattle.rip_heap.specs.World.{World}
use Rattle.rip_eval_rows.specs.declared.completion.Stop.TheVariants.{Limit as AtLimit}
use Rattle.rip_eval_rows.specs.Cut.{run_of}
use Rattle.rip_eval_rows.specs.Row.{Row, Table}
use Rattle.rip_eval_rows.specs.Run.{Answer, Stops, Calling}
use Rattle.rip_eval_rows.specs.Started.{Started}
use Rattle.rip_eval_rows.specs.declared.outcome.Outcome.{Outcome}
use Rattle.rip_eval_rows.specs.declared.outcome.Outcome.TheVariants.{Value as Gives, Thrown, Fault, Limit, Memory}
use Rattle.rip_eval_rows.specs.declared.outcome.Turned.{Turned}
use Rattle.rip_eval_rows.specs.declared.outcome.Turned.TheVariants.{More, Done}
use Rattle.rip_eval_rows.specs.Law.{end_of}
use Rattle.rip_machine.specs.Law.{Begins, Resumes, Standing, left, open_depth}
use Rattle.rip_eval_language.specs.Reading.{Loaded}
use Rattle.rip_machine.specs.Starting.{Beginning, Runs, Exceeds, begun_by}
use Rattle.rip_eval_language.specs.Table.{table}

-- the run that a start comes to, where so much depth and fuel is there, after k units; one whose own charge would pass a
-- limit stops before its first unit, with nothing open
abbrev pub run_begun : {S : Type 0} → Calling S → Table → ℕ → Beginning → World → S → ℕ → ℕ → Answer S
run_begun h t depth (Runs row x) w s fuel k = run_of h t depth row s fuel k
run_begun h t depth (Exceeds limit) w s fuel k = Stops (AtLimit limit) depth (min fuel k) w s

-- the run of a script or a function, from this world and this host on
abbrev pub run_from : {S : Type 0} → Calling S → Loaded → ℕ → Started → World → S → ℕ → ℕ → Answer S
run_from h p depth start w s fuel k = run_begun h (table p) depth (begun_by p depth start w) w s fuel k

-- how it comes out with k units: its outcome, how many nodes and functions are open there, the units that it did not need,
-- and the world and the host then; none where it is cut
abbrev pub comes_to : {S : Type 0} → Calling S → Loaded → ℕ → Started → World → S → ℕ → ℕ → Option (Outcome × ℕ × ℕ × World × S)
comes_to h p depth start w s fuel k = end_of depth (run_from h p depth start w s fuel k)

-- the whole run, with all its fuel, has this outcome, and this machine, world and host are those of its end
abbrev pub RunsWhole : {S : Type 0} → Calling S → Loaded → ℕ → Started → World → S → ℕ → Standing → World → S → Outcome → Type 0
RunsWhole h p depth start w s fuel m' w' s' outcome =
    (u : ℕ) × (comes_to h p depth start w s fuel fuel ≡ Some (outcome, open_depth m', u, w', s')) × (m'.spent + u ≡ fuel)

-- the machine stands where this start left it, with nothing of its fuel spent, in the world x
abbrev pub IsStarted : Loaded → ℕ → Started → World → ℕ → World → Standing → Type 0
IsStarted p depth start w fuel x n =
    (row : Row) × (begun_by p depth start w ≡ Runs row x) × Begins (table p) row fuel x n × (n.depth ≡ depth)

-- what is left of a run that was started is the run of that start, with any number of units
abbrev pub RunsOn : {S : Type 0} → Calling S → Loaded → ℕ → Started → World → S → ℕ → World → Standing → Type 0
RunsOn h p depth start w s fuel x n =
    IsStarted p depth start w fuel x n → (k : ℕ) → left h (table p) n x s k ≡ run_from h p depth start w s fuel k

-- what is left of a run that was started has gone on for as many units as its fuel: it is not cut, and its outcome is that of
-- the whole run of that start. Of want of memory nothing is said
abbrev pub IsWhole : {S : Type 0} → Calling S → Loaded → ℕ → Started → World → S → ℕ → Standing → World → S → Turned → Type 0
IsWhole h p depth start w s fuel m' w' s' More = ⊥
IsWhole h p depth start w s fuel m' w' s' (Done (Gives v)) = RunsWhole h p depth start w s fuel m' w' s' (Gives v)
IsWhole h p depth start w s fuel m' w' s' (Done (Thrown v)) = RunsWhole h p depth start w s fuel m' w' s' (Thrown v)
IsWhole h p depth start w s fuel m' w' s' (Done (Fault fault)) = RunsWhole h p depth start w s fuel m' w' s' (Fault fault)
IsWhole h p depth start w s fuel m' w' s' (Done (Limit limit)) = RunsWhole h p depth start w s fuel m' w' s' (Limit limit)
IsWhole h p depth start w s fuel m' w' s' (Done Memory) = Unit {0}

-- where the machine stands as this start left it, and goes on for as many units as its fuel, it makes the whole run
abbrev pub GoesWhole : {S : Type 0} → Calling S → Loaded → ℕ → Started → World → S → ℕ → World → Standing → Type 0
GoesWhole {S} h p depth start w s fuel x n =
    IsStarted p depth start w fuel x n → (m' : Standing) (w' : World) (s' : S) (turned : Turned)
    → Resumes h (table p) n x s fuel m' w' s' turned → IsWhole h p depth start w s fuel m' w' s' turned

-- a start that would pass a limit: its whole run ends with that limit, nothing is open, no unit is needed, and all is as it was
abbrev pub StopsAtOnce : {S : Type 0} → Calling S → Loaded → ℕ → Started → World → S → ℕ → Type 0
StopsAtOnce h p depth start w s fuel =
    (limit : At) → begun_by p depth start w ≡ Exceeds limit → comes_to h p depth start w s fuel fuel ≡ Some (Limit limit, 0, fuel, w, s)
