-- An item of a session that is played whole.
use Rattle.std.specs.Prelude.{◌≡◌, ℕ, ◌-◌, Bool, List, [], ◌∷◌, ◌++◌}
use Rattle.rip_heap.specs.World.{World}
use Rattle.rip_eval_rows.specs.declared.close.Close.{Close}
use Rattle.rip_eval_rows.specs.declared.close.Close.TheVariants.{Fine, Refused, Mismatch, Stopped}
use Rattle.rip_eval_rows.specs.Evaluation.{Reached}
use Rattle.rip_eval_rows.specs.Plan.{Plan}
use Rattle.rip_eval_rows.specs.Started.{Started}
use Rattle.rip_eval_rows.specs.Evaluation.{Evaluation}
use Rattle.rip_replica.specs.Going.{Going, rest}
use Rattle.rip_replica.specs.Play.{Closes}
use Rattle.rip_history.specs.Parts.{Fact, passes, serves, finishes, Given}
use Rattle.rip_history.specs.Services.{Called, Service}
use Rattle.rip_replica.specs.Parts.{Doing, first_given, whole_item}
use Rattle.rip_replica.specs.Serving.{given_to}
use Rattle.rip_client.specs.declared.whole.play.Over.{Over}

-- what is done in a session, as those who play it have it: what runs mean, the fuel of an item, the plans of items, what
-- they come to, and the page behind a call that was served
pub record IsDoing {A S : Type 0} (d : Doing A S) (run : Started → World → S → ℕ → ℕ → Reached S) (full : ℕ) (plans : ℕ → A → ℕ → World → S → Plan S) (fact : A → Fact) (serve : ℕ → Given → S → S) : Type 0 where
  pub runs : d.run ≡ run
  pub fuel : d.full ≡ full
  pub plans_are : d.plan ≡ plans
  pub facts : d.fact ≡ fact
  pub serving : d.serve ≡ serve

-- what an item is given, where a service was called for these before: a served call its reply
abbrev pub given_for : Service → List Called → ℕ → Fact → Given
given_for service calls time passes = first_given []
given_for service calls time (serves number name args) = given_to service calls time name args
given_for service calls time (finishes how) = first_given []

-- what the service was called for behind an item that closed so
abbrev pub calls_behind : Fact → Close → List Called → List Called
calls_behind passes close calls = calls
calls_behind (serves number name args) Fine calls = calls ++ (name, args) ∷ []
calls_behind (serves number name args) (Refused item kind) calls = calls
calls_behind (serves number name args) (Mismatch item) calls = calls
calls_behind (serves number name args) (Stopped item stop) calls = calls
calls_behind (finishes how) close calls = calls

-- an item of this number in a batch of a number, played whole from this world and page, closed so, took so much fuel, and
-- left this world and page
pub record IsWhole {A S : Type 0} (d : Doing A S) (batch : ℕ) (item : A) (n : ℕ) (w : World) (s : S) (g : Given) (over : Over) (x : World) (r : S) : Type 0 where
  pub gs : List (S → S)
  pub fuel : ℕ
  pub left : ℕ
  pub is : whole_item d batch item n w s g ≡ Closes over.close gs fuel left x r
  pub took : over.fuel ≡ d.full - left

-- what is left of an item, with so many units, closes so and leaves this world and page, where there were so many units in
-- all
pub record LeftBy {M S : Type 0} (e : Evaluation M S) (r : Going M S) (w : World) (s : S) (units full : ℕ) (over : Over) (x : World) (q : S) : Type 0 where
  pub fuel : ℕ
  pub left : ℕ
  pub is : (gs : List (S → S)) → rest e r w s gs units ≡ Closes over.close gs fuel left x q
  pub took : over.fuel ≡ full - left
