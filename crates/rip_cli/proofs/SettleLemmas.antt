-- What a line that was put, and a server that was run, say of what was done for the input.
use Rattle.std.proofs.Common.{◌≡◌, ℕ, List, Option, Some, None, inl, inr, length, refl, ap, ◌∙◌}
use Rattle.rip_app.specs.App.{Loaded, AppOf}
use Rattle.rip_server.specs.Turning.{Outer}
use Rattle.rip_serve.specs.Serving.{OnlyPuts}
use Rattle.rip_cli.specs.Content.{content_bytes}
use Rattle.rip_cli.specs.Lines.{count_line}
use Rattle.rip_cli.specs.Input.{IsCount, Refuses, FitsAll}
use Rattle.rip_cli.specs.Steps.{IsRefusedBy, PutsLine, PutsLineOf, CountsStatus, refusal_line}
use Rattle.rip_cli.specs.Settling.{Settles, Counts, with_sink}
use Rattle.rip_cli.specs.declared.input.AppInput.{AppInput}
use Rattle.rip_cli.specs.declared.input.ThreeFiles.{ThreeFiles}
use Rattle.rip_cli.specs.Service.{IsTraceOf}
use Rattle.rip_cli.specs.declared.input.Input.{Input}
use Rattle.rip_cli.specs.declared.input.Input.TheVariants.{Check, Drive, Generate}
use Rattle.rip_gen.specs.Generated.{IsGenerated}
use Rattle.rip_cli.specs.declared.refusal.Refusal.{Refusal}
use Rattle.rip_cli.specs.declared.status.Status.{Status}
use Rattle.rip_cli.specs.declared.status.Status.TheVariants.{Read, BadWords, BadInput, TurnsSpent, Outside, NoMemory}
use Rattle.rip_cli.proofs.FileLemmas.{is_app, refuses_by}

-- nothing but the sink is other than before
pub alone : (rest : Outer) (held held_new : Option (List ℕ)) (faults faults_new : ℕ) → OnlyPuts (with_sink rest held faults) (with_sink rest held_new faults_new)
alone rest held held_new faults faults_new = record { seen = refl; clock = refl; words = refl }

-- and where the sink is as before, all is
pub same_sink : (rest : Outer) (held held_new : Option (List ℕ)) (faults faults_new : ℕ) → held_new ≡ held → faults_new ≡ faults
    → with_sink rest held_new faults_new ≡ with_sink rest held faults
same_sink rest held held_new faults faults_new is counted =
    ap (λ h. with_sink rest h faults_new) is ∙ ap (λ n. with_sink rest held n) counted

-- the count of the sink is that of all that is outside
pub counts_all : (s : Status) (rest : Outer) (held held_new : Option (List ℕ)) (faults faults_new : ℕ) → CountsStatus s faults faults_new
    → Counts s (with_sink rest held faults) (with_sink rest held_new faults_new)
counts_all Read rest held held_new faults faults_new counts = record { door = refl; sink = counts }
counts_all BadWords rest held held_new faults faults_new counts = record { door = refl; sink = counts }
counts_all BadInput rest held held_new faults faults_new counts = record { door = refl; sink = counts }
counts_all TurnsSpent rest held held_new faults faults_new counts = record { door = refl; sink = counts }
counts_all Outside rest held held_new faults faults_new counts = inr (refl, counts)
counts_all NoMemory rest held held_new faults faults_new counts = record { door = refl; sink = counts }

module _ (i : Input) (rest : Outer) (held held_new : Option (List ℕ)) (faults faults_new : ℕ) where
  -- the line of a refusal was put
  line_settles : (s : Status) (line : List ℕ) → Refuses i line → PutsLine BadInput s line held held_new → CountsStatus s faults faults_new
      → Settles s i (with_sink rest held faults) (with_sink rest held_new faults_new)
  line_settles Read line refuses puts counts = cc
  line_settles BadWords line refuses puts counts = cc
  line_settles BadInput line refuses puts counts = (line, refuses, (puts.1, alone rest held held_new faults faults_new))
  line_settles TurnsSpent line refuses puts counts = absurd puts
  line_settles Outside line refuses puts counts = inl (line, refuses, (puts, alone rest held held_new faults faults_new))
  line_settles NoMemory line refuses puts counts = inl (same_sink rest held held_new faults faults_new puts counts)

  none_settles : (s : Status) → s ≡ NoMemory → held_new ≡ held → CountsStatus s faults faults_new
      → Settles s i (with_sink rest held faults) (with_sink rest held_new faults_new)
  none_settles Read e same counts = cc
  none_settles BadWords e same counts = cc
  none_settles BadInput e same counts = cc
  none_settles TurnsSpent e same counts = cc
  none_settles Outside e same counts = cc
  none_settles NoMemory e same counts = inl (same_sink rest held held_new faults faults_new same counts)

  settles_by : (s : Status) (found : Option (List ℕ)) → ((line : List ℕ) → found ≡ Some line → Refuses i line)
      → PutsLineOf BadInput s found held held_new → CountsStatus s faults faults_new
      → Settles s i (with_sink rest held faults) (with_sink rest held_new faults_new)
  settles_by s None refuses puts counts = none_settles s puts.0 puts.1 counts
  settles_by s (Some line) refuses puts counts = line_settles s line (refuses line refl) puts counts

  -- what was put of the line of a refusal settles the input
  pub refusal_settles : (s : Status) (r : Refusal) → IsRefusedBy i r → PutsLineOf BadInput s (refusal_line r) held held_new
      → CountsStatus s faults faults_new → Settles s i (with_sink rest held faults) (with_sink rest held_new faults_new)
  refusal_settles s r cause puts counts = settles_by s (refusal_line r) (λ line e. refuses_by i r line cause e) puts counts

module _ (i : AppInput) (rest : Outer) (held held_new : Option (List ℕ)) (faults faults_new : ℕ) where
  count_line_settles : (s : Status) (line : List ℕ) → IsCount i line → PutsLine Read s line held held_new → CountsStatus s faults faults_new
      → Settles s (Check i) (with_sink rest held faults) (with_sink rest held_new faults_new)
  count_line_settles Read line count puts counts = (line, count, puts.1)
  count_line_settles BadWords line count puts counts = cc
  count_line_settles BadInput line count puts counts = cc
  count_line_settles TurnsSpent line count puts counts = absurd puts
  count_line_settles Outside line count puts counts = inr (line, count, puts)
  count_line_settles NoMemory line count puts counts = inl (same_sink rest held held_new faults faults_new puts counts)

  -- what was put of the line of an application settles the input
  pub count_settles : (s : Status) (app : Loaded) → FitsAll (Check i) → AppOf (content_bytes i.page) (content_bytes i.manifest) app
      → PutsLine Read s (count_line (length app.page.nodes) (length app.program.grove.roots)) held held_new → CountsStatus s faults faults_new
      → Settles s (Check i) (with_sink rest held faults) (with_sink rest held_new faults_new)
  count_settles s app fits application puts counts =
      count_line_settles s (count_line (length app.page.nodes) (length app.program.grove.roots))
      (record { app = app; is_app = is_app (Check i) i app refl fits application; text = refl }) puts counts

module _ (i : ThreeFiles) (rest : Outer) (held held_new : Option (List ℕ)) (faults faults_new : ℕ) where
  -- what was put of the trace of a client settles the input
  pub trace_settles : (s : Status) (text : List ℕ) → IsTraceOf i text → PutsLine Read s text held held_new → CountsStatus s faults faults_new
      → Settles s (Drive i) (with_sink rest held faults) (with_sink rest held_new faults_new)
  trace_settles Read text is puts counts = (text, is, puts.1)
  trace_settles BadWords text is puts counts = cc
  trace_settles BadInput text is puts counts = cc
  trace_settles TurnsSpent text is puts counts = absurd puts
  trace_settles Outside text is puts counts = inr (text, is, puts)
  trace_settles NoMemory text is puts counts = inl (same_sink rest held held_new faults faults_new puts counts)

module _ (n : ℕ) (rest : Outer) (held held_new : Option (List ℕ)) (faults faults_new : ℕ) where
  -- what was put of the line of generated work settles the input
  pub generated_settles : (s : Status) (line : List ℕ) → IsGenerated n line → PutsLine Read s line held held_new → CountsStatus s faults faults_new
      → Settles s (Generate n) (with_sink rest held faults) (with_sink rest held_new faults_new)
  generated_settles Read line is puts counts = (line, is, puts.1)
  generated_settles BadWords line is puts counts = cc
  generated_settles BadInput line is puts counts = cc
  generated_settles TurnsSpent line is puts counts = absurd puts
  generated_settles Outside line is puts counts = inr (line, is, puts)
  generated_settles NoMemory line is puts counts = inl (same_sink rest held held_new faults faults_new puts counts)
