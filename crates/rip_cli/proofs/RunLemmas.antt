-- What the steps of a run say of the whole run.
use Rattle.std.proofs.Common.{◌≡◌, ℕ, List, [], Option, refl, sym, append-nil, inl, inr}
use Rattle.rip_outer.proofs.Composing.{Front-none}
use Rattle.rip_outer.specs.declared.reading.NamedFile.{NamedFile}
use Rattle.rip_words.specs.Commands.{Task, IsTask}
use Rattle.rip_server.specs.Turning.{Outer}
use Rattle.rip_cli.specs.Words.{IsForm, in_order, usage_line}
use Rattle.rip_cli.specs.Steps.{AskedFront, PutsLine, CountsStatus}
use Rattle.rip_cli.specs.Settling.{Settles, Counts, with_sink}
use Rattle.rip_cli.specs.Run.{Told, Reads, StopsReading, Ran}
use Rattle.rip_cli.specs.declared.input.Input.{Input}
use Rattle.rip_cli.specs.declared.status.Status.{Status}
use Rattle.rip_cli.specs.declared.status.Status.TheVariants.{Read, BadWords, BadInput, TurnsSpent, Outside, NoMemory}
use Rattle.rip_cli.proofs.SettleLemmas.{alone}

-- a run that read its input
pub settled_ran : (s : Status) (words : List (List ℕ)) (old new : Told) (i : Input) → Reads words old new i → new.reads_failed ≡ old.reads_failed
    → Settles s i old.outer new.outer → Counts s old.outer new.outer → Ran s words old new
settled_ran Read words old new i reads calm settles counts = ((calm, counts), record { input = i; reads = reads; does = settles })
settled_ran BadWords words old new i reads calm settles counts = absurd settles
settled_ran BadInput words old new i reads calm settles counts =
    ((calm, counts), record { input = i; reads = reads; line = settles.0; refuses = settles.1; put = settles.2 })
settled_ran TurnsSpent words old new i reads calm settles counts = ((calm, counts), record { input = i; reads = reads; does = settles })
settled_ran Outside words old new i reads calm (inl refused) counts =
    inr (calm, counts, inr (inl (record { input = i; reads = reads; line = refused.0; refuses = refused.1; put = refused.2 })))
settled_ran Outside words old new i reads calm (inr does) counts =
    inr (calm, counts, inr (inr (record { input = i; reads = reads; does = does })))
settled_ran NoMemory words old new i reads calm (inl nothing) counts = (
  (calm, counts),
  inl (record { task = reads.task; form = reads.form; first = in_order reads.task; others = []; in_order = sym (append-nil (in_order reads.task)); asked = reads.asked; nothing = nothing }),
)
settled_ran NoMemory words old new i reads calm (inr (inl refused)) counts =
    ((calm, counts), inr (inr (inl (record { input = i; reads = reads; line = refused.0; refuses = refused.1; put = refused.2 }))))
settled_ran NoMemory words old new i reads calm (inr (inr does)) counts =
    ((calm, counts), inr (inr (inr (record { input = i; reads = reads; does = does }))))

-- a run of other words
module _ (words : List (List ℕ)) (files : Option (List NamedFile)) (asked : Option (List (List ℕ))) (reads : ℕ) (rest : Outer)
    (held held_new : Option (List ℕ)) (faults faults_new : ℕ) where
  pub usage_ran : (s : Status) → ¬ IsForm words → PutsLine BadWords s usage_line held held_new → CountsStatus s faults faults_new
      → Ran s words (record { held = files; asked = asked; reads_failed = reads; outer = with_sink rest held faults })
      (record { held = files; asked = asked; reads_failed = reads; outer = with_sink rest held_new faults_new })
  usage_ran Read other puts counts = cc
  usage_ran BadWords other puts counts =
      ((refl, record { door = refl; sink = counts }), record { no_form = other; asked = refl; put = (puts.1, alone rest held held_new faults faults_new) })
  usage_ran BadInput other puts counts = cc
  usage_ran TurnsSpent other puts counts = absurd puts
  usage_ran Outside other puts counts =
      inr (refl, inr (refl, counts), inl (record { no_form = other; asked = refl; put = (puts, alone rest held held_new faults faults_new) }))
  usage_ran NoMemory other puts counts = (
    (refl, record { door = refl; sink = counts }),
    inr (inl (record { no_form = other; asked = refl; put = (Front-none usage_line held held_new puts, alone rest held held_new faults faults_new) })),
  )

-- a run that stopped while it read
pub stopped_reading : (words : List (List ℕ)) (old new : Told) (task : Task) → IsTask words task
    → AskedFront (in_order task) old.asked new.asked → new.outer ≡ old.outer → StopsReading words old new
stopped_reading words old new task form asked nothing =
    record { task = task; form = form; first = asked.first; others = asked.others; in_order = asked.in_order; asked = asked.asked; nothing = nothing }
