-- What the steps of a run say of the whole run.
use Rattle.std.proofs.Common.{◌≡◌, ◌⊎◌, ℕ, List, refl, inl, inr}
use Rattle.rip_outer.specs.Reading.{IsTooLong}
use Rattle.rip_script.specs.Given.{AnswersBytes, IsDue, IsGiven, RefusesBytes, refusal_line}
use Rattle.rip_script.specs.Run.{Asks, Ran, Told}
use Rattle.rip_script.specs.Steps.{CountsStatus, PutsThen, Settles}
use Rattle.rip_script.specs.Words.{Task, IsForm, file_of, usage_line}
use Rattle.rip_script.specs.declared.refusal.Refusal.{Refusal}
use Rattle.rip_script.specs.declared.refusal.Refusal.TheVariants.{TooLong}
use Rattle.rip_script.specs.declared.status.Status.{Status}
use Rattle.rip_script.specs.declared.status.Status.TheVariants.{Done, BadWords, BadScript, Outside, NoMemory}

-- a run of other words
pub usage_ran : (s : Status) (words : List (List ℕ)) (old new : Told) → ¬ IsForm words
    → new.asked ≡ old.asked → new.reads_failed ≡ old.reads_failed
    → PutsThen BadWords s usage_line old.put new.put → CountsStatus s old.puts_failed new.puts_failed → Ran s words old new
usage_ran Done words old new other asked calm puts counts = cc
usage_ran BadWords words old new other asked calm puts counts =
    (record { files = calm; sink = counts }, record { no_form = other; asked = asked; put = puts.1 })
usage_ran BadScript words old new other asked calm puts counts = cc
usage_ran Outside words old new other asked calm puts counts =
    inr (counts, calm, inl (record { no_form = other; asked = asked; put = puts }))
usage_ran NoMemory words old new other asked calm puts counts =
    (record { files = calm; sink = counts }, inr (inl (record { no_form = other; asked = asked; put = puts })))

-- a run whose file is too long
pub too_long_ran : (s : Status) (words : List (List ℕ)) (old new : Told) (task : Task) → Asks words task old new → IsTooLong old.held (file_of task)
    → new.reads_failed ≡ old.reads_failed
    → PutsThen BadScript s (refusal_line TooLong) old.put new.put → CountsStatus s old.puts_failed new.puts_failed → Ran s words old new
too_long_ran Done words old new task asks long calm puts counts = cc
too_long_ran BadWords words old new task asks long calm puts counts = cc
too_long_ran BadScript words old new task asks long calm puts counts =
    (record { files = calm; sink = counts }, record { task = task; asks = asks; refusal = TooLong; refuses = inl (refl, long); put = puts.1 })
too_long_ran Outside words old new task asks long calm puts counts =
    inr (counts, calm, inr (record { task = task; asks = asks; due = refusal_line TooLong; is_due = inr (TooLong, inl (refl, long), refl); put = puts }))
too_long_ran NoMemory words old new task asks long calm puts counts =
    (record { files = calm; sink = counts }, inr (inr (record { task = task; asks = asks; due = refusal_line TooLong; is_due = inr (TooLong, inl (refl, long), refl); put = puts })))

-- what is due for the bytes of a file is due for the file
due_of_file : (old : Told) (task : Task) (bytes due : List ℕ) → IsGiven old.held (file_of task) bytes
    → AnswersBytes task bytes due ⊎ ((refusal : Refusal) × RefusesBytes task bytes refusal × (due ≡ refusal_line refusal))
    → IsDue old.held task due
due_of_file old task bytes due given (inl answers) = inl (bytes, given, answers)
due_of_file old task bytes due given (inr refused) = inr (refused.0, inr (bytes, given, refused.1), refused.2)

-- a run that read its file
pub settled_ran : (s : Status) (words : List (List ℕ)) (old new : Told) (task : Task) (bytes : List ℕ) → Asks words task old new → IsGiven old.held (file_of task) bytes
    → new.reads_failed ≡ old.reads_failed
    → Settles (AnswersBytes task bytes) (RefusesBytes task bytes) s old.put new.put → CountsStatus s old.puts_failed new.puts_failed → Ran s words old new
settled_ran Done words old new task bytes asks given calm settles counts =
    (record { files = calm; sink = counts }, record { task = task; asks = asks; answer = settles.0; answers = (bytes, given, settles.1); put = settles.2 })
settled_ran BadWords words old new task bytes asks given calm settles counts = absurd settles
settled_ran BadScript words old new task bytes asks given calm settles counts =
    (record { files = calm; sink = counts }, record { task = task; asks = asks; refusal = settles.0; refuses = inr (bytes, given, settles.1); put = settles.2 })
settled_ran Outside words old new task bytes asks given calm settles counts =
    inr (counts, calm, inr (record { task = task; asks = asks; due = settles.0; is_due = due_of_file old task bytes settles.0 given settles.1; put = settles.2 }))
settled_ran NoMemory words old new task bytes asks given calm settles counts = (
  record { files = calm; sink = counts },
  elim settles [
    | inl nothing ↦ inl (record { task = task; form = asks.form; asked = inr asks.asked; put = nothing })
    | inr some ↦ inr (inr (record { task = task; asks = asks; due = some.0; is_due = due_of_file old task bytes some.0 given some.1; put = some.2 }))
  ],
)
