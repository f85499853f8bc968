-- A run whose files are accepted stopped before, or did what its words ask for.
use Rattle.std.proofs.Common.{◌≡◌, ◌<◌, ◌≤◌, ◌⊎◌, inl, inr, ℕ, List, None, Option, Some, ap, arith, length, refl, subst}
use Rattle.std.specs.Prelude.{IsSomeAnd}
use Rattle.rip_outer.specs.Reading.{contents_of, longest_file}
use Rattle.rip_outer.specs.Outside.{also}
use Rattle.rip_outer.specs.declared.reading.NamedFile.{NamedFile}
use Rattle.rip_words.specs.Commands.{IsTask, Task}
use Rattle.rip_words.proofs.WordLemmas.{tasks}
use Rattle.rip_app.specs.App.{AppOf, Loaded}
use Rattle.rip_app.proofs.Answering.{has_one_app}
use Rattle.rip_cli.specs.Input.{IsApp, IsAppOf, IsContentOf, IsInputOf}
use Rattle.rip_cli.specs.Laws.{AreAccepted, HasBytes, HoldApp}
use Rattle.rip_cli.specs.Run.{Ran, StopsPutting, StopsRefusal, Told, Works}
use Rattle.rip_cli.specs.Service.{Does}
use Rattle.rip_cli.specs.Settling.{with_sink}
use Rattle.rip_cli.specs.Words.{in_order}
use Rattle.rip_cli.specs.declared.input.AppInput.{AppInput}
use Rattle.rip_cli.specs.declared.input.Content.{Content}
use Rattle.rip_cli.specs.declared.input.Content.TheVariants.{Bytes, TooLong}
use Rattle.rip_cli.specs.declared.input.Input.{Input}
use Rattle.rip_cli.specs.declared.status.Status.{Status}
use Rattle.rip_cli.specs.declared.status.Status.TheVariants.{BadInput, BadWords, NoMemory, Outside, Read, TurnsSpent}
use Rattle.rip_cli.proofs.Accepting.{accepted_is_done}
use Rattle.rip_headline.specs.Prefixed.{StopsFirst}

-- what was read of a file is what it holds
pub same_content : (files : List NamedFile) (name bytes : List ℕ) (content : Content) → HasBytes files name bytes → IsContentOf (Some files) name content → content ≡ Bytes bytes
same_content files name bytes (Bytes other) has is = let same : other ≡ bytes = cc in ap Bytes same
same_content files name bytes TooLong has is = absurd (short (contents_of files name) has.0 is)
  where
    short : (x : Option (List ℕ)) → x ≡ Some bytes → IsSomeAnd x (λ b. longest_file < length b) → ⊥
    short None held long = cc
    short (Some b) held long = let same : b ≡ bytes = cc in let small : length bytes ≤ longest_file = has.1 in let much : longest_file < length b = long in omega (arith, ap length same)

pub same_bytes : (content : Content) (bytes other : List ℕ) → content ≡ Bytes bytes → content ≡ Bytes other → other ≡ bytes
same_bytes content bytes other one two = cc

-- what the words ask for was done, up to how the run ended
pub record DidTask (files : List NamedFile) (task : Task) (status : Status) (old new : Told) : Type 0 where
  pub input : Input
  pub contents : IsInputOf (Some files) task input
  pub does : Does input status old.outer new.outer

module _ (words : List (List ℕ)) (task : Task) (old new : Told) (files : List NamedFile) (held : old.held ≡ Some files) (is : IsTask words task) (hold : AreAccepted files task) where
  did-task : (status : Status) → Works words status old new → DidTask files task status old new
  did-task status w =
      let same : w.reads.task ≡ task = tasks words w.reads.task task w.reads.form is in
      record {
        input = w.input;
        contents = subst (λ t. IsInputOf (Some files) t w.input) same (subst (λ h. IsInputOf h w.reads.task w.input) held w.reads.contents);
        does = w.does;
      }

  -- a refusal whose line is put whole would be one, too
  none-refused : StopsRefusal words old new → ⊥
  none-refused r = (accepted_is_done BadInput words task old whole files held is hold ran).1 refl
    where
      whole : Told
      whole = record {
        held = old.held;
        asked = also (in_order r.reads.task) old.asked;
        reads_failed = old.reads_failed;
        outer = with_sink old.outer (also r.line old.outer.seen.held) old.outer.sink_faults;
      }

      ran : Ran BadInput words old whole
      ran = (
        (refl, record { door = refl; sink = refl }),
        record {
          input = r.input;
          reads = record { task = r.reads.task; form = r.reads.form; contents = r.reads.contents; asked = refl };
          line = r.line;
          refuses = r.refuses;
          put = (refl, record { seen = refl; clock = refl; words = refl });
        },
      )

  stops-putting : (status : Status) → StopsPutting status words old new → DidTask files task status old new
  stops-putting status (inl usage) = absurd (usage.no_form (task, is))
  stops-putting status (inr (inl refusal)) = absurd (none-refused refusal)
  stops-putting status (inr (inr works)) = did-task status works

  pub first_or_did : (status : Status) → Ran status words old new → StopsFirst status old.outer new.outer ⊎ DidTask files task status old new
  first_or_did Read ran = inr (did-task Read ran.1)
  first_or_did BadWords ran = absurd ((accepted_is_done BadWords words task old new files held is hold ran).0 refl)
  first_or_did BadInput ran = absurd ((accepted_is_done BadInput words task old new files held is hold ran).1 refl)
  first_or_did TurnsSpent ran = inr (did-task TurnsSpent ran.1)
  first_or_did Outside (inl (rose, calm, stops)) = inl (inl refl, stops.nothing)
  first_or_did Outside (inr (calm, fault, stops)) = inr (stops-putting Outside stops)
  first_or_did NoMemory (calm, inl stops) = inl (inr refl, stops.nothing)
  first_or_did NoMemory (calm, inr stops) = inr (stops-putting NoMemory stops)

-- the application of the input is that of the files
pub app_of_files : (files : List NamedFile) (page manifest : List ℕ) (hold : HoldApp files page manifest) (i : AppInput) (app : Loaded)
    → IsAppOf (Some files) page manifest i → IsApp i app → hold.app ≡ app
app_of_files files page manifest hold i app contents is =
    let one = same_bytes i.page hold.page_bytes is.page (same_content files page hold.page_bytes i.page hold.has_page contents.0) is.is_page in
    let two = same_bytes i.manifest hold.manifest_bytes is.manifest (same_content files manifest hold.manifest_bytes i.manifest hold.has_manifest contents.1) is.is_manifest in
    has_one_app hold.page_bytes hold.manifest_bytes hold.app app hold.is
    (subst (λ m. AppOf hold.page_bytes m app) two (subst (λ b. AppOf b is.manifest app) one is.application))
