-- Services whose turns are enough come to their end.
use Rattle.std.proofs.Common.{◌≡◌, inl, inr, ℕ, List, Some, refl, sym, subst}
use Rattle.rip_outer.specs.declared.connections.TraceKnock.{TraceKnock}
use Rattle.rip_outer.specs.declared.reading.NamedFile.{NamedFile}
use Rattle.rip_words.specs.Commands.{serves, IsTask}
use Rattle.rip_words.proofs.WordLemmas.{tasks}
use Rattle.rip_app.specs.App.{Loaded, AppOf}
use Rattle.rip_app.proofs.Answering.{has_one_app}
use Rattle.rip_cli.specs.Input.{IsInputOf}
use Rattle.rip_cli.specs.Laws.{AreAccepted}
use Rattle.rip_cli.specs.Run.{Told, Ran}
use Rattle.rip_cli.specs.Service.{Does, ServesDoor}
use Rattle.rip_cli.specs.declared.input.AppInput.{AppInput}
use Rattle.rip_cli.specs.declared.input.Input.{Input}
use Rattle.rip_cli.specs.declared.input.Input.TheVariants.{Check, Replay, Serve, Drive, Generate}
use Rattle.rip_cli.specs.declared.status.Status.TheVariants.{Read, BadWords, BadInput, TurnsSpent, Outside, NoMemory}
use Rattle.rip_cli.proofs.Accepting.{accepted_is_done}
use Rattle.rip_headline.specs.Enough.{AreEnough, batch_cost}
use Rattle.rip_headline.proofs.InTime.{applications_end_in_time}
use Rattle.rip_headline.specs.Replays.{ServesEndInTime}
use Rattle.rip_headline.proofs.ReplaysLemmas.{same_content, same_bytes}

module _ (files : List NamedFile) (page app address : List ℕ) (turns : ℕ) (knocks : List TraceKnock)
    (hold : AreAccepted files (serves page app address turns)) (enough : AreEnough (batch_cost hold.app.manifest.limits.fuel) knocks turns) where
  -- the input is that of the files, and its turns are those of the words
  in-time : (i : AppInput) (most : ℕ) (old new : Told) → old.outer.seen.telling.left ≡ Some knocks
      → IsInputOf (Some files) (serves page app address turns) (Serve i most) → ServesDoor i most TurnsSpent old.outer new.outer → ⊥
  in-time i most old new there contents s = applications_end_in_time s.app most s.how old.outer new.outer knocks there granted s.served s.stops
    where
      loaded : AppOf hold.page_bytes hold.manifest_bytes s.app
      loaded =
          let one = same_bytes i.page hold.page_bytes s.is_app.page (same_content files page hold.page_bytes i.page hold.has_page contents.0.0) s.is_app.is_page in
          let two = same_bytes i.manifest hold.manifest_bytes s.is_app.manifest (same_content files app hold.manifest_bytes i.manifest hold.has_manifest contents.0.1) s.is_app.is_manifest in
          subst (λ m. AppOf hold.page_bytes m s.app) two (subst (λ b. AppOf b s.is_app.manifest s.app) one s.is_app.application)

      same_app : hold.app ≡ s.app
      same_app = has_one_app hold.page_bytes hold.manifest_bytes hold.app s.app hold.is loaded

      granted : AreEnough (batch_cost s.app.manifest.limits.fuel) knocks most
      granted =
          subst (λ (n : ℕ). AreEnough (batch_cost s.app.manifest.limits.fuel) knocks n) (sym contents.1)
          (subst (λ (a : Loaded). AreEnough (batch_cost a.manifest.limits.fuel) knocks turns) same_app enough)

  by-input : (input : Input) (old new : Told) → old.outer.seen.telling.left ≡ Some knocks
      → IsInputOf (Some files) (serves page app address turns) input → Does input TurnsSpent old.outer new.outer → ⊥
  by-input (Check i) old new there contents does = contents
  by-input (Replay i most) old new there contents does = contents
  by-input (Serve i most) old new there contents does = in-time i most old new there contents does
  by-input (Drive i) old new there contents does = contents
  by-input (Generate n) old new there contents does = contents

  not-spent : (words : List (List ℕ)) (old new : Told) → old.held ≡ Some files → old.outer.seen.telling.left ≡ Some knocks
      → IsTask words (serves page app address turns) → Ran TurnsSpent words old new → ⊥
  not-spent words old new held there is ran =
      let works = ran.1 in
      let same : works.reads.task ≡ serves page app address turns = tasks words works.reads.task (serves page app address turns) works.reads.form is in
      by-input works.input old new there
      (subst (λ t. IsInputOf (Some files) t works.input) same (subst (λ h. IsInputOf h works.reads.task works.input) held works.reads.contents)) works.does

pub serves_end_in_time : ServesEndInTime
serves_end_in_time Read words page app address turns old new files knocks held there is hold enough ran = inl refl
serves_end_in_time Outside words page app address turns old new files knocks held there is hold enough ran = inr (inl refl)
serves_end_in_time NoMemory words page app address turns old new files knocks held there is hold enough ran = inr (inr refl)
serves_end_in_time TurnsSpent words page app address turns old new files knocks held there is hold enough ran =
    absurd (not-spent files page app address turns knocks hold enough words old new held there is ran)
serves_end_in_time BadWords words page app address turns old new files knocks held there is hold enough ran =
    let done = accepted_is_done BadWords words (serves page app address turns) old new files held is hold ran in absurd (done.0 refl)
serves_end_in_time BadInput words page app address turns old new files knocks held there is hold enough ran =
    let done = accepted_is_done BadInput words (serves page app address turns) old new files held is hold ran in absurd (done.1 refl)
