-- Replays whose turns are enough come to their end.
use Rattle.std.proofs.Common.{◌≡◌, inl, inr, ℕ, ◌<◌, ◌≤◌, List, length, Option, None, Some, refl, sym, ap, subst, arith}
use Rattle.std.specs.Prelude.{IsSomeAnd}
use Rattle.rip_outer.specs.Reading.{contents_of, longest_file}
use Rattle.rip_outer.specs.declared.reading.NamedFile.{NamedFile}
use Rattle.rip_words.specs.Commands.{replays, IsTask}
use Rattle.rip_words.proofs.WordLemmas.{tasks}
use Rattle.rip_app.specs.App.{Loaded, AppOf}
use Rattle.rip_app.proofs.Answering.{has_one_app}
use Rattle.rip_trace.specs.Traces.{Given, IsTrace}
use Rattle.rip_trace.proofs.TraceLemmas.{traces}
use Rattle.rip_cli.specs.Input.{IsContentOf, IsInputOf}
use Rattle.rip_cli.specs.Laws.{HasBytes, AreAccepted}
use Rattle.rip_cli.specs.Run.{Told, Ran}
use Rattle.rip_cli.specs.Service.{Does, ServesTrace, brought}
use Rattle.rip_cli.specs.declared.input.Content.{Content}
use Rattle.rip_cli.specs.declared.input.Content.TheVariants.{Bytes, TooLong}
use Rattle.rip_cli.specs.declared.input.ThreeFiles.{ThreeFiles}
use Rattle.rip_cli.specs.declared.input.Input.{Input}
use Rattle.rip_cli.specs.declared.input.Input.TheVariants.{Check, Replay, Serve, Drive, Generate}
use Rattle.rip_cli.specs.declared.status.Status.TheVariants.{Read, BadWords, BadInput, TurnsSpent, Outside, NoMemory}
use Rattle.rip_cli.proofs.Accepting.{accepted_is_done}
use Rattle.rip_headline.specs.Enough.{AreEnough, batch_cost}
use Rattle.rip_headline.specs.Replays.{ReplaysEndInTime}
use Rattle.rip_headline.proofs.InTime.{applications_end_in_time}

-- what was read of a file is what it holds
pub same_content : (files : List NamedFile) (name bytes : List ℕ) (content : Content) → HasBytes files name bytes → IsContentOf (Some files) name content → content ≡ Bytes bytes
same_content files name bytes (Bytes other) has is = let same : other ≡ bytes = cc in ap Bytes same
same_content files name bytes TooLong has is = absurd (short (contents_of files name) has.0 is)
  where
    short : (x : Option (List ℕ)) → x ≡ Some bytes → IsSomeAnd x (λ b. longest_file < length b) → ⊥
    short None held long = cc
    short (Some b) held long = let same : b ≡ bytes = cc in let small : length bytes ≤ longest_file = has.1 in let much : longest_file < length b = long in omega (arith, ap length same)

pub same_bytes : (content : Content) (bytes other : List ℕ) → content ≡ Bytes bytes → content ≡ Bytes other → other ≡ bytes
same_bytes content bytes other one two = cc

module _ (files : List NamedFile) (page app trace : List ℕ) (turns : ℕ) (hold : AreAccepted files (replays page app trace turns)) where
  -- the input is that of the files, and its turns are those of the words
  in-time : (i : ThreeFiles) (most : ℕ) (old new : Told) → IsInputOf (Some files) (replays page app trace turns) (Replay i most)
      → AreEnough (batch_cost hold.0.app.manifest.limits.fuel) hold.1.given.knocks turns
      → ServesTrace i most TurnsSpent old.outer new.outer → ⊥
  in-time i most old new contents enough s =
      applications_end_in_time s.app most s.how (brought s.given old.outer.seen.held old.outer.sink_faults) (let r = s.served in r.end) s.given.knocks refl granted
      (let r = s.served in r.served) s.stops
    where
      loaded : AppOf hold.0.page_bytes hold.0.manifest_bytes s.app
      loaded =
          let one = same_bytes i.app.page hold.0.page_bytes s.is_app.page (same_content files page hold.0.page_bytes i.app.page hold.0.has_page contents.0.0.0) s.is_app.is_page in
          let two = same_bytes i.app.manifest hold.0.manifest_bytes s.is_app.manifest (same_content files app hold.0.manifest_bytes i.app.manifest hold.0.has_manifest contents.0.0.1) s.is_app.is_manifest in
          subst (λ m. AppOf hold.0.page_bytes m s.app) two (subst (λ b. AppOf b s.is_app.manifest s.app) one s.is_app.application)

      same_app : hold.0.app ≡ s.app
      same_app = has_one_app hold.0.page_bytes hold.0.manifest_bytes hold.0.app s.app hold.0.is loaded

      gives : IsTrace hold.1.bytes s.given
      gives =
          let one = same_bytes i.third hold.1.bytes s.gives.trace (same_content files trace hold.1.bytes i.third hold.1.has contents.0.1) s.gives.is_trace in
          subst (λ b. IsTrace b s.given) one s.gives.gives

      same_given : hold.1.given ≡ s.given
      same_given = traces hold.1.bytes hold.1.given s.given hold.1.is gives

      granted : AreEnough (batch_cost s.app.manifest.limits.fuel) s.given.knocks most
      granted =
          subst (λ (n : ℕ). AreEnough (batch_cost s.app.manifest.limits.fuel) s.given.knocks n) (sym contents.1)
          (subst (λ (g : Given). AreEnough (batch_cost s.app.manifest.limits.fuel) g.knocks turns) same_given
          (subst (λ (a : Loaded). AreEnough (batch_cost a.manifest.limits.fuel) hold.1.given.knocks turns) same_app enough))

  by-input : (input : Input) (old new : Told) → IsInputOf (Some files) (replays page app trace turns) input
      → AreEnough (batch_cost hold.0.app.manifest.limits.fuel) hold.1.given.knocks turns → Does input TurnsSpent old.outer new.outer → ⊥
  by-input (Check i) old new contents enough does = contents
  by-input (Replay i most) old new contents enough does = in-time i most old new contents enough does
  by-input (Serve i most) old new contents enough does = contents
  by-input (Drive i) old new contents enough does = contents
  by-input (Generate n) old new contents enough does = contents

  not-spent : (words : List (List ℕ)) (old new : Told) → old.held ≡ Some files → IsTask words (replays page app trace turns)
      → AreEnough (batch_cost hold.0.app.manifest.limits.fuel) hold.1.given.knocks turns → Ran TurnsSpent words old new → ⊥
  not-spent words old new held is enough ran =
      let works = ran.1 in
      let same : works.reads.task ≡ replays page app trace turns = tasks words works.reads.task (replays page app trace turns) works.reads.form is in
      by-input works.input old new
      (subst (λ t. IsInputOf (Some files) t works.input) same (subst (λ h. IsInputOf h works.reads.task works.input) held works.reads.contents)) enough works.does

pub replays_end_in_time : ReplaysEndInTime
replays_end_in_time Read words page app trace turns old new files held is hold enough ran = inl refl
replays_end_in_time Outside words page app trace turns old new files held is hold enough ran = inr (inl refl)
replays_end_in_time NoMemory words page app trace turns old new files held is hold enough ran = inr (inr refl)
replays_end_in_time TurnsSpent words page app trace turns old new files held is hold enough ran =
    absurd (not-spent files page app trace turns hold words old new held is enough ran)
replays_end_in_time BadWords words page app trace turns old new files held is hold enough ran =
    let done = accepted_is_done BadWords words (replays page app trace turns) old new files held is hold ran in absurd (done.0 refl)
replays_end_in_time BadInput words page app trace turns old new files held is hold enough ran =
    let done = accepted_is_done BadInput words (replays page app trace turns) old new files held is hold ran in absurd (done.1 refl)
