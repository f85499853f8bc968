-- What a replay or a service of an application puts.
use Rattle.std.proofs.Common.{◌≡◌, ◌⊎◌, inl, inr, ℕ, List, Some, sym, subst}
use Rattle.rip_outer.specs.declared.reading.NamedFile.{NamedFile}
use Rattle.rip_words.specs.Commands.{replays, serves}
use Rattle.rip_app.specs.App.{Loaded}
use Rattle.rip_trace.specs.Traces.{Given, IsTrace}
use Rattle.rip_trace.proofs.TraceLemmas.{traces}
use Rattle.rip_server.specs.Turning.{Outer}
use Rattle.rip_serve.specs.declared.serving.Stop.{Stop}
use Rattle.rip_serve.specs.declared.serving.Stop.TheVariants as stop
use Rattle.rip_law_server.specs.Begun.{BeginsLegal}
use Rattle.rip_law_server.proofs.ServeLemmas.{served_begins_legal}
use Rattle.rip_session.specs.Lawful.{app_is_lawful}
use Rattle.rip_serve.specs.Sites.{ServesApp, site_of_app}
use Rattle.rip_cli.specs.Input.{IsInputOf}
use Rattle.rip_cli.specs.Laws.{AreAccepted}
use Rattle.rip_cli.specs.Run.{Told}
use Rattle.rip_cli.specs.Service.{Does, IsStop, ServesDoor, ServesTrace, brought}
use Rattle.rip_cli.specs.declared.input.AppInput.{AppInput}
use Rattle.rip_cli.specs.declared.input.Input.{Input}
use Rattle.rip_cli.specs.declared.input.Input.TheVariants.{Check, Drive, Generate, Replay, Serve}
use Rattle.rip_cli.specs.declared.input.ThreeFiles.{ThreeFiles}
use Rattle.rip_cli.specs.declared.status.Status.{Status}
use Rattle.rip_cli.specs.declared.status.Status.TheVariants.{BadInput, BadWords, NoMemory, Outside, Read, TurnsSpent}
use Rattle.rip_headline.specs.Prefixed.{PutsLegal, ReplayPutsLegal, ReplaysBeginLegal, ServesBeginLegal, StopsFirst}
use Rattle.rip_headline.proofs.Accepted.{DidTask, app_of_files, first_or_did, same_bytes, same_content}
use Rattle.rip_headline.proofs.Rises.{applications_rise}

begins : (app : Loaded) (most : ℕ) (how : Stop) (old new : Outer) → ServesApp app most how old new → BeginsLegal (site_of_app app) most how old new
begins app most how old new s = served_begins_legal (site_of_app app) most how old new (app_is_lawful app) (applications_rise app) s.serves

puts : (status : Status) (app : Loaded) (most : ℕ) (how : Stop) (old new : Outer) → IsStop status how → ServesApp app most how old new
    → PutsLegal status app most old new
puts Read app most how old new is s = begins app most stop.Idle old new (subst (λ (h : Stop). ServesApp app most h old new) is s)
puts BadWords app most how old new is s = absurd is
puts BadInput app most how old new is s = absurd is
puts TurnsSpent app most how old new is s = begins app most stop.TurnsSpent old new (subst (λ (h : Stop). ServesApp app most h old new) is s)
puts Outside app most how old new is s = begins app most stop.Outside old new (subst (λ (h : Stop). ServesApp app most h old new) is s)
puts NoMemory app most how old new is s = begins app most stop.Memory old new (subst (λ (h : Stop). ServesApp app most h old new) is s)

-- ---- a replay

module _ (files : List NamedFile) (page app trace : List ℕ) (turns : ℕ) (hold : AreAccepted files (replays page app trace turns)) where
  replayed : (status : Status) (i : ThreeFiles) (most : ℕ) (old new : Outer) → IsInputOf (Some files) (replays page app trace turns) (Replay i most)
      → ServesTrace i most status old new → ReplayPutsLegal status hold.0.app hold.1.given turns old new
  replayed status i most old new contents s =
      subst (λ (a : Loaded). ReplayPutsLegal status a hold.1.given turns old new) (sym same_app)
      (subst (λ (g : Given). ReplayPutsLegal status s.app g turns old new) (sym same_given)
      (subst (λ (n : ℕ). ReplayPutsLegal status s.app s.given n old new) contents.1
      (let r = s.served in record {
        end = r.end;
        legal = puts status s.app most s.how (brought s.given old.seen.held old.sink_faults) r.end s.stops r.served;
        put = r.put;
      })))
    where
      same_app : hold.0.app ≡ s.app
      same_app = app_of_files files page app hold.0 i.app s.app contents.0.0 s.is_app

      gives : IsTrace hold.1.bytes s.given
      gives =
          let one = same_bytes i.third hold.1.bytes s.gives.trace (same_content files trace hold.1.bytes i.third hold.1.has contents.0.1) s.gives.is_trace in
          subst (λ b. IsTrace b s.given) one s.gives.gives

      same_given : hold.1.given ≡ s.given
      same_given = traces hold.1.bytes hold.1.given s.given hold.1.is gives

  replay-by : (status : Status) (input : Input) (old new : Outer) → IsInputOf (Some files) (replays page app trace turns) input
      → Does input status old new → ReplayPutsLegal status hold.0.app hold.1.given turns old new
  replay-by status (Check i) old new contents does = absurd contents
  replay-by status (Replay i most) old new contents does = replayed status i most old new contents does
  replay-by status (Serve i most) old new contents does = absurd contents
  replay-by status (Drive i) old new contents does = absurd contents
  replay-by status (Generate n) old new contents does = absurd contents

  replay-any : (status : Status) (old new : Told) → StopsFirst status old.outer new.outer ⊎ DidTask files (replays page app trace turns) status old new
      → StopsFirst status old.outer new.outer ⊎ ReplayPutsLegal status hold.0.app hold.1.given turns old.outer new.outer
  replay-any status old new (inl first) = inl first
  replay-any status old new (inr did) = inr (replay-by status did.input old.outer new.outer did.contents did.does)

pub replays_begin_legal : ReplaysBeginLegal
replays_begin_legal status words page app trace turns old new files held is hold ran =
    replay-any files page app trace turns hold status old new (first_or_did words (replays page app trace turns) old new files held is hold status ran)

-- ---- a service

module _ (files : List NamedFile) (page app address : List ℕ) (turns : ℕ) (hold : AreAccepted files (serves page app address turns)) where
  served : (status : Status) (i : AppInput) (most : ℕ) (old new : Outer) → IsInputOf (Some files) (serves page app address turns) (Serve i most)
      → ServesDoor i most status old new → PutsLegal status hold.app turns old new
  served status i most old new contents s =
      subst (λ (a : Loaded). PutsLegal status a turns old new) (sym (app_of_files files page app hold i s.app contents.0 s.is_app))
      (subst (λ (n : ℕ). PutsLegal status s.app n old new) contents.1 (puts status s.app most s.how old new s.stops s.served))

  serve-by : (status : Status) (input : Input) (old new : Outer) → IsInputOf (Some files) (serves page app address turns) input
      → Does input status old new → PutsLegal status hold.app turns old new
  serve-by status (Check i) old new contents does = absurd contents
  serve-by status (Replay i most) old new contents does = absurd contents
  serve-by status (Serve i most) old new contents does = served status i most old new contents does
  serve-by status (Drive i) old new contents does = absurd contents
  serve-by status (Generate n) old new contents does = absurd contents

  serve-any : (status : Status) (old new : Told) → StopsFirst status old.outer new.outer ⊎ DidTask files (serves page app address turns) status old new
      → StopsFirst status old.outer new.outer ⊎ PutsLegal status hold.app turns old.outer new.outer
  serve-any status old new (inl first) = inl first
  serve-any status old new (inr did) = inr (serve-by status did.input old.outer new.outer did.contents did.does)

pub serves_begin_legal : ServesBeginLegal
serves_begin_legal status words page app address turns old new files held is hold ran =
    serve-any files page app address turns hold status old new (first_or_did words (serves page app address turns) old new files held is hold status ran)
