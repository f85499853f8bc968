-- Enough turns for the replay of a trace, and for service at a door whose knocks are told.
use Rattle.std.specs.Prelude.{◌≡◌, ◌⊎◌, ℕ, List, Some}
use Rattle.rip_outer.specs.declared.connections.TraceKnock.{TraceKnock}
use Rattle.rip_outer.specs.declared.reading.NamedFile.{NamedFile}
use Rattle.rip_words.specs.Commands.{replays, serves, IsTask}
use Rattle.rip_cli.specs.Laws.{AreAccepted}
use Rattle.rip_cli.specs.Run.{Told, Ran}
use Rattle.rip_cli.specs.declared.status.Status.{Status}
use Rattle.rip_cli.specs.declared.status.Status.TheVariants.{Read, Outside, NoMemory}
use Rattle.rip_headline.specs.Enough.{AreEnough, batch_cost}

-- the files of a replay are accepted, and its turns are enough for the knocks of its trace, by the fuel of its application: it
-- ends with status 0, or where the outside fails or memory is wanting
abbrev pub ReplaysEndInTime : Type 0
ReplaysEndInTime =
    (status : Status) (words : List (List ℕ)) (page app trace : List ℕ) (turns : ℕ) (old new : Told) (files : List NamedFile)
    → old.held ≡ Some files → IsTask words (replays page app trace turns)
    → (hold : AreAccepted files (replays page app trace turns))
    → AreEnough (batch_cost hold.0.app.manifest.limits.fuel) hold.1.given.knocks turns
    → Ran status words old new
    → (status ≡ Read) ⊎ (status ≡ Outside) ⊎ (status ≡ NoMemory)

-- the files of a service are accepted, its door tells these knocks, and its turns are enough for them, by the fuel of its
-- application: it ends with status 0, or where the outside fails or memory is wanting
abbrev pub ServesEndInTime : Type 0
ServesEndInTime =
    (status : Status) (words : List (List ℕ)) (page app address : List ℕ) (turns : ℕ) (old new : Told) (files : List NamedFile)
    (knocks : List TraceKnock)
    → old.held ≡ Some files → old.outer.seen.telling.left ≡ Some knocks → IsTask words (serves page app address turns)
    → (hold : AreAccepted files (serves page app address turns))
    → AreEnough (batch_cost hold.app.manifest.limits.fuel) knocks turns
    → Ran status words old new
    → (status ≡ Read) ⊎ (status ≡ Outside) ⊎ (status ≡ NoMemory)
