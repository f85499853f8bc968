-- The lines of a trace that say what clients sent, each with its line feed.
use Rattle.std.specs.Prelude.{ℕ, zero, suc, List, [], ◌++◌, codes, decimal}
use Rattle.rip_wire.specs.Batches.{Contents, batch_text}
use Rattle.rip_wire.specs.Reasons.{reason_word}
use Rattle.rip_wire.specs.declared.ending.Reason.{Reason}

-- a session opens on connection C: `open C`, `say C get`
abbrev pub opening_lines : ℕ → List ℕ
opening_lines c = codes "open " ++ (decimal c ++ (codes "\nsay " ++ (decimal c ++ codes " get\n")))

-- session S sends a batch on connection C: `say C e S BODY`
abbrev pub batch_line : ℕ → ℕ → Contents → List ℕ
batch_line c s b = codes "say " ++ (decimal c ++ (codes " e " ++ (decimal s ++ (codes " " ++ (batch_text b ++ codes "\n")))))

-- nothing comes: `quiet`, so many times
abbrev pub quiet_lines : ℕ → List ℕ
quiet_lines zero = []
quiet_lines (suc n) = codes "quiet\n" ++ quiet_lines n

-- a session ended so at the gesture of a line: `# ended REASON LINE`
abbrev pub ended_line : Reason → ℕ → List ℕ
ended_line reason line = codes "# ended " ++ (reason_word reason ++ (codes " " ++ (decimal line ++ codes "\n")))
