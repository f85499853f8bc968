-- How batches ended, as a log says it.
use Rattle.std.specs.Prelude.{◌∷◌, ℕ, List, [], codes, decimal, Option, Some, None, ⊤}
use Rattle.rip_base.specs.declared.report.BadReport.{BadReport}
use Rattle.rip_base.specs.declared.report.BadReport.TheVariants as B
use Rattle.rip_wire.specs.Reasons.{limit_reason, fault_reason, reason_word}
use Rattle.rip_wire.specs.declared.ending.Ending.{Ending}
use Rattle.rip_wire.specs.declared.ending.Ending.TheVariants as E

-- the word for what is wrong with a report
abbrev pub report_word : BadReport → List ℕ
report_word B.Node = codes "node"
report_word B.Control = codes "control"
report_word B.Disabled = codes "disabled"
report_word B.Long = codes "long"
report_word B.Option = codes "option"
report_word B.Number = codes "number"
report_word B.Due = codes "due"

-- the call that was made in the reported one's place, or `none`
abbrev pub made_word : Option (List ℕ) → List ℕ
made_word None = codes "none"
made_word (Some text) = text

-- `ok`, `mismatch I K REPORTED MADE`, `report I KIND`, or the reason and I: the place of the item, from 1, and K the
-- number of the call
abbrev pub ending_words : Option Ending → List (List ℕ)
ending_words None = codes "ok" ∷ []
ending_words (Some (E.Mismatch item number reported made)) = codes "mismatch" ∷ decimal item ∷ decimal number ∷ reported ∷ made_word made ∷ []
ending_words (Some (E.BadReport item kind)) = codes "report" ∷ decimal item ∷ report_word kind ∷ []
ending_words (Some (E.Limit item limit)) = reason_word (limit_reason limit) ∷ decimal item ∷ []
ending_words (Some (E.Fault item fault)) = reason_word (fault_reason fault) ∷ decimal item ∷ []
ending_words (Some (E.Memory item)) = codes "memory" ∷ decimal item ∷ []
ending_words (Some E.Closed) = codes "closed" ∷ []

-- ---- for private clauses

-- a limit, a fault, or want of memory
abbrev pub IsCause : Ending → Type 0
IsCause (E.Mismatch item number reported made) = ⊥
IsCause (E.BadReport item kind) = ⊥
IsCause (E.Limit item limit) = ⊤
IsCause (E.Fault item fault) = ⊤
IsCause (E.Memory item) = ⊤
IsCause E.Closed = ⊥
