-- Histories, and their text, the log.
use Rattle.std.specs.Prelude.{◌≡◌, ◌≢◌, ℕ, ◌+◌, ◌++◌, List, [], length, ⊤}
use Rattle.std.specs.List.{flat_map, AllByRecursion}
use Rattle.rip_log.specs.Entries.{Recorded, entry_text}
use Rattle.rip_log.specs.Ranges.{IsRecorded}
use Rattle.rip_log.specs.declared.error.LogRefusal.{LogRefusal}
use Rattle.rip_log.specs.declared.error.LogRefusal.TheVariants.{Line, Memory}

-- the log of a history: the lines of its entries in order
abbrev pub history_text : List Recorded → List ℕ
history_text = flat_map entry_text

-- a history whose entries are in range
abbrev pub IsHistory : List Recorded → Type 0
IsHistory = AllByRecursion IsRecorded

-- the first line that is no entry's: the text begins with the lines of entries in range, as many as stand before that
-- line, which is counted from 1; and behind them something stands that begins with the line of no entry in range
pub record IsRefusedAt (text : List ℕ) (line : ℕ) : Type 0 where
  pub before : List Recorded
  pub behind : List ℕ
  pub in_range : IsHistory before
  pub is : text ≡ history_text before ++ behind
  pub number : line ≡ length before + 1
  pub some : behind ≢ []
  pub none : (r : Recorded) (rest : List ℕ) → IsRecorded r → behind ≢ entry_text r ++ rest

-- two histories in range with one log are equal
abbrev pub LogTellsHistory : Type 0
LogTellsHistory = (g h : List Recorded) → IsHistory g → IsHistory h → history_text g ≡ history_text h → g ≡ h

-- a text is refused at one line at most, and not where it is a log
pub record RefusalIsOne : Type 0 where
  pub line : (text : List ℕ) (m n : ℕ) → IsRefusedAt text m → IsRefusedAt text n → m ≡ n
  pub no_log : (h : List Recorded) (n : ℕ) → IsHistory h → ¬ IsRefusedAt (history_text h) n

-- why a text was refused: at its first line that is no entry's, or for want of memory, which may come at any text
abbrev pub IsRefusal : List ℕ → LogRefusal → Type 0
IsRefusal text (Line n) = IsRefusedAt text n
IsRefusal text Memory = ⊤
