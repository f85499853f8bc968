-- What a clock and random words in memory give.
use Rattle.std.specs.Prelude.{◌≤◌, ◌<◌, ◌+◌, ◌-◌, ◌%◌, ◌^◌, ℕ, if◌then◌else◌, nat_lt, List, length, get_or, min, All}

-- a clock in memory: its moments, and the place of the next one
pub record ClockState : Type 0 where
  pub moments : List ℕ
  pub place : ℕ

-- a clock as it is made
abbrev pub new_clock : List ℕ → ClockState
new_clock moments = record { moments = moments; place = 0 }

-- the moment of call j from now on, from 0: the next of the list, and past it the last, or 0 where the list is empty
abbrev pub moment_at : ClockState → ℕ → ℕ
moment_at s j = get_or s.moments (min (s.place + j) (length s.moments - 1)) 0

-- what a clock keeps: its moments are whole milliseconds below 2^53, and it never passes the last of them
pub record IsClock (moments : List ℕ) (place : ℕ) : Type 0 where
  pub below : All (λ moment. moment < 2 ^ 53) moments
  pub within : place ≤ length moments - 1

-- words in memory: those of a list, the place of the next one, and how many were given, counted modulo 2^64
pub record WordsState : Type 0 where
  pub words : List ℕ
  pub place : ℕ
  pub given : ℕ

-- words as they are made
abbrev pub new_words : List ℕ → WordsState
new_words words = record { words = words; place = 0; given = 0 }

-- the word of call j from now on, from 0: the next of the list, and past it the number of the word, counted from 1
-- modulo 2^64
abbrev pub word_at : WordsState → ℕ → ℕ
word_at s j =
    (if nat_lt (s.place + j) (length s.words) then get_or s.words (s.place + j) 0 else (s.given + j + 1) % 2 ^ 64)
