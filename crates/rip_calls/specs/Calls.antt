-- The calls that a script makes, and those of them that wait.
use Rattle.std.specs.Prelude.{◌≡◌, ◌≢◌, ℕ, ◌+◌, ◌-◌, ◌*◌, ◌/◌, ◌^◌, ◌<◌, ◌≤◌, List, [], ◌∷◌, ◌++◌, All, length, drop, map, min, slice_get, sum_by, Option, option_map, option_and_then}
use Rattle.std.specs.List.{flat_map}

-- a call that was made: the canonical text of its name and arguments, and the object that is its callback, if it has one
pub record MadeCall : Type 0 where
  pub text : List ℕ
  pub callback : Option ℕ

-- all calls that were made, in order and whole; how many of them were taken; the most bytes that may wait
pub record Calls : Type 0 where
  pub made : List MadeCall
  pub taken : ℕ
  pub limit : ℕ

-- no call yet
abbrev pub none_made : ℕ → Calls
none_made limit = record { made = []; taken = 0; limit = limit }

-- a text holds no line feed
abbrev pub IsOneLine : List ℕ → Type 0
IsOneLine text = All (λ byte. byte ≢ 10) text

-- the bytes that `["",0]` has: no text of a call is shorter
abbrev pub least_text : ℕ
least_text = 6

-- the calls that wait: those after the first `taken`
abbrev pub waiting : Calls → List MadeCall
waiting c = drop c.taken c.made

-- the call that is to be taken next
abbrev pub front : Calls → Option MadeCall
front c = slice_get (waiting c) 0

-- its text
abbrev pub front_text : Calls → Option (List ℕ)
front_text c = option_map (λ m. m.text) (front c)

-- its callback
abbrev pub front_callback : Calls → Option ℕ
front_callback c = option_and_then (λ m. m.callback) (front c)

-- the bytes waiting: the length of each call that waits, with one line feed
abbrev pub used : Calls → ℕ
used c = sum_by (λ m. length m.text + 1) (waiting c)

-- the number of a call is its place among those made, from 1, and stays at the end of 64 bits
abbrev pub number_at : ℕ → ℕ
number_at place = min place (2 ^ 64 - 1)

-- one call more was made
abbrev pub with_call : Calls → List ℕ → Option ℕ → Calls
with_call c text callback = record c { made = c.made ++ record { text = text; callback = callback } ∷ [] }

-- one call more was taken
abbrev pub without_front : Calls → Calls
without_front c = record c { taken = c.taken + 1 }

-- ---- what a queue keeps

-- a call as it waits: its text and one line feed
abbrev pub line_of : List ℕ → List ℕ
line_of text = text ++ 10 ∷ []

abbrev pub texts_of : List MadeCall → List (List ℕ)
texts_of ms = map (λ m. m.text) ms

-- the room for callbacks where so many bytes may wait, since each call takes 7 bytes at least: its text and one line feed
abbrev pub callback_room : ℕ → ℕ
callback_room limit = limit / 7 + 1

-- the bytes are the lines of the calls that wait, of which each is one line and no shorter than a call, and the callbacks
-- are theirs; no more wait than may, and as many were taken at most as were made
pub record IsQueue (c : Calls) (bytes : List ℕ) (ring : List (Option ℕ)) (last taken_last : ℕ) : Type 0 where
  pub lines : bytes ≡ flat_map line_of (texts_of (waiting c))
  pub callbacks : ring ≡ map (λ m. m.callback) (waiting c)
  pub one_line : All IsOneLine (texts_of (waiting c))
  pub least : All (λ text. least_text ≤ length text) (texts_of (waiting c))
  pub within : used c ≤ c.limit
  pub small : c.limit < 2 ^ 32
  pub taken : c.taken ≤ length c.made
  pub number : last ≡ number_at (length c.made)
  pub taken_number : taken_last ≡ number_at c.taken
