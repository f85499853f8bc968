-- Which data is read of bytes, and which refusal is answered.
use Rattle.std.specs.Prelude.{ℕ, negsuc, Bool, true, false, ◌&&◌, nat_le, List, length, if◌then◌else◌, Option, Some, None, Result, Ok, Err}
use Rattle.std.specs.Prelude.{int_lt}
use Rattle.std.specs.Option.{option_or}
use Rattle.std.specs.Str.{is_utf8}
use Rattle.serde_json.specs.Data.{Num, unsigned, negative, float, Data, null, boolean, number, string, array, object, Items, no_items, item, Members, no_members, member, depth}
use Rattle.serde_json.specs.Read.{read}
use Rattle.serde_json.specs.Written.{compact_text}
use Rattle.rip_data.specs.declared.error.DataError.{DataError}
use Rattle.rip_data.specs.declared.error.DataError.TheVariants.{Syntax, NotWhole, TooDeep, DataTooLong}

-- the number is spelled as a whole number of absolute value at most 2^53 - 1: what `1.0`, `1e2` and `-0` spell is a float
abbrev pub is_whole : Num → Bool
is_whole (unsigned n) = nat_le n 9007199254740991
is_whole (negative z) = int_lt (negsuc 9007199254740991) z
is_whole (float x) = false

-- each number of the value is
abbrev mutual
  pub all_whole : Data → Bool
  all_whole null = true
  all_whole (boolean b) = true
  all_whole (number n) = is_whole n
  all_whole (string s) = true
  all_whole (array ds) = items_whole ds
  all_whole (object ms) = members_whole ms

  -- each number of the items is
  pub items_whole : Items → Bool
  items_whole no_items = true
  items_whole (item d ds) = all_whole d && items_whole ds

  -- each number of the members is
  pub members_whole : Members → Bool
  members_whole no_members = true
  members_whole (member k d ms) = all_whole d && members_whole ms

-- why a value is refused, whatever its length: first for its numbers, then for its nesting
abbrev pub refusal_long : Data → Option DataError
refusal_long d = if all_whole d then if nat_le (depth d) 8 then None else Some TooDeep else Some NotWhole

-- the canonical text of the value is too long
abbrev pub refusal_of_length : Data → Option DataError
refusal_of_length d = if nat_le (length (compact_text d)) 16384 then None else Some DataTooLong

-- why a value is refused
abbrev pub refusal : Data → Option DataError
refusal d = option_or (refusal_long d) (refusal_of_length d)

-- the value that the bytes are, as `serde_json` reads UTF-8; of repeated members the last is kept
abbrev pub value_of : List ℕ → Option Data
value_of bytes = if is_utf8 bytes then read bytes else None

-- the value, unless there is a refusal
abbrev pub unless_refused : Option DataError → Data → Result Data DataError
unless_refused None d = Ok d
unless_refused (Some e) d = Err e

-- the answer for data that may not be there: Syntax, or its refusal, or the data
abbrev pub judged : (Data → Option DataError) → Option Data → Result Data DataError
judged refused None = Err Syntax
judged refused (Some d) = unless_refused (refused d) d

-- what is answered for the bytes
abbrev pub answer : List ℕ → Result Data DataError
answer bytes = judged refusal (value_of bytes)

-- what is answered where the length has no limit
abbrev pub answer_long : List ℕ → Result Data DataError
answer_long bytes = judged refusal_long (value_of bytes)
