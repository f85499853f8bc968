-- What each operation gives, or why it refuses.
use Rattle.std.specs.Prelude.{ℕ, ℤ, pos, negsuc, ◌+◌, ◌+ℤ◌, Bool, true, ◌&&◌, nat_le, nat_eq, List, map, length, drop, Option, Some, None, is_none, Result, Ok, Err, if◌then◌else◌, int_le}
use Rattle.std.specs.Option.{ok_or}
use Rattle.std.specs.List.{filter_map, starts_with}
use Rattle.std.specs.Map.{keys_of}
use Rattle.std.specs.Str.{is_utf8, chars}
use Rattle.rip_base.specs.Text.{encode_utf16_all}
use Rattle.rip_data.specs.Datum.{Tree, null, boolean, number, text, array, Elements, no_elements, element, elements_of, canonical_text}
use Rattle.rip_manifest.specs.declared.function.Operation.{Operation}
use Rattle.rip_manifest.specs.declared.function.Operation.TheVariants.{Get, Put, Add, Take, Push, List as ListKeys}
use Rattle.rip_store.specs.declared.refusal.Refusal.{Refusal}
use Rattle.rip_store.specs.declared.refusal.Refusal.TheVariants.{Arguments, Range, Full}
use Rattle.rip_store.specs.Places.{Place, Stored, value_at, Change, nothing, keep, remove}
use Rattle.rip_store.specs.Args.{one_key, key_and_value, key_and_number, no_key, number_of, list_of}

-- what a call gives that is not refused: a change of the store, and the reply
abbrev pub Outcome : Type 0
Outcome = Change × Tree

-- one step, and the next where it is not refused
infixl 10 ◌>>=◌
abbrev pub ◌>>=◌ : {A B : Type 0} → Result A Refusal → (A → Result B Refusal) → Result B Refusal
Ok a >>= f = f a
Err e >>= f = Err e

-- ---- what a place holds

-- the datum, or null where there is none
abbrev pub or_null : Option Tree → Tree
or_null None = null
or_null (Some d) = d

-- the number at a place: an absent one counts as 0
abbrev pub number_or_zero : Option Tree → Option ℤ
number_or_zero None = Some (pos 0)
number_or_zero (Some d) = number_of d

-- the list at a place: an absent one counts as `[]`
abbrev pub list_or_empty : Option Tree → Option Elements
list_or_empty None = Some no_elements
list_or_empty (Some d) = list_of d

-- ---- limits

-- the place is new and the store has 4,096 already
abbrev pub is_full : Stored → Place → Bool
is_full s p = nat_le 4096 (length s) && is_none (value_at s p)

-- a place gets a datum, unless the store is full
abbrev pub kept : Stored → Place → Tree → Tree → Result Outcome Refusal
kept s p d reply = if is_full s p then Err Full else Ok (keep p d, reply)

-- the sum, where it is a whole number in range
abbrev pub whole_sum : ℤ → ℤ → Option ℤ
whole_sum m n = if int_le (negsuc 9007199254740990) (m +ℤ n) && int_le (m +ℤ n) (pos 9007199254740991) then Some (m +ℤ n) else None

-- the list as a datum, where its text has at most 16,384 bytes
abbrev pub short_list : Elements → Option Tree
short_list es = if nat_le (length (canonical_text (array es))) 16384 then Some (array es) else None

-- ---- lists

-- the list with a datum behind the others
abbrev pub with_last : Elements → Tree → Elements
with_last no_elements d = element d no_elements
with_last (element e es) d = element e (with_last es d)

-- how many elements
abbrev pub count : Elements → ℕ
count no_elements = 0
count (element e es) = count es + 1

-- the bytes are a key: at most 64 bytes of UTF-8
abbrev pub is_key : List ℕ → Bool
is_key bytes = is_utf8 bytes && nat_le (length bytes) 64

-- the key that stands behind the prefix in a place, where there is one
abbrev pub key_behind : Place → Place → Option (List ℕ)
key_behind prefix p = if starts_with nat_eq p prefix && is_key (drop (length prefix) p) then Some (drop (length prefix) p) else None

-- the keys under a prefix, in order of their bytes
abbrev pub keys_under : Place → Stored → List (List ℕ)
keys_under prefix s = filter_map (key_behind prefix) (keys_of s)

-- a key as a text
abbrev pub text_of : List ℕ → Tree
text_of key = text (encode_utf16_all (chars key))

-- ---- the operations

-- the datum at the key
abbrev pub get : Stored → Place → List Tree → Result Outcome Refusal
get s prefix args = do
  p ← ok_or (one_key prefix args) Arguments
  Ok (nothing, or_null (value_at s p))

-- the datum is kept
abbrev pub put : Stored → Place → List Tree → Result Outcome Refusal
put s prefix args = do
  a ← ok_or (key_and_value prefix args) Arguments
  kept s a.0 a.1 (boolean true)

-- the number grows
abbrev pub add : Stored → Place → List Tree → Result Outcome Refusal
add s prefix args = do
  a ← ok_or (key_and_number prefix args) Arguments
  m ← ok_or (number_or_zero (value_at s a.0)) Range
  n ← ok_or (whole_sum m a.1) Range
  kept s a.0 (number n) (number n)

-- the datum at the key, which is given up
abbrev pub take : Stored → Place → List Tree → Result Outcome Refusal
take s prefix args = do
  p ← ok_or (one_key prefix args) Arguments
  Ok (remove p, or_null (value_at s p))

-- the list grows at its end; the reply is its length
abbrev pub push : Stored → Place → List Tree → Result Outcome Refusal
push s prefix args = do
  a ← ok_or (key_and_value prefix args) Arguments
  es ← ok_or (list_or_empty (value_at s a.0)) Range
  d ← ok_or (short_list (with_last es a.1)) Full
  kept s a.0 d (number (pos (count (with_last es a.1))))

-- the keys under the prefix
abbrev pub list : Stored → Place → List Tree → Result Outcome Refusal
list s prefix args = do
  p ← ok_or (no_key prefix args) Arguments
  d ← ok_or (short_list (elements_of (map text_of (keys_under p s)))) Range
  Ok (nothing, d)

-- what an operation gives under a prefix
abbrev pub operate : Operation → Stored → Place → List Tree → Result Outcome Refusal
operate Get = get
operate Put = put
operate Add = add
operate Take = take
operate Push = push
operate ListKeys = list
