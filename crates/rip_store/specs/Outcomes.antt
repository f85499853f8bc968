-- What the private functions give, as the definitions tell it.
use Rattle.std.specs.Prelude.{◌≡◌, ℕ, ℤ, pos, min, List, [], ◌∷◌, ◌++◌, length, map, ⊤, Option, Some, None, Result, Ok, Err, if◌then◌else◌}
use Rattle.std.specs.Option.{ok_or}
use Rattle.rip_data.specs.Datum.{Tree, null, boolean, number, text, array, object, Elements, tree_of, elements_of, canonical_text}
use Rattle.rip_data.specs.declared.datum.DatumList.{DatumList, out-DatumList}
use Rattle.rip_store.specs.declared.refusal.Refusal.{Refusal}
use Rattle.rip_store.specs.declared.refusal.Refusal.TheVariants.{Range, Full}
use Rattle.rip_store.specs.declared.failure.Failure.{Failure}
use Rattle.rip_store.specs.declared.failure.Failure.TheVariants.{Refused, Memory}
use Rattle.rip_store.specs.declared.outcome.Write.{Write}
use Rattle.rip_store.specs.declared.outcome.Write.TheVariants.{Nothing, Keep, Push, Remove}
use Rattle.rip_store.specs.declared.outcome.Done.{Done}
use Rattle.rip_store.specs.declared.outcome.ListSize.{ListSize}
use Rattle.rip_store.specs.declared.store.Replies.{Replies}
use Rattle.rip_store.specs.Places.{Place, Stored, value_at, Change, nothing, keep, remove}
use Rattle.rip_store.specs.Operations.{Outcome, ◌>>=◌, is_key, text_of, list_or_empty, short_list, with_last, count}

-- a list with a datum behind the others; another datum stays as it is
abbrev pub with_item : Tree → Tree → Tree
with_item null d = null
with_item (boolean b) d = boolean b
with_item (number z) d = number z
with_item (text u) d = text u
with_item (array es) d = array (with_last es d)
with_item (object fs) d = object fs

-- the place gets the list with a datum behind the others, where there is a list
abbrev pub pushed : Place → Option Elements → Tree → Change
pushed p None d = nothing
pushed p (Some es) d = keep p (array (with_last es d))

-- the change that a write makes to a store; an absent list counts as `[]`
abbrev pub change_of : Stored → Write → Change
change_of s Nothing = nothing
change_of s (Keep p d) = keep p.items (tree_of d)
change_of s (Push p d) = pushed p.items (list_or_empty (value_at s p.items)) (tree_of d)
change_of s (Remove p) = remove p.items

-- a change and a reply
abbrev pub outcome_of : Stored → Done → Outcome
outcome_of s d = (change_of s d.write, tree_of d.reply)

-- the list has so many elements, and so many bytes of text
pub record IsSizeOf (es : Elements) (size : ListSize) : Type 0 where
  pub count : size.count ≡ count es
  pub length : size.length ≡ min (length (canonical_text (array es))) 18446744073709551615

-- how many elements a list has with one more, where there is a list and its text stays short enough
abbrev pub longer_count : Option Elements → Tree → Result ℤ Refusal
longer_count o d = do
  es ← ok_or o Range
  t ← ok_or (short_list (with_last es d)) Full
  Ok (pos (count (with_last es d)))

-- a failure is the refusal that is due, or want of memory
abbrev pub IsCause : {A : Type 0} → Failure → Result A Refusal → Type 0
IsCause (Refused e) r = r ≡ Err e
IsCause Memory r = ⊤

-- bytes as a text, where they are a key
abbrev pub key_text : List ℕ → Option Tree
key_text bytes = if is_key bytes then Some (text_of bytes) else None

-- the data with one more, if there is one
abbrev pub with_any : List Tree → Option Tree → List Tree
with_any ds None = ds
with_any ds (Some d) = ds ++ d ∷ []

-- the elements of a list of data
abbrev pub elements_in : DatumList → Elements
elements_in l = elements_of (map tree_of (out-DatumList l).items.items)

-- the reply, three times
pub record AreReplies (reply : Tree) (r : Replies) : Type 0 where
  pub logged : tree_of r.logged ≡ reply
  pub sent : tree_of r.sent ≡ reply
  pub kept : tree_of r.kept ≡ reply
