-- A store, and what a call does to it.
use Rattle.std.specs.Prelude.{ℕ, List, Option}
use Rattle.std.specs.Ordering.{nat_cmp}
use Rattle.std.specs.declared.cmp.Ordering.{Ordering}
use Rattle.std.specs.Cmp.Lexicographic.{slice_cmp}
use Rattle.std.specs.List.Sorted.{IsStrictlySortedBy}
use Rattle.std.specs.Map.{keys_of, lookup, remove_entry}
use Rattle.std.specs.BTreeMap.{insert_entry, is_at}
use Rattle.rip_data.specs.Datum.{Tree}

-- a place of a store: the bytes of a prefix and of a key
abbrev pub Place : Type 0
Place = List ℕ

-- a store: places and the data that they hold, in the order of the places' bytes
abbrev pub Stored : Type 0
Stored = List (Place × Tree)

-- how two places compare: byte by byte
abbrev pub compare : Place → Place → Ordering
compare p q = slice_cmp nat_cmp p q

-- the places stand in order, each once
abbrev pub IsStore : Stored → Type 0
IsStore s = IsStrictlySortedBy compare (keys_of s)

-- the datum at a place
abbrev pub value_at : Stored → Place → Option Tree
value_at s p = lookup (is_at (compare p)) s

-- what a call does to a store: nothing, a place gets a datum, or a place is given up
pub data Change : Type 0 where
  nothing : Change
  keep : Place → Tree → Change
  remove : Place → Change

-- the store after a change
abbrev pub changed : Stored → Change → Stored
changed s nothing = s
changed s (keep p d) = insert_entry compare s p d
changed s (remove p) = remove_entry (is_at (compare p)) s
