-- The args of a call, as each operation asks for them.
use Rattle.std.specs.Prelude.{ℤ, List, [], ◌∷◌, ◌++◌, length, map, nat_le, Option, Some, None, option_map, option_and_then, if◌then◌else◌}
use Rattle.rip_data.specs.Datum.{Tree, null, boolean, number, text, array, object, Elements, tree_of, utf8_of}
use Rattle.rip_data.specs.declared.datum.DatumList.{DatumList, out-DatumList}
use Rattle.rip_store.specs.Places.{Place}

-- the args that a list of data stands for
abbrev pub args_of : DatumList → List Tree
args_of l = map tree_of (out-DatumList l).items.items

-- the place that a datum names behind a prefix, where the datum is a key: a text of at most 64 bytes in UTF-8
abbrev pub place_of : Place → Tree → Option Place
place_of prefix null = None
place_of prefix (boolean b) = None
place_of prefix (number z) = None
place_of prefix (text key) = if nat_le (length (utf8_of key)) 64 then Some (prefix ++ utf8_of key) else None
place_of prefix (array es) = None
place_of prefix (object fs) = None

-- the number that a datum is
abbrev pub number_of : Tree → Option ℤ
number_of null = None
number_of (boolean b) = None
number_of (number z) = Some z
number_of (text u) = None
number_of (array es) = None
number_of (object fs) = None

-- the list that a datum is
abbrev pub list_of : Tree → Option Elements
list_of null = None
list_of (boolean b) = None
list_of (number z) = None
list_of (text u) = None
list_of (array es) = Some es
list_of (object fs) = None

-- args `[key]`: the place
abbrev pub one_key : Place → List Tree → Option Place
one_key prefix [] = None
one_key prefix (k ∷ []) = place_of prefix k
one_key prefix (k ∷ v ∷ ts) = None

-- args `[key,v]`: the place and the datum
abbrev pub key_and_value : Place → List Tree → Option (Place × Tree)
key_and_value prefix [] = None
key_and_value prefix (k ∷ []) = None
key_and_value prefix (k ∷ v ∷ []) = option_map (λ p. (p, v)) (place_of prefix k)
key_and_value prefix (k ∷ v ∷ t ∷ ts) = None

-- args `[key,n]`: the place and the number
abbrev pub key_and_number : Place → List Tree → Option (Place × ℤ)
key_and_number prefix args = option_and_then (λ a. option_map (λ n. (a.0, n)) (number_of a.1)) (key_and_value prefix args)

-- args `[]`: the prefix
abbrev pub no_key : Place → List Tree → Option Place
no_key prefix [] = Some prefix
no_key prefix (t ∷ ts) = None
