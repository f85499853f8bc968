-- What a datum stands for, as JSON (RFC 8259), and its one text.
use Rattle.std.specs.Prelude.{◌≡◌, ℕ, ℤ, pos, negsuc, Bool, List, [], ◌∷◌, map, ⊤}
use Rattle.std.specs.Ordering.{nat_cmp}
use Rattle.std.specs.declared.cmp.Ordering.TheVariants.{Less}
use Rattle.std.specs.Cmp.Lexicographic.{slice_cmp}
use Rattle.std.specs.Str.{encode_utf8_all}
use Rattle.std.specs.Char.Utf16.{utf16_lossy_chars}
use Rattle.rip_base.specs.Whole.{IsWhole}
use Rattle.rip_base.specs.Text.{IsUtf16}
use Rattle.serde_json.specs.Data as json
use Rattle.serde_json.specs.Written.{compact_text}
use Rattle.rip_data.specs.declared.datum.Datum.{Datum, fold-Datum}
use Rattle.rip_data.specs.declared.datum.DatumList.{DatumList, out-DatumList}
use Rattle.rip_data.specs.declared.datum.Datum.TheOpen.{Datum-F, DatumFields-F, DatumList-F}

-- a datum with nothing but its parts: whole numbers, texts in UTF-16 units, elements and fields in order
mutual
  pub data Tree : Type 0 where
    null : Tree
    boolean : Bool → Tree
    number : ℤ → Tree
    text : List ℕ → Tree
    array : Elements → Tree
    object : Fields → Tree

  -- no elements, or a tree and then elements
  pub data Elements : Type 0 where
    no_elements : Elements
    element : Tree → Elements → Elements

  -- no fields, or a name, a tree and then fields
  pub data Fields : Type 0 where
    no_fields : Fields
    field : List ℕ → Tree → Fields → Fields

-- the trees as elements
abbrev pub elements_of : List Tree → Elements
elements_of [] = no_elements
elements_of (t ∷ ts) = element t (elements_of ts)

-- names and trees as fields
abbrev pub fields_of : List (List ℕ × Tree) → Fields
fields_of [] = no_fields
fields_of (f ∷ fs) = field f.0 f.1 (fields_of fs)

-- one level of a datum
abbrev pub tree_step : Datum-F Tree Fields Elements → Tree
tree_step Datum-F.Null = null
tree_step (Datum-F.Bool b) = boolean b
tree_step (Datum-F.Num w) = number w
tree_step (Datum-F.Text u) = text u
tree_step (Datum-F.List l) = array l
tree_step (Datum-F.Fields f) = object f

-- one level of fields
abbrev pub fields_step : DatumFields-F Tree Fields Elements → Fields
fields_step f = fields_of f.fields.items

-- one level of elements
abbrev pub elements_step : DatumList-F Tree Fields Elements → Elements
elements_step l = elements_of l.items.items

-- what a datum stands for
abbrev pub tree_of : Datum → Tree
tree_of = fold-Datum Tree Fields Elements tree_step fields_step elements_step

-- a name and what its datum stands for
abbrev pub field_of : List ℕ × Datum → List ℕ × Tree
field_of f = (f.0, tree_of f.1)

-- the trees of a list of data
abbrev pub trees_in : DatumList → List Tree
trees_in l = map tree_of (out-DatumList l).items.items

-- the UTF-8 of a text (RFC 3629); U+FFFD stands for a surrogate that has no partner
abbrev pub utf8_of : List ℕ → List ℕ
utf8_of units = encode_utf8_all (utf16_lossy_chars units)

-- a whole number as `serde_json` holds it
abbrev pub number_of_whole : ℤ → json.Num
number_of_whole (pos n) = json.unsigned n
number_of_whole (negsuc n) = json.negative (negsuc n)

-- the tree as data of `serde_json`, whose texts are UTF-8
abbrev mutual
  pub data_of : Tree → json.Data
  data_of null = json.null
  data_of (boolean b) = json.boolean b
  data_of (number z) = json.number (number_of_whole z)
  data_of (text u) = json.string (utf8_of u)
  data_of (array ts) = json.array (items_of ts)
  data_of (object fs) = json.object (members_of fs)

  -- the elements as items of `serde_json`
  pub items_of : Elements → json.Items
  items_of no_elements = json.no_items
  items_of (element t ts) = json.item (data_of t) (items_of ts)

  -- the fields as members of `serde_json`
  pub members_of : Fields → json.Members
  members_of no_fields = json.no_members
  members_of (field k t fs) = json.member (utf8_of k) (data_of t) (members_of fs)

-- the canonical text: the compact text of `serde_json`, with no space and the shortest escapes
abbrev pub canonical_text : Tree → List ℕ
canonical_text t = compact_text (data_of t)

-- how deep arrays and objects nest: 1 for `[]`
abbrev pub nesting : Tree → ℕ
nesting t = json.depth (data_of t)

-- the name's bytes come before those of each member's name
abbrev pub IsBeforeAll : List ℕ → json.Members → Type 0
IsBeforeAll k json.no_members = ⊤
IsBeforeAll k (json.member l d ms) = (slice_cmp nat_cmp k l ≡ Less) × IsBeforeAll k ms

-- each name's bytes come before those of the later ones, so that each name is there once
abbrev pub AreInOrder : json.Members → Type 0
AreInOrder json.no_members = ⊤
AreInOrder (json.member k d ms) = IsBeforeAll k ms × AreInOrder ms

-- the tree is well made: numbers in range, texts in UTF-16, the fields in order
abbrev mutual
  pub IsDatum : Tree → Type 0
  IsDatum null = ⊤
  IsDatum (boolean b) = ⊤
  IsDatum (number z) = IsWhole z
  IsDatum (text u) = IsUtf16 u
  IsDatum (array ts) = AreData ts
  IsDatum (object fs) = HaveData fs × AreInOrder (members_of fs)

  -- each element is well made
  pub AreData : Elements → Type 0
  AreData no_elements = ⊤
  AreData (element t ts) = IsDatum t × AreData ts

  -- each name is in UTF-16, and each value well made
  pub HaveData : Fields → Type 0
  HaveData no_fields = ⊤
  HaveData (field k t fs) = IsUtf16 k × IsDatum t × HaveData fs
