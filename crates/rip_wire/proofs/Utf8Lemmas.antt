-- The text of a tree is UTF-8.
use Rattle.std.proofs.Common.{◌≡◌, ℕ, suc, ℤ, pos, negsuc, List, [], ◌∷◌, ◌++◌, Bool, true, false, IsUtf8, refl, ap, subst, arith}
use Rattle.std.proofs.lemmas.Int.{ints}
use Rattle.std.proofs.lemmas.Str.{IsUtf8-append, IsUtf8-nil, IsUtf8-from_ascii}
use Rattle.std.proofs.lemmas.Fmt.{IsAscii-decimal, IsAscii-signed}
use Rattle.json.specs.Print.{quoted}
use Rattle.json.proofs.Printed.Utf8.{are_ascii, IsUtf8-are_ascii, IsUtf8-quoted, IsUtf8-boolean}
use Rattle.serde_json.specs.Written.{compact_text, items_text, members_text, comma_if, number_text}
use Rattle.rip_base.specs.Whole.{IsWhole}
use Rattle.rip_base.specs.Text.{IsUtf16}
use Rattle.rip_data.specs.Datum.{Tree, Elements, no_elements, element, Fields, no_fields, field, utf8_of, number_of_whole, data_of, items_of, members_of, IsDatum, AreData, HaveData}
use Rattle.rip_data.specs.Datum as tree
use Rattle.rip_data.proofs.DataLemmas.{IsSameText-utf8_of}
use Rattle.rip_wire.specs.Batches.{Contents, batch_text, IsBatch}
use Rattle.rip_wire.proofs.TreeLemmas.{batch_tree, batch_data, batch_datum}

quoted-utf8 : (u : List ℕ) → IsUtf16 u → IsUtf8 (quoted (utf8_of u))
quoted-utf8 u h = let same = IsSameText-utf8_of u h in IsUtf8-quoted (utf8_of u) (same.characters, (same.are, same.in_bytes))

one : (x : ℕ) (xs : List ℕ) → are_ascii (x ∷ []) ≡ true → IsUtf8 xs → IsUtf8 (x ∷ xs)
one x xs e u = IsUtf8-append (x ∷ []) xs (IsUtf8-are_ascii (x ∷ []) e) u

comma-utf8 : (later : Bool) → IsUtf8 (comma_if later)
comma-utf8 true = IsUtf8-are_ascii (44 ∷ []) refl
comma-utf8 false = IsUtf8-nil

number-utf8 : (z : ℤ) → IsWhole z → IsUtf8 (number_text (number_of_whole z))
number-utf8 (pos n) h = IsUtf8-from_ascii _ (IsAscii-decimal n (omega (arith, ints, h.1)))
number-utf8 (negsuc n) h = IsUtf8-from_ascii _ (IsAscii-signed (negsuc n) (omega (arith, ints, h.0)))

mutual
  pub tree-utf8 : (t : Tree) → IsDatum t → IsUtf8 (compact_text (data_of t))
  tree-utf8 tree.null h = IsUtf8-are_ascii _ refl
  tree-utf8 (tree.boolean b) h = IsUtf8-boolean b
  tree-utf8 (tree.number z) h = number-utf8 z h
  tree-utf8 (tree.text u) h = quoted-utf8 u h
  tree-utf8 (tree.array ts) h = one 91 _ refl (elements-utf8 false ts h)
  tree-utf8 (tree.object fs) h = one 123 _ refl (fields-utf8 false fs h.0)

  elements-utf8 : (later : Bool) (ts : Elements) → AreData ts → IsUtf8 (items_text later (items_of ts))
  elements-utf8 later no_elements h = IsUtf8-are_ascii (93 ∷ []) refl
  elements-utf8 later (element t ts) h =
      IsUtf8-append (comma_if later) _ (comma-utf8 later) (IsUtf8-append (compact_text (data_of t)) _ (tree-utf8 t h.0) (elements-utf8 true ts h.1))

  fields-utf8 : (later : Bool) (fs : Fields) → HaveData fs → IsUtf8 (members_text later (members_of fs))
  fields-utf8 later no_fields h = IsUtf8-are_ascii (125 ∷ []) refl
  fields-utf8 later (field k t fs) h =
      IsUtf8-append (comma_if later) _ (comma-utf8 later)
      (IsUtf8-append (quoted (utf8_of k)) _ (quoted-utf8 k h.0) (one 58 _ refl (IsUtf8-append (compact_text (data_of t)) _ (tree-utf8 t h.1) (fields-utf8 true fs h.2))))

pub batch_text-utf8 : (b : Contents) → IsBatch b → IsUtf8 (batch_text b)
batch_text-utf8 b h = subst IsUtf8 (ap compact_text (batch_data b)) (tree-utf8 (batch_tree b) (batch_datum b h))
