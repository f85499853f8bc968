-- The code of the trees that data stand for.
use Rattle.std.specs.Prelude.{◌≡◌, ℕ, zero, suc, pos, negsuc, true, false, List, [], ◌∷◌, refl}
use Rattle.std.specs.Coded.{Coded, code_by}
use mathlib.Core.Path.{ap, ◌∙◌}
use base.Stored.{Gv, gnil, gnum, gcons}
use denote.Struct.Codes.{itself}
use Rattle.rip_data.specs.Datum.{Tree, null, boolean, number, text, array, object, Elements, no_elements, element, Fields, no_fields, field}

-- units as a ghost value, and back
abbrev units_to : List ℕ → Gv
units_to [] = gnil
units_to (u ∷ us) = gcons (gnum u) (units_to us)

abbrev number_in : Gv → ℕ
number_in gnil = 0
number_in (gnum n) = n
number_in (gcons a b) = 0

abbrev units_from : Gv → List ℕ
units_from gnil = []
units_from (gnum n) = []
units_from (gcons a b) = number_in a ∷ units_from b

units_back : (us : List ℕ) → units_from (units_to us) ≡ us
units_back [] = refl
units_back (u ∷ us) = ap (λ rest. u ∷ rest) (units_back us)

-- trees, elements and fields as ghost values, and back
abbrev mutual
  pub tree_to : Tree → Gv
  tree_to null = gnil
  tree_to (boolean true) = gnum 0
  tree_to (boolean false) = gnum 1
  tree_to (number (pos n)) = gcons (gnum 0) (gnum n)
  tree_to (number (negsuc n)) = gcons (gnum 1) (gnum n)
  tree_to (text us) = gcons gnil (units_to us)
  tree_to (array ts) = gcons (gcons gnil gnil) (elements_to ts)
  tree_to (object fs) = gcons (gcons gnil (gnum 0)) (fields_to fs)

  pub elements_to : Elements → Gv
  elements_to no_elements = gnil
  elements_to (element t ts) = gcons (tree_to t) (elements_to ts)

  pub fields_to : Fields → Gv
  fields_to no_fields = gnil
  fields_to (field k t fs) = gcons (gcons (units_to k) (tree_to t)) (fields_to fs)

abbrev mutual
  pub tree_from : Gv → Tree
  tree_from gnil = null
  tree_from (gnum zero) = boolean true
  tree_from (gnum (suc n)) = boolean false
  tree_from (gcons (gnum zero) rest) = number (pos (number_in rest))
  tree_from (gcons (gnum (suc n)) rest) = number (negsuc (number_in rest))
  tree_from (gcons gnil rest) = text (units_from rest)
  tree_from (gcons (gcons a gnil) rest) = array (elements_from rest)
  tree_from (gcons (gcons a (gnum n)) rest) = object (fields_from rest)
  tree_from (gcons (gcons a (gcons b c)) rest) = null

  pub elements_from : Gv → Elements
  elements_from gnil = no_elements
  elements_from (gnum n) = no_elements
  elements_from (gcons t ts) = element (tree_from t) (elements_from ts)

  pub fields_from : Gv → Fields
  fields_from gnil = no_fields
  fields_from (gnum n) = no_fields
  fields_from (gcons gnil fs) = no_fields
  fields_from (gcons (gnum n) fs) = no_fields
  fields_from (gcons (gcons k t) fs) = field (units_from k) (tree_from t) (fields_from fs)

mutual
  pub tree_back : (t : Tree) → tree_from (tree_to t) ≡ t
  tree_back null = refl
  tree_back (boolean true) = refl
  tree_back (boolean false) = refl
  tree_back (number (pos n)) = refl
  tree_back (number (negsuc n)) = refl
  tree_back (text us) = ap text (units_back us)
  tree_back (array ts) = ap array (elements_back ts)
  tree_back (object fs) = ap object (fields_back fs)

  pub elements_back : (ts : Elements) → elements_from (elements_to ts) ≡ ts
  elements_back no_elements = refl
  elements_back (element t ts) = ap (λ x. element x (elements_from (elements_to ts))) (tree_back t) ∙ ap (λ x. element t x) (elements_back ts)

  pub fields_back : (fs : Fields) → fields_from (fields_to fs) ≡ fs
  fields_back no_fields = refl
  fields_back (field k t fs) =
      ap (λ x. field x (tree_from (tree_to t)) (fields_from (fields_to fs))) (units_back k)
      ∙ ap (λ x. field k x (fields_from (fields_to fs))) (tree_back t)
      ∙ ap (λ x. field k t x) (fields_back fs)

-- no two trees have one code
abbrev pub tree_code : Coded Tree
tree_code = code_by Gv itself tree_to tree_from tree_back
