-- What a value of JSON is not.
use Rattle.std.proofs.Common.{◌≡◌, ℕ, ◌<◌, ◌≤◌, length, arith, List, false, true≢false, sym, ap, ◌∙◌}
use Rattle.serde_json.specs.Data.{Data}
use Rattle.rip_base.specs.Text.{IsUtf16}
use Rattle.rip_data.specs.Datum.{Tree, data_of, nesting, canonical_text, IsDatum}
use Rattle.rip_data.specs.Datum as tree
use Rattle.rip_data.specs.Reading.{all_whole}
use Rattle.rip_data.proofs.ReadLemmas.{all_whole-data_of}
use Rattle.rip_data.proofs.TextLaws.{data_of-one}
use Rattle.rip_wire.specs.Names.{IsName}
use Rattle.rip_wire.specs.Items.{text_value, args_tree, AreArgs}
use Rattle.rip_wire.proofs.TextLemmas.{IsUtf16-IsName}

pub no_datum : (v : Data) → all_whole v ≡ false → (t : Tree) → IsDatum t → v ≡ data_of t → ⊥
no_datum v h t d is = true≢false (sym (all_whole-data_of t d) ∙ ap all_whole (sym is) ∙ h)

pub no_text : (v : Data) → ((t : Tree) → IsDatum t → v ≡ data_of t → ⊥) → (text : List ℕ) → IsUtf16 text → v ≡ text_value text → ⊥
no_text v h text utf16 is = h (tree.text text) utf16 is

pub no_args : (v : Data) → ((t : Tree) → IsDatum t → v ≡ data_of t → ⊥) → (args : List Tree) → AreArgs args → v ≡ data_of (args_tree args) → ⊥
no_args v h args a is = h (args_tree args) a.are is

pub no_name : (v : Data) → ((text : List ℕ) → IsUtf16 text → v ≡ text_value text → ⊥) → (name : List ℕ) → IsName name → v ≡ text_value name → ⊥
no_name v h name n is = h name (IsUtf16-IsName name n) is

same_text : (t u : List ℕ) → tree.text t ≡ tree.text u → t ≡ u
same_text t u e = cc

-- a value is one text at most
pub one_text : (v : Data) (t u : List ℕ) → IsUtf16 t → IsUtf16 u → v ≡ text_value t → v ≡ text_value u → t ≡ u
one_text v t u h g is other = same_text t u (data_of-one (tree.text t) (tree.text u) h g (sym is ∙ other))

pub other_name : (v : Data) (text : List ℕ) → v ≡ text_value text → IsUtf16 text → (IsName text → ⊥) → (name : List ℕ) → IsName name → v ≡ text_value name → ⊥
other_name v text is utf16 other name n named =
    let same : text ≡ name = one_text v text name utf16 (IsUtf16-IsName name n) is named in
    other (rw same n)

-- a value is one datum at most
one_datum : (v : Data) (t u : Tree) → IsDatum t → IsDatum u → data_of t ≡ v → v ≡ data_of u → t ≡ u
one_datum v t u d e is other = data_of-one t u d e (is ∙ other)

pub deep_args : (v : Data) (t : Tree) → data_of t ≡ v → IsDatum t → 8 < nesting t → (args : List Tree) → AreArgs args → v ≡ data_of (args_tree args) → ⊥
deep_args v t is d deep args a other =
    let same : t ≡ args_tree args = one_datum v t (args_tree args) d a.are is other in
    let low : nesting t ≤ 8 = rw same a.shallow in
    omega arith

pub long_args : (v : Data) (t : Tree) → data_of t ≡ v → IsDatum t → 16384 < length (canonical_text t) → (args : List Tree) → AreArgs args → v ≡ data_of (args_tree args) → ⊥
long_args v t is d long args a other =
    let same : t ≡ args_tree args = one_datum v t (args_tree args) d a.are is other in
    let short : length (canonical_text t) ≤ 16384 = rw same a.short in
    omega arith

pub other_args : (v : Data) (t : Tree) → data_of t ≡ v → IsDatum t → ((args : List Tree) → t ≡ args_tree args → ⊥) → (args : List Tree) → AreArgs args → v ≡ data_of (args_tree args) → ⊥
other_args v t is d none args a other = none args (one_datum v t (args_tree args) d a.are is other)
