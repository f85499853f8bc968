-- What the parts of a line are not.
use Rattle.std.proofs.Common.{◌≡◌, ℕ, ◌<◌, ◌≤◌, ◌⊎◌, inl, inr, List, length, Some, None, false, sym, ap, subst, ◌∙◌, arith}
use Rattle.serde_json.specs.Data.{Data}
use Rattle.serde_json.specs.Written.{compact_text}
use Rattle.rip_data.specs.Datum.{Tree, data_of, canonical_text, nesting, IsDatum}
use Rattle.rip_data.specs.Datum as tree
use Rattle.rip_data.specs.Reading.{value_of, all_whole}
use Rattle.rip_data.proofs.TextLaws.{canonical_text-one, value_of-canonical_text}
use Rattle.rip_wire.specs.Calls.{call_text, IsCallText}
use Rattle.rip_wire.specs.Items.{args_tree, AreArgs}
use Rattle.rip_wire.specs.Names.{IsName}
use Rattle.rip_wire.proofs.TextLemmas.{IsUtf16-IsName}
use Rattle.rip_wire.proofs.Utf8Lemmas.{tree-utf8}
use Rattle.rip_wire.proofs.ValueLemmas.{no_datum}
use Rattle.rip_log.specs.Parts.{name_text, args_text, IsReply}

same_some : (d e : Data) → Some d ≡ Some e → d ≡ e
same_some d e h = cc

no_some : (d : Data) → None ≡ Some d → ⊥
no_some d h = cc

-- a canonical text is read as its data
read_back : (t : Tree) → IsDatum t → nesting t ≤ 127 → value_of (canonical_text t) ≡ Some (data_of t)
read_back t h low = value_of-canonical_text t h low (tree-utf8 t h)

pub no_value : (word : List ℕ) → value_of word ≡ None → (t : Tree) → IsDatum t → nesting t ≤ 127 → word ≡ canonical_text t → ⊥
no_value word none t h low e = no_some (data_of t) (sym none ∙ ap value_of e ∙ read_back t h low)

pub not_whole : (word : List ℕ) (d : Data) → value_of word ≡ Some d → all_whole d ≡ false → (t : Tree) → IsDatum t → nesting t ≤ 127 → word ≡ canonical_text t → ⊥
not_whole word d is other t h low e =
    no_datum d other t h (same_some d (data_of t) (sym is ∙ ap value_of e ∙ read_back t h low))

-- a datum that is read of a word whose text it is not
pub other_text : (word written : List ℕ) (d : Data) (u : Tree) → value_of word ≡ Some d → data_of u ≡ d → written ≡ canonical_text u → (written ≡ word → ⊥) → (t : Tree) → IsDatum t → nesting t ≤ 127 → word ≡ canonical_text t → ⊥
other_text word written d u is same wrote other t h low e =
    other (wrote ∙ ap compact_text (same ∙ same_some d (data_of t) (sym is ∙ ap value_of e ∙ read_back t h low)) ∙ sym e)

pub no_reply : (word : List ℕ) → ((t : Tree) → IsDatum t → nesting t ≤ 127 → word ≡ canonical_text t → ⊥) → (t : Tree) → IsReply t → word ≡ canonical_text t → ⊥
no_reply word none t h e = let low : nesting t ≤ 8 = h.shallow in none t h.are (omega (arith, low)) e

pub too_large : (word : List ℕ) (u : Tree) → word ≡ canonical_text u → IsDatum u → ((8 < nesting u) ⊎ (16384 < length (canonical_text u))) → (t : Tree) → IsReply t → word ≡ canonical_text t → ⊥
too_large word u is h large t g e =
    let same : t ≡ u = canonical_text-one t u g.are h (sym e ∙ is) in
    let low : nesting u ≤ 8 = subst (λ x. nesting x ≤ 8) same g.shallow in
    let short : length (canonical_text u) ≤ 16384 = subst (λ x. length (canonical_text x) ≤ 16384) same g.short in
    elim large [ inl deep ↦ omega (arith, low, deep) | inr long ↦ omega (arith, short, long) ]

pub reply_args : (args : List Tree) → AreArgs args → IsReply (args_tree args)
reply_args args h = record { are = h.are; shallow = h.shallow; short = h.short }

pub args_reply : (args : List Tree) (t : Tree) → t ≡ args_tree args → IsReply t → AreArgs args
args_reply args t e h = let g = subst IsReply e h in record { are = g.are; shallow = g.shallow; short = g.short }

pub no_args : (word : List ℕ) → ((t : Tree) → IsReply t → word ≡ canonical_text t → ⊥) → (args : List Tree) → AreArgs args → word ≡ args_text args → ⊥
no_args word none args h e = none (args_tree args) (reply_args args h) e

pub no_list : (word : List ℕ) (u : Tree) → word ≡ canonical_text u → IsReply u → ((args : List Tree) → u ≡ args_tree args → ⊥) → (args : List Tree) → AreArgs args → word ≡ args_text args → ⊥
no_list word u is h none args g e = none args (canonical_text-one u (args_tree args) h.are g.are (sym is ∙ e))

pub no_name : (word : List ℕ) → ((t : Tree) → IsDatum t → nesting t ≤ 127 → word ≡ canonical_text t → ⊥) → (name : List ℕ) → IsName name → word ≡ name_text name → ⊥
no_name word none name h e = none (tree.text name) (IsUtf16-IsName name h) (omega arith) e

pub no_text : (word : List ℕ) (u : Tree) → word ≡ canonical_text u → IsDatum u → ((text : List ℕ) → u ≡ tree.text text → ⊥) → (name : List ℕ) → IsName name → word ≡ name_text name → ⊥
no_text word u is h none name g e = none name (canonical_text-one u (tree.text name) h (IsUtf16-IsName name g) (sym is ∙ e))

text_same : (a b : List ℕ) → tree.text a ≡ tree.text b → a ≡ b
text_same a b e = cc

pub other_name : (word : List ℕ) (u : Tree) (text : List ℕ) → word ≡ canonical_text u → IsDatum u → u ≡ tree.text text → (IsName text → ⊥) → (name : List ℕ) → IsName name → word ≡ name_text name → ⊥
other_name word u text is h same none name g e =
    let names : text ≡ name = text_same text name (sym same ∙ canonical_text-one u (tree.text name) h (IsUtf16-IsName name g) (sym is ∙ e)) in
    none (subst IsName (sym names) g)

pub is_call_text : (word name : List ℕ) (args : List Tree) → word ≡ call_text name args → IsName name → AreArgs args → IsCallText word
is_call_text word name args is h g = record { name = name; args = args; is_name = h; are_args = g; is = is }

pub no_call_text : (word : List ℕ) → ((name : List ℕ) (args : List Tree) → IsName name → AreArgs args → word ≡ call_text name args → ⊥) → IsCallText word → ⊥
no_call_text word none h = none h.name h.args h.is_name h.are_args h.is
