-- What an item is not, and that one value is one item.
use Rattle.std.proofs.Common.{◌≡◌, ℕ, List, [], ◌∷◌, Option, Some, true≢false, eq-eqb, refl, sym, ap, ap₂, ◌∙◌}
use Rattle.std.specs.Prelude.{codes}
use Rattle.serde_json.specs.Data.{Data, null, boolean, string, array, object, Items, item}
use Rattle.serde_json.specs.Find.{as_str}
use Rattle.serde_json.specs.View.{items_of}
use Rattle.rip_base.specs.declared.report.EventKind.{EventKind}
use Rattle.rip_data.specs.Datum.{Tree}
use Rattle.rip_wire.specs.Items.{Reported, event, call, reply, list_of, event_values, call_values, reply_values, item_value, IsItem}

-- ---- lists of values

same_tail : (v w : Data) (a b : Items) → item v a ≡ item w b → a ≡ b
same_tail v w a b e = cc

same_head : (v w : Data) (a b : Items) → item v a ≡ item w b → v ≡ w
same_head v w a b e = cc

pub items_of-one : (a b : List Data) → items_of a ≡ items_of b → a ≡ b
items_of-one [] [] e = refl
items_of-one [] (w ∷ b) e = cc
items_of-one (v ∷ a) [] e = cc
items_of-one (v ∷ a) (w ∷ b) e = ap₂ (λ x xs. x ∷ xs) (same_head v w (items_of a) (items_of b) e) (items_of-one a b (same_tail v w (items_of a) (items_of b) e))

pub list_of-one : (a b : List Data) → list_of a ≡ list_of b → a ≡ b
list_of-one a b e = items_of-one a b (inside (items_of a) (items_of b) e)
  where
    inside : (u w : Items) → array u ≡ array w → u ≡ w
    inside u w e = cc

-- the first byte of a word
abbrev pub first : List ℕ → ℕ
first [] = 0
first (u ∷ us) = u

word_of : (s t : List ℕ) (a b : List Data) → string s ∷ a ≡ string t ∷ b → s ≡ t
word_of s t a b e = cc

others_of : (v w : Data) (a b : List Data) → v ∷ a ≡ w ∷ b → a ≡ b
others_of v w a b e = cc

heads_of : (v w : Data) (a b : List Data) → v ∷ a ≡ w ∷ b → v ≡ w
heads_of v w a b e = cc

-- the words of items begin with other letters
pub other_word : (s t : List ℕ) (a b : List Data) → list_of (string s ∷ a) ≡ list_of (string t ∷ b) → first s ≡ first t
other_word s t a b e = ap first (word_of s t a b (list_of-one (string s ∷ a) (string t ∷ b) e))

pub same_values : (v w : Data) (a b : List Data) → list_of (v ∷ a) ≡ list_of (w ∷ b) → a ≡ b
same_values v w a b e = others_of v w a b (list_of-one (v ∷ a) (w ∷ b) e)

pub event_call : (a b : List Data) → list_of (string (codes "event") ∷ a) ≡ list_of (string (codes "call") ∷ b) → ⊥
event_call a b e = true≢false (sym (eq-eqb (first (codes "event")) (first (codes "call")) (other_word (codes "event") (codes "call") a b e)))

pub event_reply : (a b : List Data) → list_of (string (codes "event") ∷ a) ≡ list_of (string (codes "reply") ∷ b) → ⊥
event_reply a b e = true≢false (sym (eq-eqb (first (codes "event")) (first (codes "reply")) (other_word (codes "event") (codes "reply") a b e)))

pub call_reply : (a b : List Data) → list_of (string (codes "call") ∷ a) ≡ list_of (string (codes "reply") ∷ b) → ⊥
call_reply a b e = true≢false (sym (eq-eqb (first (codes "call")) (first (codes "reply")) (other_word (codes "call") (codes "reply") a b e)))

-- ---- what an item is not

pub no_event : (v w : Data) (values : List Data) → v ≡ list_of (w ∷ values) → w ≡ string (codes "event")
    → ((kind : EventKind) (node : ℕ) (text : Option (List ℕ)) (place : Option ℕ) → IsItem (event kind node text place) → values ≡ event_values kind node text place → ⊥)
    → (i : Reported) → IsItem i → v ≡ item_value i → ⊥
no_event v w values got word none (event kind node text place) h other =
    let is : v ≡ list_of (string (codes "event") ∷ values) = got ∙ ap (λ x. list_of (x ∷ values)) word in
    none kind node text place h (same_values _ _ values (event_values kind node text place) (sym is ∙ other))
no_event v w values got word none (call k name args) h other =
    let is : v ≡ list_of (string (codes "event") ∷ values) = got ∙ ap (λ x. list_of (x ∷ values)) word in event_call values (call_values k name args) (sym is ∙ other)
no_event v w values got word none (reply k) h other =
    let is : v ≡ list_of (string (codes "event") ∷ values) = got ∙ ap (λ x. list_of (x ∷ values)) word in event_reply values (reply_values k) (sym is ∙ other)

pub no_call : (v w : Data) (values : List Data) → v ≡ list_of (w ∷ values) → w ≡ string (codes "call")
    → ((k : ℕ) (name : List ℕ) (args : List Tree) → IsItem (call k name args) → values ≡ call_values k name args → ⊥)
    → (i : Reported) → IsItem i → v ≡ item_value i → ⊥
no_call v w values got word none (event kind node text place) h other =
    let is : v ≡ list_of (string (codes "call") ∷ values) = got ∙ ap (λ x. list_of (x ∷ values)) word in event_call (event_values kind node text place) values (sym other ∙ is)
no_call v w values got word none (call k name args) h other =
    let is : v ≡ list_of (string (codes "call") ∷ values) = got ∙ ap (λ x. list_of (x ∷ values)) word in none k name args h (same_values _ _ values (call_values k name args) (sym is ∙ other))
no_call v w values got word none (reply k) h other =
    let is : v ≡ list_of (string (codes "call") ∷ values) = got ∙ ap (λ x. list_of (x ∷ values)) word in call_reply values (reply_values k) (sym is ∙ other)

pub no_reply : (v w : Data) (values : List Data) → v ≡ list_of (w ∷ values) → w ≡ string (codes "reply")
    → ((k : ℕ) → IsItem (reply k) → values ≡ reply_values k → ⊥)
    → (i : Reported) → IsItem i → v ≡ item_value i → ⊥
no_reply v w values got word none (event kind node text place) h other =
    let is : v ≡ list_of (string (codes "reply") ∷ values) = got ∙ ap (λ x. list_of (x ∷ values)) word in event_reply (event_values kind node text place) values (sym other ∙ is)
no_reply v w values got word none (call k name args) h other =
    let is : v ≡ list_of (string (codes "reply") ∷ values) = got ∙ ap (λ x. list_of (x ∷ values)) word in call_reply (call_values k name args) values (sym other ∙ is)
no_reply v w values got word none (reply k) h other =
    let is : v ≡ list_of (string (codes "reply") ∷ values) = got ∙ ap (λ x. list_of (x ∷ values)) word in none k h (same_values _ _ values (reply_values k) (sym is ∙ other))

-- a value that has this text is it
pub word_is : (d : Data) (s t : List ℕ) → Some s ≡ as_str d → s ≡ t → d ≡ string t
word_is null s t e is = cc
word_is (boolean b) s t e is = cc
word_is (Data.number n) s t e is = cc
word_is (Data.string u) s t e is = cc
word_is (Data.array ds) s t e is = cc
word_is (object ms) s t e is = cc

-- a value with another word is none
pub no_word : (v w : Data) (values : List Data) → v ≡ list_of (w ∷ values) → (w ≡ string (codes "event") → ⊥) → (w ≡ string (codes "call") → ⊥) → (w ≡ string (codes "reply") → ⊥) → (i : Reported) → IsItem i → v ≡ item_value i → ⊥
no_word v w values got e c r (event kind node text place) h other = e (heads_of w _ values (event_values kind node text place) (list_of-one (w ∷ values) (string (codes "event") ∷ event_values kind node text place) (sym got ∙ other)))
no_word v w values got e c r (call k name args) h other = c (heads_of w _ values (call_values k name args) (list_of-one (w ∷ values) (string (codes "call") ∷ call_values k name args) (sym got ∙ other)))
no_word v w values got e c r (reply k) h other = r (heads_of w _ values (reply_values k) (list_of-one (w ∷ values) (string (codes "reply") ∷ reply_values k) (sym got ∙ other)))

-- a value that is no list, or an empty one, is none
pub not_listed : (v : Data) → ((first : Data) (others : List Data) → v ≡ list_of (first ∷ others) → ⊥) → (i : Reported) → IsItem i → v ≡ item_value i → ⊥
not_listed v none (event kind node text place) h other = none (string (codes "event")) (event_values kind node text place) other
not_listed v none (call k name args) h other = none (string (codes "call")) (call_values k name args) other
not_listed v none (reply k) h other = none (string (codes "reply")) (reply_values k) other
