-- One value is that of one item, of one batch, of one answer.
use Rattle.std.proofs.Common.{◌≡◌, ℕ, List, [], ◌∷◌, map, Option, None, Some, cond, bytes_eq, refl, sym, ap, ap₂, ◌∙◌}
use Rattle.std.specs.Prelude.{codes}
use Rattle.std.specs.List.{AllByRecursion}
use Rattle.serde_json.specs.Data.{Data, string, object, member, no_members}
use Rattle.rip_base.specs.Text.{IsUtf16}
use Rattle.rip_base.specs.declared.report.EventKind.{EventKind}
use Rattle.rip_base.specs.declared.report.EventKind.TheVariants as K
use Rattle.rip_data.specs.Datum.{Tree, Elements, element, no_elements, elements_of, data_of}
use Rattle.rip_data.specs.Datum as tree
use Rattle.rip_data.proofs.TextLaws.{data_of-one}
use Rattle.rip_wire.specs.Items.{Reported, event, call, reply, event_word, list_of, text_value, number_value, args_tree, place_values, detail_values, event_values, call_values, reply_values, item_value, HasDetail, AreArgs, IsItem}
use Rattle.rip_wire.specs.Batches.{Contents, batch_value, IsBatch}
use Rattle.rip_wire.specs.Answers.{Served, Said, ended_value, served_value, answer_value, IsServed, IsAnswer}
use Rattle.rip_wire.specs.Reasons.{reason_word}
use Rattle.rip_wire.specs.declared.ending.Reason.{Reason}
use Rattle.rip_wire.specs.declared.ending.Reason.TheVariants as R
use Rattle.rip_wire.proofs.TextLemmas.{IsUtf16-IsName}
use Rattle.rip_wire.proofs.ValueLemmas.{one_text}
use Rattle.rip_wire.proofs.ItemLemmas.{list_of-one, same_values, event_call, event_reply, call_reply}

head : (v w : Data) (a b : List Data) → v ∷ a ≡ w ∷ b → v ≡ w
head v w a b e = cc

tail : (v w : Data) (a b : List Data) → v ∷ a ≡ w ∷ b → a ≡ b
tail v w a b e = cc

same_string : (s t : List ℕ) → string s ≡ string t → s ≡ t
same_string s t e = cc

pub same_number : (n m : ℕ) → number_value n ≡ number_value m → n ≡ m
same_number n m e = cc

-- ---- kinds of events

kind_of : List ℕ → EventKind
kind_of word = cond (bytes_eq word (codes "click")) K.Click (cond (bytes_eq word (codes "focus")) K.Focus (cond (bytes_eq word (codes "blur")) K.Blur (cond (bytes_eq word (codes "submit")) K.Submit (cond (bytes_eq word (codes "change")) K.Change (K.Input)))))

kind_of-event_word : (kind : EventKind) → kind_of (event_word kind) ≡ kind
unfolding kind_of
kind_of-event_word K.Click = refl
kind_of-event_word K.Focus = refl
kind_of-event_word K.Blur = refl
kind_of-event_word K.Submit = refl
kind_of-event_word K.Change = refl
kind_of-event_word K.Input = refl

same_kind : (k l : EventKind) → event_word k ≡ event_word l → k ≡ l
same_kind k l e = sym (kind_of-event_word k) ∙ ap kind_of e ∙ kind_of-event_word l

abbrev pub IfText : Option (List ℕ) → Type 0
IfText None = Unit {0}
IfText (Some text) = IsUtf16 text

text_in : (kind : EventKind) (text : Option (List ℕ)) (place : Option ℕ) → HasDetail kind text place → IfText text
text_in K.Click None None h = tt
text_in K.Click None (Some place) h = tt
text_in K.Click (Some text) None h = absurd h
text_in K.Click (Some text) (Some place) h = absurd h
text_in K.Focus None None h = tt
text_in K.Focus None (Some place) h = tt
text_in K.Focus (Some text) None h = absurd h
text_in K.Focus (Some text) (Some place) h = absurd h
text_in K.Blur None None h = tt
text_in K.Blur None (Some place) h = tt
text_in K.Blur (Some text) None h = absurd h
text_in K.Blur (Some text) (Some place) h = absurd h
text_in K.Submit None None h = tt
text_in K.Submit None (Some place) h = tt
text_in K.Submit (Some text) None h = absurd h
text_in K.Submit (Some text) (Some place) h = absurd h
text_in K.Change None None h = tt
text_in K.Change None (Some place) h = tt
text_in K.Change (Some text) None h = absurd h
text_in K.Change (Some text) (Some place) h = absurd h
text_in K.Input None None h = tt
text_in K.Input None (Some place) h = tt
text_in K.Input (Some text) None h = h
text_in K.Input (Some text) (Some place) h = absurd h

same_places : (p q : Option ℕ) → place_values p ≡ place_values q → p ≡ q
same_places None None e = refl
same_places None (Some q) e = cc
same_places (Some p) None e = cc
same_places (Some p) (Some q) e = ap Some (same_number p q (head (number_value p) (number_value q) [] [] e))

no_text_first : (t : List ℕ) (vs : List Data) (q : Option ℕ) → text_value t ∷ vs ≡ place_values q → ⊥
no_text_first t vs None e = cc
no_text_first t vs (Some q) e = cc

same_detail : (t u : Option (List ℕ)) (p q : Option ℕ) → IfText t → IfText u → detail_values t p ≡ detail_values u q → (t ≡ u) × (p ≡ q)
same_detail None None p q h g e = (refl, same_places p q e)
same_detail None (Some u) p q h g e = absurd (no_text_first u (place_values q) p (sym e))
same_detail (Some t) None p q h g e = absurd (no_text_first t (place_values p) q e)
same_detail (Some t) (Some u) p q h g e = (
  ap Some (one_text (text_value t) t u h g refl (head (text_value t) (text_value u) (place_values p) (place_values q) e)),
  same_places p q (tail (text_value t) (text_value u) (place_values p) (place_values q) e),
)

same_event : (k l : EventKind) (n m : ℕ) (t u : Option (List ℕ)) (p q : Option ℕ) → k ≡ l → n ≡ m → t ≡ u → p ≡ q → event k n t p ≡ event l m u q
same_event k l n m t u p q a b c d = cc

same_call : (k l : ℕ) (n m : List ℕ) (a b : List Tree) → k ≡ l → n ≡ m → a ≡ b → call k n a ≡ call l m b
same_call k l n m a b c d e = cc

first_tree : (t u : Tree) (a b : Elements) → element t a ≡ element u b → t ≡ u
first_tree t u a b e = cc

other_trees : (t u : Tree) (a b : Elements) → element t a ≡ element u b → a ≡ b
other_trees t u a b e = cc

elements_same : (a b : List Tree) → elements_of a ≡ elements_of b → a ≡ b
elements_same [] [] e = refl
elements_same [] (u ∷ b) e = cc
elements_same (t ∷ a) [] e = cc
elements_same (t ∷ a) (u ∷ b) e = ap₂ (λ x xs. x ∷ xs) (first_tree t u (elements_of a) (elements_of b) e) (elements_same a b (other_trees t u (elements_of a) (elements_of b) e))

same_array : (a b : Elements) → tree.array a ≡ tree.array b → a ≡ b
same_array a b e = cc

pub args_same : (a b : List Tree) → AreArgs a → AreArgs b → data_of (args_tree a) ≡ data_of (args_tree b) → a ≡ b
args_same a b h g e = elements_same a b (same_array (elements_of a) (elements_of b) (data_of-one (args_tree a) (args_tree b) h.are g.are e))

pub item_same : (r s : Reported) → IsItem r → IsItem s → item_value r ≡ item_value s → r ≡ s
item_same (event k n t p) (event l m u q) h g e =
    let parts = same_values (string (codes "event")) (string (codes "event")) (event_values k n t p) (event_values l m u q) e in
    let kinds = same_kind k l (same_string (event_word k) (event_word l) (head (string (event_word k)) (string (event_word l)) (number_value n ∷ detail_values t p) (number_value m ∷ detail_values u q) parts)) in
    let rest = tail (string (event_word k)) (string (event_word l)) (number_value n ∷ detail_values t p) (number_value m ∷ detail_values u q) parts in
    let nodes = same_number n m (head (number_value n) (number_value m) (detail_values t p) (detail_values u q) rest) in
    let detail = same_detail t u p q (text_in k t p h.1) (text_in l u q g.1) (tail (number_value n) (number_value m) (detail_values t p) (detail_values u q) rest) in
    same_event k l n m t u p q kinds nodes detail.0 detail.1
item_same (event k n t p) (call l m a) h g e = absurd (event_call (event_values k n t p) (call_values l m a) e)
item_same (event k n t p) (reply l) h g e = absurd (event_reply (event_values k n t p) (reply_values l) e)
item_same (call l m a) (event k n t p) h g e = absurd (event_call (event_values k n t p) (call_values l m a) (sym e))
item_same (call k n a) (call l m b) h g e =
    let parts = same_values (string (codes "call")) (string (codes "call")) (call_values k n a) (call_values l m b) e in
    let x = data_of (args_tree a) ∷ [] in
    let y = data_of (args_tree b) ∷ [] in
    let numbers = same_number k l (head (number_value k) (number_value l) (text_value n ∷ x) (text_value m ∷ y) parts) in
    let rest = tail (number_value k) (number_value l) (text_value n ∷ x) (text_value m ∷ y) parts in
    let names = one_text (text_value n) n m (IsUtf16-IsName n h.1) (IsUtf16-IsName m g.1) refl (head (text_value n) (text_value m) x y rest) in
    let last = tail (text_value n) (text_value m) x y rest in
    let args = args_same a b h.2 g.2 (head (data_of (args_tree a)) (data_of (args_tree b)) [] [] last) in
    same_call k l n m a b numbers names args
item_same (call k n a) (reply l) h g e = absurd (call_reply (call_values k n a) (reply_values l) e)
item_same (reply l) (event k n t p) h g e = absurd (event_reply (event_values k n t p) (reply_values l) (sym e))
item_same (reply l) (call k n a) h g e = absurd (call_reply (call_values k n a) (reply_values l) (sym e))
item_same (reply k) (reply l) h g e =
    let parts = same_values (string (codes "reply")) (string (codes "reply")) (reply_values k) (reply_values l) e in
    ap reply (same_number k l (head (number_value k) (number_value l) [] [] parts))

pub items_same : (rs ss : List Reported) → AllByRecursion IsItem rs → AllByRecursion IsItem ss → map item_value rs ≡ map item_value ss → rs ≡ ss
items_same [] [] h g e = refl
items_same [] (s ∷ ss) h g e = cc
items_same (r ∷ rs) [] h g e = cc
items_same (r ∷ rs) (s ∷ ss) h g e =
    ap₂ (λ x xs. x ∷ xs) (item_same r s h.0 g.0 (head (item_value r) (item_value s) (map item_value rs) (map item_value ss) e))
    (items_same rs ss h.1 g.1 (tail (item_value r) (item_value s) (map item_value rs) (map item_value ss) e))

-- ---- batches

first_of : (a b c d : Data) → object (member (codes "batch") a (member (codes "items") b no_members)) ≡ object (member (codes "batch") c (member (codes "items") d no_members)) → a ≡ c
first_of a b c d e = cc

second_of : (a b c d : Data) → object (member (codes "batch") a (member (codes "items") b no_members)) ≡ object (member (codes "batch") c (member (codes "items") d no_members)) → b ≡ d
second_of a b c d e = cc

pub batch_same : (b c : Contents) → IsBatch b → IsBatch c → batch_value b ≡ batch_value c → b ≡ c
batch_same b c h g e =
    let of : ℕ → List Reported → Contents = λ n is. record { number = n; items = is } in
    let bi = list_of (map item_value b.items) in
    let ci = list_of (map item_value c.items) in
    let numbers = same_number b.number c.number (first_of (number_value b.number) bi (number_value c.number) ci e) in
    let items = items_same b.items c.items h.items g.items (list_of-one (map item_value b.items) (map item_value c.items) (second_of (number_value b.number) bi (number_value c.number) ci e)) in
    ap₂ of numbers items

-- ---- answers

reason_of_word : List ℕ → Reason
reason_of_word word = cond (bytes_eq word (codes "mismatch")) R.Mismatch (cond (bytes_eq word (codes "report")) R.Report (cond (bytes_eq word (codes "fuel")) R.Fuel (cond (bytes_eq word (codes "cells")) R.Cells (cond (bytes_eq word (codes "units")) R.Units (cond (bytes_eq word (codes "nodes")) R.Nodes (cond (bytes_eq word (codes "depth")) R.Depth (cond (bytes_eq word (codes "queue")) R.Queue (cond (bytes_eq word (codes "replies")) R.Replies (cond (bytes_eq word (codes "not-whole")) R.NotWhole (cond (bytes_eq word (codes "infinite")) R.Infinite (cond (bytes_eq word (codes "out-of-range")) R.OutOfRange (cond (bytes_eq word (codes "hole")) R.Hole (cond (bytes_eq word (codes "not-in-profile")) R.NotInProfile (cond (bytes_eq word (codes "object-to-primitive")) R.ObjectToPrimitive (cond (bytes_eq word (codes "bad-argument")) R.BadArgument (cond (bytes_eq word (codes "lone-surrogate")) R.LoneSurrogate (cond (bytes_eq word (codes "text-too-long")) R.TextTooLong (cond (bytes_eq word (codes "memory")) R.Memory (R.Closed)))))))))))))))))))

reason_back : (reason : Reason) → reason_of_word (reason_word reason) ≡ reason
unfolding reason_of_word
reason_back R.Mismatch = refl
reason_back R.Report = refl
reason_back R.Fuel = refl
reason_back R.Cells = refl
reason_back R.Units = refl
reason_back R.Nodes = refl
reason_back R.Depth = refl
reason_back R.Queue = refl
reason_back R.Replies = refl
reason_back R.NotWhole = refl
reason_back R.Infinite = refl
reason_back R.OutOfRange = refl
reason_back R.Hole = refl
reason_back R.NotInProfile = refl
reason_back R.ObjectToPrimitive = refl
reason_back R.BadArgument = refl
reason_back R.LoneSurrogate = refl
reason_back R.TextTooLong = refl
reason_back R.Memory = refl
reason_back R.Closed = refl

-- no two reasons have one word
pub same_reason : (r s : Reason) → reason_word r ≡ reason_word s → r ≡ s
same_reason r s e = sym (reason_back r) ∙ ap reason_of_word e ∙ reason_back s

same_ended : (a b : Option Reason) → ended_value a ≡ ended_value b → a ≡ b
same_ended None None e = refl
same_ended None (Some s) e = cc
same_ended (Some r) None e = cc
same_ended (Some r) (Some s) e = ap Some (same_reason r s (same_string (reason_word r) (reason_word s) e))

same_served : (s t : Served) → IsServed s → IsServed t → served_value s ≡ served_value t → s ≡ t
same_served s t h g e =
    let of : ℕ → ℕ → Tree → Served = λ n m d. record { number = n; time = m; reply = d } in
    let x = data_of s.reply ∷ [] in
    let y = data_of t.reply ∷ [] in
    let parts = list_of-one (number_value s.number ∷ number_value s.time ∷ x) (number_value t.number ∷ number_value t.time ∷ y) e in
    let numbers = same_number s.number t.number (head (number_value s.number) (number_value t.number) (number_value s.time ∷ x) (number_value t.time ∷ y) parts) in
    let rest = tail (number_value s.number) (number_value t.number) (number_value s.time ∷ x) (number_value t.time ∷ y) parts in
    let times = same_number s.time t.time (head (number_value s.time) (number_value t.time) x y rest) in
    let last = tail (number_value s.time) (number_value t.time) x y rest in
    let replies = data_of-one s.reply t.reply h.reply g.reply (head (data_of s.reply) (data_of t.reply) [] [] last) in
    ap (λ n. of n s.time s.reply) numbers ∙ ap₂ (of t.number) times replies

all_served : (ss ts : List Served) → AllByRecursion IsServed ss → AllByRecursion IsServed ts → map served_value ss ≡ map served_value ts → ss ≡ ts
all_served [] [] h g e = refl
all_served [] (t ∷ ts) h g e = cc
all_served (s ∷ ss) [] h g e = cc
all_served (s ∷ ss) (t ∷ ts) h g e =
    ap₂ (λ x xs. x ∷ xs) (same_served s t h.0 g.0 (head (served_value s) (served_value t) (map served_value ss) (map served_value ts) e))
    (all_served ss ts h.1 g.1 (tail (served_value s) (served_value t) (map served_value ss) (map served_value ts) e))

abbrev three : Data → Data → Data → Data
three a b c = object (member (codes "batch") a (member (codes "ended") b (member (codes "served") c no_members)))

batch_in : (a b c d e f : Data) → three a b c ≡ three d e f → a ≡ d
batch_in a b c d e f h = cc

ended_in : (a b c d e f : Data) → three a b c ≡ three d e f → b ≡ e
ended_in a b c d e f h = cc

served_in : (a b c d e f : Data) → three a b c ≡ three d e f → c ≡ f
served_in a b c d e f h = cc

pub answer_same : (a b : Said) → IsAnswer a → IsAnswer b → answer_value a ≡ answer_value b → a ≡ b
answer_same a b h g e =
    let of : ℕ → Option Reason → List Served → Said = λ n r s. record { number = n; ended = r; served = s } in
    let x = number_value a.number in
    let y = number_value b.number in
    let s = list_of (map served_value a.served) in
    let t = list_of (map served_value b.served) in
    let numbers = same_number a.number b.number (batch_in x (ended_value a.ended) s y (ended_value b.ended) t e) in
    let endings = same_ended a.ended b.ended (ended_in x (ended_value a.ended) s y (ended_value b.ended) t e) in
    let served = all_served a.served b.served h.served g.served (list_of-one (map served_value a.served) (map served_value b.served) (served_in x (ended_value a.ended) s y (ended_value b.ended) t e)) in
    ap (λ n. of n a.ended a.served) numbers ∙ ap₂ (of b.number) endings served
