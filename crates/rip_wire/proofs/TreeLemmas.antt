-- The trees of items, batches and answers: each has one text, and is read of it.
use Rattle.std.proofs.Common.{◌≡◌, ℕ, ◌<◌, ◌≤◌, ◌^◌, pos, List, [], ◌∷◌, ◌++◌, map, Bool, true, false, Option, None, Some, nat_lt, Less, refl, sym, ap, ap₂, subst, ◌∙◌, arith, IsUtf8, true≢false}
use Rattle.std.proofs.lemmas.Int.{ints}
use Rattle.std.specs.Prelude.{codes, ◌&&◌}
use Rattle.std.specs.Ordering.{nat_cmp}
use Rattle.std.specs.Cmp.Lexicographic.{slice_cmp}
use Rattle.std.specs.List.{AllByRecursion, list_all}
use Rattle.std.proofs.lemmas.Bool.{ltb-true}
use Rattle.serde_json.specs.Data.{Data, string, number, unsigned, array, object, member, no_members, null, depth, items_depth}
use Rattle.serde_json.specs.View.{items_of}
use Rattle.serde_json.specs.Written.{compact_text}
use Rattle.rip_base.specs.Whole.{IsWhole}
use Rattle.rip_base.specs.Text.{IsUtf16}
use Rattle.rip_base.specs.declared.report.EventKind.{EventKind}
use Rattle.rip_base.specs.declared.report.EventKind.TheVariants as K
use Rattle.rip_data.specs.Datum.{Tree, Elements, element, no_elements, elements_of, data_of, utf8_of, IsDatum, AreData, nesting, canonical_text}
use Rattle.rip_data.specs.Datum as tree
use Rattle.rip_data.specs.Reading.{value_of}
use Rattle.rip_data.proofs.TextLaws.{canonical_text-one, value_of-canonical_text}
use Rattle.rip_wire.specs.Items.{Reported, event, call, reply, event_word, list_of, text_value, number_value, args_tree, detail_values, item_value, HasDetail, IsItem}
use Rattle.rip_wire.specs.Batches.{Contents, batch_value, batch_text, IsBatch}
use Rattle.rip_wire.specs.Answers.{Served, Said, ended_value, served_value, answer_value, answer_text, IsServed, IsAnswer}
use Rattle.rip_wire.specs.Reasons.{reason_word}
use Rattle.rip_wire.specs.declared.ending.Reason.{Reason}
use Rattle.rip_wire.specs.declared.ending.Reason.TheVariants as R
use Rattle.rip_wire.proofs.TextLemmas.{AreAscii, utf8_of-ascii, IsUtf16-ascii, IsUtf16-IsName}
use Rattle.rip_wire.proofs.SameLemmas.{batch_same, answer_same}

-- ---- words

abbrev is_small : ℕ → Bool
is_small u = nat_lt u 128

both : (a b : Bool) → a && b ≡ true → (a ≡ true) × (b ≡ true)
both true b h = (refl, h)
both false b h = absurd (true≢false (sym h))

ascii : (us : List ℕ) → list_all is_small us ≡ true → AreAscii us
ascii [] h = tt
ascii (u ∷ us) h = let p = both (is_small u) (list_all is_small us) h in (ltb-true u 128 p.0, ascii us p.1)

word : (us : List ℕ) → list_all is_small us ≡ true → data_of (tree.text us) ≡ string us
word us h = ap string (utf8_of-ascii us (ascii us h))

word-utf16 : (us : List ℕ) → list_all is_small us ≡ true → IsUtf16 us
word-utf16 us h = IsUtf16-ascii us (ascii us h)

small_event : (kind : EventKind) → list_all is_small (event_word kind) ≡ true
small_event K.Click = refl
small_event K.Focus = refl
small_event K.Blur = refl
small_event K.Submit = refl
small_event K.Change = refl
small_event K.Input = refl

small_reason : (reason : Reason) → list_all is_small (reason_word reason) ≡ true
small_reason R.Mismatch = refl
small_reason R.Report = refl
small_reason R.Fuel = refl
small_reason R.Cells = refl
small_reason R.Units = refl
small_reason R.Nodes = refl
small_reason R.Depth = refl
small_reason R.Queue = refl
small_reason R.Replies = refl
small_reason R.NotWhole = refl
small_reason R.Infinite = refl
small_reason R.OutOfRange = refl
small_reason R.Hole = refl
small_reason R.NotInProfile = refl
small_reason R.ObjectToPrimitive = refl
small_reason R.BadArgument = refl
small_reason R.LoneSurrogate = refl
small_reason R.TextTooLong = refl
small_reason R.Memory = refl
small_reason R.Closed = refl

-- ---- trees

abbrev pub list_tree : List Tree → Tree
list_tree ts = tree.array (elements_of ts)

abbrev number_tree : ℕ → Tree
number_tree n = tree.number (pos n)

elements_data : (ts : List Tree) → tree.items_of (elements_of ts) ≡ items_of (map data_of ts)
elements_data [] = refl
elements_data (t ∷ ts) = ap (λ is. Rattle.serde_json.specs.Data.item (data_of t) is) (elements_data ts)

pub list_data : (ts : List Tree) → data_of (list_tree ts) ≡ list_of (map data_of ts)
list_data ts = ap array (elements_data ts)

abbrev pub AllTrees : List Tree → Type 0
AllTrees ts = AllByRecursion IsDatum ts

pub all_data : (ts : List Tree) → AllTrees ts → AreData (elements_of ts)
all_data [] h = tt
all_data (t ∷ ts) h = (h.0, all_data ts h.1)

is_whole : (n : ℕ) → n < 2 ^ 53 → IsWhole (pos n)
is_whole n h = (omega (arith, ints), omega (arith, ints))

abbrev text_trees : Option (List ℕ) → List Tree
text_trees None = []
text_trees (Some text) = tree.text text ∷ []

abbrev place_trees : Option ℕ → List Tree
place_trees None = []
place_trees (Some place) = number_tree place ∷ []

abbrev item_trees : Reported → List Tree
item_trees (event kind node text place) = tree.text (codes "event") ∷ tree.text (event_word kind) ∷ number_tree node ∷ (text_trees text ++ place_trees place)
item_trees (call k name args) = tree.text (codes "call") ∷ number_tree k ∷ tree.text name ∷ args_tree args ∷ []
item_trees (reply k) = tree.text (codes "reply") ∷ number_tree k ∷ []

abbrev pub item_tree : Reported → Tree
item_tree r = list_tree (item_trees r)

detail_data : (text : Option (List ℕ)) (place : Option ℕ) → map data_of (text_trees text ++ place_trees place) ≡ detail_values text place
detail_data None None = refl
detail_data None (Some place) = refl
detail_data (Some text) None = refl
detail_data (Some text) (Some place) = refl

item_data : (r : Reported) → data_of (item_tree r) ≡ item_value r
item_data (event kind node text place) =
    list_data (item_trees (event kind node text place))
    ∙ ap₂ (λ a ds. list_of (a ∷ ds)) (word (codes "event") refl)
    (ap₂ (λ a ds. a ∷ number_value node ∷ ds) (word (event_word kind) (small_event kind)) (detail_data text place))
item_data (call k name args) =
    list_data (item_trees (call k name args))
    ∙ ap (λ a. list_of (a ∷ number_value k ∷ text_value name ∷ data_of (args_tree args) ∷ [])) (word (codes "call") refl)
item_data (reply k) =
    list_data (item_trees (reply k)) ∙ ap (λ a. list_of (a ∷ number_value k ∷ [])) (word (codes "reply") refl)

abbrev IfText : Option (List ℕ) → Type 0
IfText None = Unit {0}
IfText (Some text) = IsUtf16 text

abbrev IfPlace : Option ℕ → Type 0
IfPlace None = Unit {0}
IfPlace (Some place) = place < 2 ^ 32

detail_parts : (kind : EventKind) (text : Option (List ℕ)) (place : Option ℕ) → HasDetail kind text place → IfText text × IfPlace place
detail_parts K.Click None None h = (tt, tt)
detail_parts K.Click None (Some place) h = absurd h
detail_parts K.Click (Some text) None h = absurd h
detail_parts K.Click (Some text) (Some place) h = absurd h
detail_parts K.Focus None None h = (tt, tt)
detail_parts K.Focus None (Some place) h = absurd h
detail_parts K.Focus (Some text) None h = absurd h
detail_parts K.Focus (Some text) (Some place) h = absurd h
detail_parts K.Blur None None h = (tt, tt)
detail_parts K.Blur None (Some place) h = absurd h
detail_parts K.Blur (Some text) None h = absurd h
detail_parts K.Blur (Some text) (Some place) h = absurd h
detail_parts K.Submit None None h = (tt, tt)
detail_parts K.Submit None (Some place) h = absurd h
detail_parts K.Submit (Some text) None h = absurd h
detail_parts K.Submit (Some text) (Some place) h = absurd h
detail_parts K.Change None None h = (tt, tt)
detail_parts K.Change None (Some place) h = (tt, h)
detail_parts K.Change (Some text) None h = absurd h
detail_parts K.Change (Some text) (Some place) h = absurd h
detail_parts K.Input None None h = absurd h
detail_parts K.Input None (Some place) h = absurd h
detail_parts K.Input (Some text) None h = (h, tt)
detail_parts K.Input (Some text) (Some place) h = absurd h

details : (text : Option (List ℕ)) (place : Option ℕ) → IfText text → IfPlace place → AllTrees (text_trees text ++ place_trees place)
details None None t p = tt
details None (Some place) t p = (is_whole place (omega (arith, p)), tt)
details (Some text) None t p = (t, tt)
details (Some text) (Some place) t p = (t, (is_whole place (omega (arith, p)), tt))

item_datum : (r : Reported) → IsItem r → IsDatum (item_tree r)
item_datum (event kind node text place) h =
    let d = detail_parts kind text place h.1 in
    all_data (item_trees (event kind node text place))
    (word-utf16 (codes "event") refl, (word-utf16 (event_word kind) (small_event kind), (is_whole node (omega (arith, h.0)), details text place d.0 d.1)))
item_datum (call k name args) h =
    all_data (item_trees (call k name args))
    (word-utf16 (codes "call") refl, (is_whole k (omega (arith, h.0)), (IsUtf16-IsName name h.1, (h.2.are, tt))))
item_datum (reply k) h =
    all_data (item_trees (reply k)) (word-utf16 (codes "reply") refl, (is_whole k (omega (arith, h)), tt))

-- ---- batches

abbrev pub batch_tree : Contents → Tree
batch_tree b = tree.object (tree.field (codes "batch") (number_tree b.number) (tree.field (codes "items") (list_tree (map item_tree b.items)) tree.no_fields))

pub items_data : (rs : List Reported) → map data_of (map item_tree rs) ≡ map item_value rs
items_data [] = refl
items_data (r ∷ rs) = ap₂ (λ x xs. x ∷ xs) (item_data r) (items_data rs)

name_same : (us : List ℕ) → list_all is_small us ≡ true → utf8_of us ≡ us
name_same us h = utf8_of-ascii us (ascii us h)

pub batch_data : (b : Contents) → data_of (batch_tree b) ≡ batch_value b
batch_data b =
    ap₂ (λ first second. object (member first (number_value b.number) (member second (data_of (list_tree (map item_tree b.items))) no_members))) (name_same (codes "batch") refl) (name_same (codes "items") refl)
    ∙ ap (λ is. object (member (codes "batch") (number_value b.number) (member (codes "items") is no_members))) (list_data (map item_tree b.items) ∙ ap list_of (items_data b.items))

pub items_datum : (rs : List Reported) → AllByRecursion IsItem rs → AllTrees (map item_tree rs)
items_datum [] h = tt
items_datum (r ∷ rs) h = (item_datum r h.0, items_datum rs h.1)

batch_before_items : slice_cmp nat_cmp (utf8_of (codes "batch")) (utf8_of (codes "items")) ≡ Less
batch_before_items = ap₂ (λ a b. slice_cmp nat_cmp a b) (name_same (codes "batch") refl) (name_same (codes "items") refl)

pub batch_datum : (b : Contents) → IsBatch b → IsDatum (batch_tree b)
batch_datum b h = (
  (word-utf16 (codes "batch") refl, is_whole b.number h.bounded, (word-utf16 (codes "items") refl, all_data (map item_tree b.items) (items_datum b.items h.items), tt)),
  ((batch_before_items, tt), (tt, tt)),
)

detail_depth : (text : Option (List ℕ)) (place : Option ℕ) → items_depth (items_of (detail_values text place)) ≤ 0
detail_depth None None = omega arith
detail_depth None (Some place) = omega arith
detail_depth (Some text) None = omega arith
detail_depth (Some text) (Some place) = omega arith

item_depth : (r : Reported) → IsItem r → depth (item_value r) ≤ 9
item_depth (event kind node text place) h = omega (arith, detail_depth text place)
item_depth (call k name args) h = let low : depth (data_of (args_tree args)) ≤ 8 = h.2.shallow in omega (arith, low)
item_depth (reply k) h = omega arith

pub all_depth : (rs : List Reported) → AllByRecursion IsItem rs → items_depth (items_of (map item_value rs)) ≤ 9
all_depth [] h = omega arith
all_depth (r ∷ rs) h = omega (arith, item_depth r h.0, all_depth rs h.1)

batch_depth : (b : Contents) → IsBatch b → nesting (batch_tree b) ≤ 127
batch_depth b h =
    let low : depth (batch_value b) ≤ 127 = omega (arith, all_depth b.items h.items) in
    subst (λ d. depth d ≤ 127) (sym (batch_data b)) low

batch_canonical : (b : Contents) → canonical_text (batch_tree b) ≡ batch_text b
batch_canonical b = ap compact_text (batch_data b)

-- the text of a batch is read as its value
pub value_of-batch_text : (b : Contents) → IsBatch b → IsUtf8 (batch_text b) → value_of (batch_text b) ≡ Some (batch_value b)
value_of-batch_text b h utf8 =
    let is = value_of-canonical_text (batch_tree b) (batch_datum b h) (batch_depth b h) (subst IsUtf8 (sym (batch_canonical b)) utf8) in
    ap value_of (sym (batch_canonical b)) ∙ is ∙ ap Some (batch_data b)

pub batch_text-one : (b c : Contents) → IsBatch b → IsBatch c → batch_text b ≡ batch_text c → b ≡ c
batch_text-one b c h g e =
    let trees = canonical_text-one (batch_tree b) (batch_tree c) (batch_datum b h) (batch_datum c g) (batch_canonical b ∙ e ∙ sym (batch_canonical c)) in
    batch_same b c h g (sym (batch_data b) ∙ ap data_of trees ∙ batch_data c)

-- ---- answers

abbrev ended_tree : Option Reason → Tree
ended_tree None = tree.null
ended_tree (Some reason) = tree.text (reason_word reason)

abbrev served_tree : Served → Tree
served_tree s = list_tree (number_tree s.number ∷ number_tree s.time ∷ s.reply ∷ [])

abbrev answer_tree : Said → Tree
answer_tree a = tree.object (tree.field (codes "batch") (number_tree a.number) (tree.field (codes "ended") (ended_tree a.ended) (tree.field (codes "served") (list_tree (map served_tree a.served)) tree.no_fields)))

ended_data : (ended : Option Reason) → data_of (ended_tree ended) ≡ ended_value ended
ended_data None = refl
ended_data (Some reason) = word (reason_word reason) (small_reason reason)

served_data : (ss : List Served) → map data_of (map served_tree ss) ≡ map served_value ss
served_data [] = refl
served_data (s ∷ ss) = ap₂ (λ x xs. x ∷ xs) (list_data (number_tree s.number ∷ number_tree s.time ∷ s.reply ∷ [])) (served_data ss)

pub answer_data : (a : Said) → data_of (answer_tree a) ≡ answer_value a
answer_data a =
    let n = number_value a.number in
    let s = data_of (list_tree (map served_tree a.served)) in
    let e = data_of (ended_tree a.ended) in
    ap₂ (λ first second. object (member first n (member second e (member (utf8_of (codes "served")) s no_members)))) (name_same (codes "batch") refl) (name_same (codes "ended") refl)
    ∙ ap₂ (λ third ended. object (member (codes "batch") n (member (codes "ended") ended (member third s no_members)))) (name_same (codes "served") refl) (ended_data a.ended)
    ∙ ap (λ is. object (member (codes "batch") n (member (codes "ended") (ended_value a.ended) (member (codes "served") is no_members)))) (list_data (map served_tree a.served) ∙ ap list_of (served_data a.served))

ended_datum : (ended : Option Reason) → IsDatum (ended_tree ended)
ended_datum None = tt
ended_datum (Some reason) = word-utf16 (reason_word reason) (small_reason reason)

served_datum : (ss : List Served) → AllByRecursion IsServed ss → AllTrees (map served_tree ss)
served_datum [] h = tt
served_datum (s ∷ ss) h = ((is_whole s.number h.0.number, (is_whole s.time h.0.time, (h.0.reply, tt))), served_datum ss h.1)

before : (a b : List ℕ) → list_all is_small a ≡ true → list_all is_small b ≡ true → slice_cmp nat_cmp a b ≡ Less → slice_cmp nat_cmp (utf8_of a) (utf8_of b) ≡ Less
before a b h g e = ap₂ (λ x y. slice_cmp nat_cmp x y) (name_same a h) (name_same b g) ∙ e

pub answer_datum : (a : Said) → IsAnswer a → IsDatum (answer_tree a)
answer_datum a h = (
  (word-utf16 (codes "batch") refl, is_whole a.number h.number, (word-utf16 (codes "ended") refl, ended_datum a.ended, (word-utf16 (codes "served") refl, all_data (map served_tree a.served) (served_datum a.served h.served), tt))),
  ((before (codes "batch") (codes "ended") refl refl refl, (before (codes "batch") (codes "served") refl refl refl, tt)), ((before (codes "ended") (codes "served") refl refl refl, tt), (tt, tt))),
)

pub answer_text-one : (a b : Said) → IsAnswer a → IsAnswer b → answer_text a ≡ answer_text b → a ≡ b
answer_text-one a b h g e =
    let x : canonical_text (answer_tree a) ≡ answer_text a = ap compact_text (answer_data a) in
    let y : canonical_text (answer_tree b) ≡ answer_text b = ap compact_text (answer_data b) in
    let trees = canonical_text-one (answer_tree a) (answer_tree b) (answer_datum a h) (answer_datum b g) (x ∙ e ∙ sym y) in
    answer_same a b h g (sym (answer_data a) ∙ ap data_of trees ∙ answer_data b)
