-- What the liar tells, item by item and batch by batch.
use Rattle.std.proofs.Common.{◌≡◌, ◌∙◌, ℕ, ◌+◌, ◌<◌, Bool, true, false, List, [], ◌∷◌, ◌++◌, map, length, get_or, take, drop, codes, refl, sym, ap, add-one}
use Rattle.std.proofs.Math.Seq.{drop-cons}
use Rattle.std.proofs.lemmas.List.{map-append, map-id, take-append-drop}
use Rattle.std.specs.Prelude.{if◌then◌else◌}
use Rattle.rip_data.specs.Datum.{Tree}
use Rattle.rip_client.specs.Bytes.{batches_of}
use Rattle.rip_client.specs.declared.list.ToldBatch.{ToldBatch}
use Rattle.rip_wire.specs.Batches.{Contents, contents_of}
use Rattle.rip_wire.specs.Items.{Reported, call, event, reply, reported_of}
use Rattle.rip_wire.specs.declared.item.Item.{Item}
use Rattle.rip_wire.specs.declared.item.Item.TheVariants as item
use Rattle.rip_gen.specs.Lies.{lied, lied_batch, lied_items, lies_in, tells_call}

-- ---- items

pub items_same : (xs : List Reported) → tells_call xs ≡ false → lied_items xs ≡ xs
items_same [] free = refl
items_same (event kind node text place ∷ xs) free = ap (λ ys. event kind node text place ∷ ys) (items_same xs free)
items_same (call number name args ∷ xs) free = cc
items_same (reply number ∷ xs) free = ap (λ ys. reply number ∷ ys) (items_same xs free)

pub items_lied : (xs zs : List Reported) (k : ℕ) (name : List ℕ) (args : List Tree) → tells_call xs ≡ false → lied_items (xs ++ call k name args ∷ zs) ≡ xs ++ call k (codes "x") args ∷ []
items_lied [] zs k name args free = refl
items_lied (event kind node text place ∷ xs) zs k name args free = ap (λ ys. event kind node text place ∷ ys) (items_lied xs zs k name args free)
items_lied (call number other them ∷ xs) zs k name args free = cc
items_lied (reply number ∷ xs) zs k name args free = ap (λ ys. reply number ∷ ys) (items_lied xs zs k name args free)

pub call_told : (xs zs : List Reported) (k : ℕ) (name : List ℕ) (args : List Tree) → tells_call (xs ++ call k name args ∷ zs) ≡ true
call_told [] zs k name args = refl
call_told (event kind node text place ∷ xs) zs k name args = call_told xs zs k name args
call_told (call number other them ∷ xs) zs k name args = refl
call_told (reply number ∷ xs) zs k name args = call_told xs zs k name args

pub none_more : (xs : List Reported) (item : Reported) → tells_call xs ≡ false → tells_call (item ∷ []) ≡ false → tells_call (xs ++ item ∷ []) ≡ false
none_more [] item free none = none
none_more (event kind node text place ∷ xs) item free none = none_more xs item free none
none_more (call number name args ∷ xs) item free none = cc
none_more (reply number ∷ xs) item free none = none_more xs item free none

-- ---- batches

batch_same : (b : Contents) → tells_call b.items ≡ false → lied_batch b ≡ b
batch_same b free = ap (λ (items : List Reported). record { number = b.number; items = items }) (items_same b.items free)

if_false : {A : Type 0} (b : Bool) (x y : A) → b ≡ false → (if b then x else y) ≡ y
if_false true x y e = absurd (cc)
if_false false x y e = refl

if_true : {A : Type 0} (b : Bool) (x y : A) → b ≡ true → (if b then x else y) ≡ x
if_true true x y e = refl
if_true false x y e = absurd (cc)

-- neither tells a call
neither : (b c : Bool) → (if b then true else c) ≡ false → (b ≡ false) × (c ≡ false)
neither true c e = absurd (cc)
neither false c e = (refl, e)

pub batches_same : (xs : List Contents) → lies_in xs ≡ false → lied xs ≡ xs
batches_same [] free = refl
batches_same (b ∷ xs) free =
    let two = neither (tells_call b.items) (lies_in xs) free in
    ap (λ y. y ∷ (if tells_call b.items then [] else lied xs)) (batch_same b two.0) ∙ ap (λ ys. b ∷ ys) (if_false (tells_call b.items) [] (lied xs) two.0 ∙ batches_same xs two.1)

pub batches_lied : (xs zs : List Contents) (b : Contents) → lies_in xs ≡ false → tells_call b.items ≡ true → lied (xs ++ b ∷ zs) ≡ xs ++ lied_batch b ∷ []
batches_lied [] zs b free tells = ap (λ ys. lied_batch b ∷ ys) (if_true (tells_call b.items) [] (lied zs) tells)
batches_lied (x ∷ xs) zs b free tells =
    let two = neither (tells_call x.items) (lies_in xs) free in
    ap (λ y. y ∷ (if tells_call x.items then [] else lied (xs ++ b ∷ zs))) (batch_same x two.0)
    ∙ ap (λ ys. x ∷ ys) (if_false (tells_call x.items) [] (lied (xs ++ b ∷ zs)) two.0 ∙ batches_lied xs zs b two.1 tells)

pub lie_told : (xs zs : List Contents) (b : Contents) → tells_call b.items ≡ true → lies_in (xs ++ b ∷ zs) ≡ true
lie_told [] zs b tells = if_true (tells_call b.items) true (lies_in zs) tells
lie_told (x ∷ xs) zs b tells = ap (λ v. if tells_call x.items then true else v) (lie_told xs zs b tells) ∙ same (tells_call x.items)
  where
    same : (v : Bool) → (if v then true else true) ≡ true
    same true = refl
    same false = refl

pub no_lie_more : (xs : List Contents) (b : Contents) → lies_in xs ≡ false → tells_call b.items ≡ false → lies_in (xs ++ b ∷ []) ≡ false
no_lie_more [] b free none = if_false (tells_call b.items) true false none
no_lie_more (x ∷ xs) b free none =
    let two = neither (tells_call x.items) (lies_in xs) free in
    if_false (tells_call x.items) true (lies_in (xs ++ b ∷ [])) two.0 ∙ no_lie_more xs b two.1 none

-- ---- in code

-- the items before one that is read, it, and those behind it
pub at_turn : {A : Type 0} (all ys : List A) (x : A) → map (λ (y : A). y) ys ≡ take (length ys) all → length ys < length all → x ≡ get_or all (length ys) x → all ≡ ys ++ x ∷ drop (length ys + 1) all
at_turn all ys x far within is =
    let behind : drop (length ys) all ≡ x ∷ drop (length ys + 1) all = drop-cons all (length ys) x within ∙ (λ j. sym is j ∷ drop (sym (add-one (length ys)) j) all) in
    sym (take-append-drop (length ys) all) ∙ ap (λ front. front ++ drop (length ys) all) (sym far ∙ map-id ys) ∙ ap (λ zs. ys ++ zs) behind

abbrev Told : List Item → List Reported
Told xs = map reported_of xs

pub items_end : (all ys told new rest : List Item) (read made : Item) (k : ℕ) (name : List ℕ) (args : List Tree) → all ≡ ys ++ read ∷ rest → map reported_of told ≡ map reported_of ys
    → tells_call (map reported_of ys) ≡ false → new ≡ told ++ made ∷ [] → reported_of read ≡ call k name args → reported_of made ≡ call k (codes "x") args
    → (map reported_of new ≡ lied_items (map reported_of all)) × (true ≡ tells_call (map reported_of all))
items_end all ys told new rest read made k name args is same free pushed read_is made_is =
    let seen : Told all ≡ Told ys ++ call k name args ∷ Told rest = ap Told is ∙ map-append reported_of ys (read ∷ rest) ∙ ap (λ r. Told ys ++ r ∷ Told rest) read_is in
    let new_is : Told new ≡ Told ys ++ call k (codes "x") args ∷ [] = ap Told pushed ∙ map-append reported_of told (made ∷ []) ∙ ap (λ r. Told told ++ r ∷ []) made_is ∙ ap (λ zs. zs ++ call k (codes "x") args ∷ []) same in
    (new_is ∙ sym (ap lied_items seen ∙ items_lied (Told ys) (Told rest) k name args free), sym (ap tells_call seen ∙ call_told (Told ys) (Told rest) k name args))

pub items_go : (ys told new : List Item) (read : Item) → map reported_of told ≡ map reported_of ys → tells_call (map reported_of ys) ≡ false → new ≡ told ++ read ∷ []
    → tells_call (reported_of read ∷ []) ≡ false → (map reported_of new ≡ map reported_of (ys ++ read ∷ [])) × (tells_call (map reported_of (ys ++ read ∷ [])) ≡ false)
items_go ys told new read same free pushed none = (
  ap Told pushed ∙ map-append reported_of told (read ∷ []) ∙ ap (λ zs. zs ++ reported_of read ∷ []) same ∙ sym (map-append reported_of ys (read ∷ [])),
  ap tells_call (map-append reported_of ys (read ∷ [])) ∙ none_more (Told ys) (reported_of read) free none,
)

pub items_over : (all ys told : List Item) → map (λ (y : Item). y) ys ≡ all → map reported_of told ≡ map reported_of ys → tells_call (map reported_of ys) ≡ false
    → (map reported_of told ≡ lied_items (map reported_of all)) × (false ≡ tells_call (map reported_of all))
items_over all ys told end same free =
    let whole : Told ys ≡ Told all = ap Told (sym (map-id ys) ∙ end) in
    let all_free : tells_call (Told all) ≡ false = ap tells_call (sym whole) ∙ free in
    (same ∙ whole ∙ sym (items_same (Told all) all_free), sym all_free)

pub no_call : (read : Item) → ((number : ℕ) (name : _) (args : _) → read ≡ item.Call number name args → ⊥) → tells_call (reported_of read ∷ []) ≡ false
no_call (item.Event kind node text place) other = refl
no_call (item.Call number name args) other = absurd (other number name args refl)
no_call (item.Reply number) other = refl

pub batches_end : (all ys told new rest : List ToldBatch) (read made : ToldBatch) → all ≡ ys ++ read ∷ rest → batches_of told ≡ batches_of ys → lies_in (batches_of ys) ≡ false
    → new ≡ told ++ made ∷ [] → contents_of made.batch ≡ lied_batch (contents_of read.batch) → tells_call (contents_of read.batch).items ≡ true
    → (batches_of new ≡ lied (batches_of all)) × (true ≡ lies_in (batches_of all))
batches_end all ys told new rest read made is same free pushed made_is tells =
    let f : ToldBatch → Contents = λ b. contents_of b.batch in
    let seen : batches_of all ≡ batches_of ys ++ f read ∷ batches_of rest = ap batches_of is ∙ map-append f ys (read ∷ rest) in
    let new_is : batches_of new ≡ batches_of ys ++ lied_batch (f read) ∷ [] = ap batches_of pushed ∙ map-append f told (made ∷ []) ∙ ap (λ r. batches_of told ++ r ∷ []) made_is ∙ ap (λ zs. zs ++ lied_batch (f read) ∷ []) same in
    (new_is ∙ sym (ap lied seen ∙ batches_lied (batches_of ys) (batches_of rest) (f read) free tells), sym (ap lies_in seen ∙ lie_told (batches_of ys) (batches_of rest) (f read) tells))

pub batches_go : (ys told new : List ToldBatch) (read made : ToldBatch) → batches_of told ≡ batches_of ys → lies_in (batches_of ys) ≡ false → new ≡ told ++ made ∷ []
    → contents_of made.batch ≡ lied_batch (contents_of read.batch) → tells_call (contents_of read.batch).items ≡ false
    → (batches_of new ≡ batches_of (ys ++ read ∷ [])) × (lies_in (batches_of (ys ++ read ∷ [])) ≡ false)
batches_go ys told new read made same free pushed made_is none =
    let f : ToldBatch → Contents = λ b. contents_of b.batch in (
      ap batches_of pushed ∙ map-append f told (made ∷ []) ∙ ap (λ r. batches_of told ++ r ∷ []) (made_is ∙ batch_same (f read) none) ∙ ap (λ zs. zs ++ f read ∷ []) same ∙ sym (map-append f ys (read ∷ [])),
      ap lies_in (map-append f ys (read ∷ [])) ∙ no_lie_more (batches_of ys) (f read) free none,
    )

pub batches_over : (all ys told : List ToldBatch) → map (λ (y : ToldBatch). y) ys ≡ all → batches_of told ≡ batches_of ys → lies_in (batches_of ys) ≡ false
    → (batches_of told ≡ lied (batches_of all)) × (false ≡ lies_in (batches_of all))
batches_over all ys told end same free =
    let whole : batches_of ys ≡ batches_of all = ap batches_of (sym (map-id ys) ∙ end) in
    let all_free : lies_in (batches_of all) ≡ false = ap lies_in (sym whole) ∙ free in
    (same ∙ whole ∙ sym (batches_same (batches_of all) all_free), sym all_free)
