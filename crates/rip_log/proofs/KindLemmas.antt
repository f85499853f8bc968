-- The entries, told by their words.
use Rattle.std.proofs.Common.{◌≡◌, ◌≢◌, ℕ, ◌<◌, ◌≤◌, ◌^◌, List, [], ◌∷◌, cond, bytes_eq, codes, decimal, Option, refl, sym, ap, subst, ◌∙◌, inl, inr, arith}
use Rattle.std.proofs.lemmas.Fmt.{decimal_injective}
use Rattle.std.specs.Prelude.{Some, None, IsNone}
use Rattle.rip_data.specs.Datum.{Tree, canonical_text}
use Rattle.rip_wire.specs.Batches.{Contents, items_text, IsBatch, AreItems}
use Rattle.rip_wire.specs.Items.{Reported}
use Rattle.rip_wire.specs.declared.ending.Ending.{Ending}
use Rattle.rip_log.specs.Entries.{Recorded, opened, admitted, served, done, closed, ended, entry_words}
use Rattle.rip_log.specs.Parts.{identifier_text, name_text, args_text}
use Rattle.rip_log.specs.Ranges.{IsRecorded, IsStatus}
use Rattle.rip_log.proofs.EndingLemmas.{first_same, rest_same, no_words}
use Rattle.rip_log.proofs.Numbers.{number_same}

-- which kind of entry a first word begins
unfoldable pub kind_of : List ℕ → ℕ
kind_of w = cond (bytes_eq w (codes "open")) 0 (cond (bytes_eq w (codes "batch")) 1 (cond (bytes_eq w (codes "serve")) 2 (cond (bytes_eq w (codes "done")) 3 (cond (bytes_eq w (codes "close")) 4 (cond (bytes_eq w (codes "end")) 5 (6))))))

unfoldable pub kind : Recorded → ℕ
kind (opened turn session id seed time) = 0
kind (admitted turn session batch) = 1
kind (served turn session batch number name args time reply) = 2
kind (done turn session batch how) = 3
kind (closed turn session) = 4
kind (ended turn status) = 5

pub kind_same : (r : Recorded) (w : List ℕ) (rest : List (List ℕ)) → w ∷ rest ≡ entry_words r → kind_of w ≡ kind r
unfolding kind_of kind
kind_same (opened turn session id seed time) w rest e = ap kind_of (first_same w (codes "open") rest _ e)
kind_same (admitted turn session batch) w rest e = ap kind_of (first_same w (codes "batch") rest _ e)
kind_same (served turn session batch number name args time reply) w rest e = ap kind_of (first_same w (codes "serve") rest _ e)
kind_same (done turn session batch how) w rest e = ap kind_of (first_same w (codes "done") rest _ e)
kind_same (closed turn session) w rest e = ap kind_of (first_same w (codes "close") rest _ e)
kind_same (ended turn status) w rest e = ap kind_of (first_same w (codes "end") rest _ e)

kind_open : kind_of (codes "open") ≡ 0
unfolding kind_of
kind_open = refl

kind_batch : kind_of (codes "batch") ≡ 1
unfolding kind_of
kind_batch = refl

kind_serve : kind_of (codes "serve") ≡ 2
unfolding kind_of
kind_serve = refl

kind_done : kind_of (codes "done") ≡ 3
unfolding kind_of
kind_done = refl

kind_close : kind_of (codes "close") ≡ 4
unfolding kind_of
kind_close = refl

kind_end : kind_of (codes "end") ≡ 5
unfolding kind_of
kind_end = refl

pub some_words : (ws : List (List ℕ)) → ws ≡ [] → (r : Recorded) → IsRecorded r → ws ≡ entry_words r → ⊥
some_words ws none (opened turn session id seed time) h e = no_words _ _ (sym none ∙ e)
some_words ws none (admitted turn session batch) h e = no_words _ _ (sym none ∙ e)
some_words ws none (served turn session batch number name args time reply) h e = no_words _ _ (sym none ∙ e)
some_words ws none (done turn session batch how) h e = no_words _ _ (sym none ∙ e)
some_words ws none (closed turn session) h e = no_words _ _ (sym none ∙ e)
some_words ws none (ended turn status) h e = no_words _ _ (sym none ∙ e)

pub only_opened : (ws : List (List ℕ)) (w : List ℕ) (rest : List (List ℕ)) → ws ≡ w ∷ rest → w ≡ codes "open"
    → ((turn session id seed time : ℕ) → IsRecorded (opened turn session id seed time) → codes "open" ∷ rest ≡ entry_words (opened turn session id seed time) → ⊥)
    → (r : Recorded) → IsRecorded r → ws ≡ entry_words r → ⊥
unfolding kind
only_opened ws w rest is word none (opened turn session id seed time) h e = none turn session id seed time h (ap (λ x. x ∷ rest) (sym word) ∙ sym is ∙ e)
only_opened ws w rest is word none (admitted turn session batch) h e = omega (arith, kind_same (admitted turn session batch) w rest (sym is ∙ e), ap kind_of word, kind_open)
only_opened ws w rest is word none (served turn session batch number name args time reply) h e = omega (arith, kind_same (served turn session batch number name args time reply) w rest (sym is ∙ e), ap kind_of word, kind_open)
only_opened ws w rest is word none (done turn session batch how) h e = omega (arith, kind_same (done turn session batch how) w rest (sym is ∙ e), ap kind_of word, kind_open)
only_opened ws w rest is word none (closed turn session) h e = omega (arith, kind_same (closed turn session) w rest (sym is ∙ e), ap kind_of word, kind_open)
only_opened ws w rest is word none (ended turn status) h e = omega (arith, kind_same (ended turn status) w rest (sym is ∙ e), ap kind_of word, kind_open)

pub only_admitted : (ws : List (List ℕ)) (w : List ℕ) (rest : List (List ℕ)) → ws ≡ w ∷ rest → w ≡ codes "batch"
    → ((turn session : ℕ) (batch : Contents) → IsRecorded (admitted turn session batch) → codes "batch" ∷ rest ≡ entry_words (admitted turn session batch) → ⊥)
    → (r : Recorded) → IsRecorded r → ws ≡ entry_words r → ⊥
unfolding kind
only_admitted ws w rest is word none (opened turn session id seed time) h e = omega (arith, kind_same (opened turn session id seed time) w rest (sym is ∙ e), ap kind_of word, kind_batch)
only_admitted ws w rest is word none (admitted turn session batch) h e = none turn session batch h (ap (λ x. x ∷ rest) (sym word) ∙ sym is ∙ e)
only_admitted ws w rest is word none (served turn session batch number name args time reply) h e = omega (arith, kind_same (served turn session batch number name args time reply) w rest (sym is ∙ e), ap kind_of word, kind_batch)
only_admitted ws w rest is word none (done turn session batch how) h e = omega (arith, kind_same (done turn session batch how) w rest (sym is ∙ e), ap kind_of word, kind_batch)
only_admitted ws w rest is word none (closed turn session) h e = omega (arith, kind_same (closed turn session) w rest (sym is ∙ e), ap kind_of word, kind_batch)
only_admitted ws w rest is word none (ended turn status) h e = omega (arith, kind_same (ended turn status) w rest (sym is ∙ e), ap kind_of word, kind_batch)

pub only_served : (ws : List (List ℕ)) (w : List ℕ) (rest : List (List ℕ)) → ws ≡ w ∷ rest → w ≡ codes "serve"
    → ((turn session batch number : ℕ) (name : List ℕ) (args : List Tree) (time : ℕ) (reply : Tree) → IsRecorded (served turn session batch number name args time reply) → codes "serve" ∷ rest ≡ entry_words (served turn session batch number name args time reply) → ⊥)
    → (r : Recorded) → IsRecorded r → ws ≡ entry_words r → ⊥
unfolding kind
only_served ws w rest is word none (opened turn session id seed time) h e = omega (arith, kind_same (opened turn session id seed time) w rest (sym is ∙ e), ap kind_of word, kind_serve)
only_served ws w rest is word none (admitted turn session batch) h e = omega (arith, kind_same (admitted turn session batch) w rest (sym is ∙ e), ap kind_of word, kind_serve)
only_served ws w rest is word none (served turn session batch number name args time reply) h e = none turn session batch number name args time reply h (ap (λ x. x ∷ rest) (sym word) ∙ sym is ∙ e)
only_served ws w rest is word none (done turn session batch how) h e = omega (arith, kind_same (done turn session batch how) w rest (sym is ∙ e), ap kind_of word, kind_serve)
only_served ws w rest is word none (closed turn session) h e = omega (arith, kind_same (closed turn session) w rest (sym is ∙ e), ap kind_of word, kind_serve)
only_served ws w rest is word none (ended turn status) h e = omega (arith, kind_same (ended turn status) w rest (sym is ∙ e), ap kind_of word, kind_serve)

pub only_done : (ws : List (List ℕ)) (w : List ℕ) (rest : List (List ℕ)) → ws ≡ w ∷ rest → w ≡ codes "done"
    → ((turn session batch : ℕ) (how : Option Ending) → IsRecorded (done turn session batch how) → codes "done" ∷ rest ≡ entry_words (done turn session batch how) → ⊥)
    → (r : Recorded) → IsRecorded r → ws ≡ entry_words r → ⊥
unfolding kind
only_done ws w rest is word none (opened turn session id seed time) h e = omega (arith, kind_same (opened turn session id seed time) w rest (sym is ∙ e), ap kind_of word, kind_done)
only_done ws w rest is word none (admitted turn session batch) h e = omega (arith, kind_same (admitted turn session batch) w rest (sym is ∙ e), ap kind_of word, kind_done)
only_done ws w rest is word none (served turn session batch number name args time reply) h e = omega (arith, kind_same (served turn session batch number name args time reply) w rest (sym is ∙ e), ap kind_of word, kind_done)
only_done ws w rest is word none (done turn session batch how) h e = none turn session batch how h (ap (λ x. x ∷ rest) (sym word) ∙ sym is ∙ e)
only_done ws w rest is word none (closed turn session) h e = omega (arith, kind_same (closed turn session) w rest (sym is ∙ e), ap kind_of word, kind_done)
only_done ws w rest is word none (ended turn status) h e = omega (arith, kind_same (ended turn status) w rest (sym is ∙ e), ap kind_of word, kind_done)

pub only_closed : (ws : List (List ℕ)) (w : List ℕ) (rest : List (List ℕ)) → ws ≡ w ∷ rest → w ≡ codes "close"
    → ((turn session : ℕ) → IsRecorded (closed turn session) → codes "close" ∷ rest ≡ entry_words (closed turn session) → ⊥)
    → (r : Recorded) → IsRecorded r → ws ≡ entry_words r → ⊥
unfolding kind
only_closed ws w rest is word none (opened turn session id seed time) h e = omega (arith, kind_same (opened turn session id seed time) w rest (sym is ∙ e), ap kind_of word, kind_close)
only_closed ws w rest is word none (admitted turn session batch) h e = omega (arith, kind_same (admitted turn session batch) w rest (sym is ∙ e), ap kind_of word, kind_close)
only_closed ws w rest is word none (served turn session batch number name args time reply) h e = omega (arith, kind_same (served turn session batch number name args time reply) w rest (sym is ∙ e), ap kind_of word, kind_close)
only_closed ws w rest is word none (done turn session batch how) h e = omega (arith, kind_same (done turn session batch how) w rest (sym is ∙ e), ap kind_of word, kind_close)
only_closed ws w rest is word none (closed turn session) h e = none turn session h (ap (λ x. x ∷ rest) (sym word) ∙ sym is ∙ e)
only_closed ws w rest is word none (ended turn status) h e = omega (arith, kind_same (ended turn status) w rest (sym is ∙ e), ap kind_of word, kind_close)

pub only_ended : (ws : List (List ℕ)) (w : List ℕ) (rest : List (List ℕ)) → ws ≡ w ∷ rest → w ≡ codes "end"
    → ((turn status : ℕ) → IsRecorded (ended turn status) → codes "end" ∷ rest ≡ entry_words (ended turn status) → ⊥)
    → (r : Recorded) → IsRecorded r → ws ≡ entry_words r → ⊥
unfolding kind
only_ended ws w rest is word none (opened turn session id seed time) h e = omega (arith, kind_same (opened turn session id seed time) w rest (sym is ∙ e), ap kind_of word, kind_end)
only_ended ws w rest is word none (admitted turn session batch) h e = omega (arith, kind_same (admitted turn session batch) w rest (sym is ∙ e), ap kind_of word, kind_end)
only_ended ws w rest is word none (served turn session batch number name args time reply) h e = omega (arith, kind_same (served turn session batch number name args time reply) w rest (sym is ∙ e), ap kind_of word, kind_end)
only_ended ws w rest is word none (done turn session batch how) h e = omega (arith, kind_same (done turn session batch how) w rest (sym is ∙ e), ap kind_of word, kind_end)
only_ended ws w rest is word none (closed turn session) h e = omega (arith, kind_same (closed turn session) w rest (sym is ∙ e), ap kind_of word, kind_end)
only_ended ws w rest is word none (ended turn status) h e = none turn status h (ap (λ x. x ∷ rest) (sym word) ∙ sym is ∙ e)

pub no_keyword : (ws : List (List ℕ)) (w : List ℕ) (rest : List (List ℕ)) → ws ≡ w ∷ rest → w ≢ codes "open" → w ≢ codes "batch" → w ≢ codes "serve" → w ≢ codes "done" → w ≢ codes "close" → w ≢ codes "end" → (r : Recorded) → IsRecorded r → ws ≡ entry_words r → ⊥
no_keyword ws w rest is no_open no_batch no_serve no_done no_close no_end (opened turn session id seed time) h e = no_open (first_same w (codes "open") rest _ (sym is ∙ e))
no_keyword ws w rest is no_open no_batch no_serve no_done no_close no_end (admitted turn session batch) h e = no_batch (first_same w (codes "batch") rest _ (sym is ∙ e))
no_keyword ws w rest is no_open no_batch no_serve no_done no_close no_end (served turn session batch number name args time reply) h e = no_serve (first_same w (codes "serve") rest _ (sym is ∙ e))
no_keyword ws w rest is no_open no_batch no_serve no_done no_close no_end (done turn session batch how) h e = no_done (first_same w (codes "done") rest _ (sym is ∙ e))
no_keyword ws w rest is no_open no_batch no_serve no_done no_close no_end (closed turn session) h e = no_close (first_same w (codes "close") rest _ (sym is ∙ e))
no_keyword ws w rest is no_open no_batch no_serve no_done no_close no_end (ended turn status) h e = no_end (first_same w (codes "end") rest _ (sym is ∙ e))

-- ---- numbers

pub status_small : (n : ℕ) → IsStatus n → n < 2 ^ 64
status_small n (inl nil) = omega (arith, nil)
status_small n (inr three) = omega (arith, three)

pub other_number : (ws : List (List ℕ)) (n : ℕ) (rest : List (List ℕ)) → ws ≡ decimal n ∷ rest → n < 2 ^ 64 → 2 ^ 53 ≤ n → (m : ℕ) (others : List (List ℕ)) → m < 2 ^ 53 → ws ≡ decimal m ∷ others → ⊥
other_number ws n rest is hn large m others hm e = omega (arith, (number_same n m rest others hn (omega arith) (sym is ∙ e)).0)

pub zero_number : (ws : List (List ℕ)) (n : ℕ) (rest : List (List ℕ)) → ws ≡ decimal n ∷ rest → n ≡ 0 → (m : ℕ) (others : List (List ℕ)) → 1 ≤ m → m < 2 ^ 53 → ws ≡ decimal m ∷ others → ⊥
zero_number ws n rest is zero m others some hm e = omega (arith, (number_same n m rest others (omega arith) (omega arith) (sym is ∙ e)).0)

pub other_status : (ws : List (List ℕ)) (t : ℕ) (a : List (List ℕ)) (n : ℕ) (rest : List (List ℕ)) → ws ≡ decimal t ∷ a → a ≡ decimal n ∷ rest → n < 2 ^ 64 → (IsStatus n → ⊥) → (turn status : ℕ) → IsRecorded (ended turn status) → codes "end" ∷ ws ≡ entry_words (ended turn status) → ⊥
other_status ws t a n rest is next hn none turn status h e =
    let behind = rest_same (decimal t) (decimal turn) a (decimal status ∷ []) (sym is ∙ rest_same (codes "end") (codes "end") ws (decimal turn ∷ decimal status ∷ []) e) in
    let same : n ≡ status = decimal_injective n status hn (status_small status h.1) (first_same (decimal n) (decimal status) rest [] (sym next ∙ behind)) in
    none (subst IsStatus (sym same) h.1)

-- ---- batches

pub batch_items : (batch : Contents) → IsBatch batch → AreItems batch.items
batch_items batch h = record { few = h.few; each = h.items }

pub no_items : (ws : List (List ℕ)) (n : ℕ) (word : List ℕ) (rest : List (List ℕ)) → ws ≡ decimal n ∷ word ∷ rest → ((items : List Reported) → AreItems items → word ≡ items_text items → ⊥)
    → (batch : Contents) → IsBatch batch → ws ≡ decimal batch.number ∷ items_text batch.items ∷ [] → ⊥
no_items ws n word rest is none batch h e =
    let others = rest_same (decimal n) (decimal batch.number) (word ∷ rest) (items_text batch.items ∷ []) (sym is ∙ e) in
    none batch.items (batch_items batch h) (first_same word (items_text batch.items) rest [] others)

pub no_batch_0 : (ws : List (List ℕ)) (n : ℕ) (rest : List (List ℕ)) → ws ≡ decimal n ∷ rest → n ≡ 0 → (batch : Contents) → IsBatch batch → ws ≡ decimal batch.number ∷ items_text batch.items ∷ [] → ⊥
no_batch_0 ws n rest is zero batch h e = zero_number ws n rest is zero batch.number (items_text batch.items ∷ []) h.from_one h.bounded e

-- ---- what stands behind the turn and the session

pub opened_tail : (ws : List (List ℕ)) (t s : ℕ) (a : List (List ℕ)) → ws ≡ decimal t ∷ decimal s ∷ a → (turn session id seed time : ℕ) → codes "open" ∷ ws ≡ entry_words (opened turn session id seed time) → a ≡ identifier_text id ∷ decimal seed ∷ decimal time ∷ []
opened_tail ws t s a is turn session id seed time e =
    rest_same (decimal s) (decimal session) a (identifier_text id ∷ decimal seed ∷ decimal time ∷ [])
    (rest_same (decimal t) (decimal turn) (decimal s ∷ a) (decimal session ∷ identifier_text id ∷ decimal seed ∷ decimal time ∷ []) (sym is ∙ rest_same (codes "open") (codes "open") ws _ e))

pub served_tail : (ws : List (List ℕ)) (t s : ℕ) (a : List (List ℕ)) → ws ≡ decimal t ∷ decimal s ∷ a → (turn session batch number : ℕ) (name : List ℕ) (args : List Tree) (time : ℕ) (reply : Tree) → codes "serve" ∷ ws ≡ entry_words (served turn session batch number name args time reply)
    → a ≡ decimal batch ∷ decimal number ∷ name_text name ∷ args_text args ∷ decimal time ∷ canonical_text reply ∷ []
served_tail ws t s a is turn session batch number name args time reply e =
    rest_same (decimal s) (decimal session) a _
    (rest_same (decimal t) (decimal turn) (decimal s ∷ a) _ (sym is ∙ rest_same (codes "serve") (codes "serve") ws _ e))

pub none_is : {A : Type 0} (o : Option A) → o ≡ None → IsNone o
none_is None e = refl
none_is (Some x) e = cc
