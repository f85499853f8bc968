-- The lines of entries.
use Rattle.std.proofs.Common.{◌≡◌, ◌≢◌, ℕ, suc, ◌<◌, ◌^◌, ◌==◌, ◌||◌, List, [], ◌∷◌, ◌++◌, Bool, true, false, cond, length, codes, decimal, Option, Some, None, inl, inr, refl, sym, ap, subst, ◌∙◌, arith, append_assoc, length-append}
use Rattle.std.specs.List.{join_with_byte, AllByRecursion}
use Rattle.serde_json.specs.Written.{compact_text}
use Rattle.rip_base.specs.declared.report.BadReport.{BadReport}
use Rattle.rip_base.specs.declared.report.BadReport.TheVariants as B
use Rattle.rip_base.specs.declared.value.Limit.{Limit}
use Rattle.rip_base.specs.declared.value.Limit.TheVariants as L
use Rattle.rip_base.specs.declared.value.Fault.{Fault}
use Rattle.rip_base.specs.declared.value.Fault.TheVariants as F
use Rattle.rip_data.specs.Datum as tree
use Rattle.rip_wire.specs.Batches.{items_text, AreItems}
use Rattle.rip_wire.specs.Calls.{IsCallText}
use Rattle.rip_wire.specs.Items.{Reported, args_tree}
use Rattle.rip_wire.specs.Reasons.{limit_reason, fault_reason, reason_word}
use Rattle.rip_wire.specs.declared.ending.Ending.{Ending}
use Rattle.rip_wire.specs.declared.ending.Ending.TheVariants as E
use Rattle.rip_wire.proofs.PartLemmas.{item_list, item_list_data, item_list_datum, call_tree, call_data, call_datum}
use Rattle.rip_wire.proofs.TextLemmas.{IsUtf16-IsName}
use Rattle.rip_log.specs.Endings.{report_word, made_word, ending_words}
use Rattle.rip_log.specs.Entries.{Recorded, opened, admitted, served, done, closed, ended, entry_words, entry_text}
use Rattle.rip_log.specs.Lines.{HasNoFeed}
use Rattle.rip_log.specs.Parts.{IsNoneOrCallText}
use Rattle.rip_log.specs.Ranges.{IsRecorded, IsNoneOrEnding, IsStatus}
use Rattle.rip_log.specs.Words.{place_after, ends_word, words}
use Rattle.rip_log.specs.declared.words.Place.{Place}
use Rattle.rip_log.specs.declared.words.Place.TheVariants.{Outside}
use Rattle.rip_log.proofs.Closed.{after, IsClosed, decimal_closed, tree_closed, identifier_closed, words_of_joined, joined_words}
use Rattle.rip_log.proofs.KindLemmas.{batch_items}

-- ---- each word of an entry in range is closed

closed_word : (w : List ℕ) → after Outside w ≡ Some Outside → IsClosed w
closed_word w h = record { is = h }

number : (n : ℕ) → n < 2 ^ 64 → IsClosed (decimal n)
number n h = closed_word (decimal n) (decimal_closed n h)

short : (n : ℕ) → n < 2 ^ 32 → IsClosed (decimal n)
short n h = number n (omega arith)

items_closed : (items : List Reported) → AreItems items → IsClosed (items_text items)
items_closed items h =
    closed_word (items_text items) (subst (λ d. after Outside (compact_text d) ≡ Some Outside) (item_list_data items) (tree_closed (item_list items) (item_list_datum items h)))

call_closed : (text : List ℕ) → IsCallText text → IsClosed text
call_closed text h =
    let whole = subst (λ d. after Outside (compact_text d) ≡ Some Outside) (call_data h.name h.args) (tree_closed (call_tree h.name h.args) (call_datum h.name h.args h.is_name h.are_args)) in
    closed_word text (ap (after Outside) h.is ∙ whole)

report_closed : (k : BadReport) → IsClosed (report_word k)
unfolding after
report_closed B.Node = closed_word _ refl
report_closed B.Control = closed_word _ refl
report_closed B.Disabled = closed_word _ refl
report_closed B.Long = closed_word _ refl
report_closed B.Option = closed_word _ refl
report_closed B.Number = closed_word _ refl
report_closed B.Due = closed_word _ refl

limit_closed : (l : Limit) → IsClosed (reason_word (limit_reason l))
unfolding after
limit_closed L.Fuel = closed_word _ refl
limit_closed L.Cells = closed_word _ refl
limit_closed L.Units = closed_word _ refl
limit_closed L.Nodes = closed_word _ refl
limit_closed L.Depth = closed_word _ refl
limit_closed L.Queue = closed_word _ refl
limit_closed L.Replies = closed_word _ refl

fault_closed : (f : Fault) → IsClosed (reason_word (fault_reason f))
unfolding after
fault_closed F.NotWhole = closed_word _ refl
fault_closed F.Infinite = closed_word _ refl
fault_closed F.OutOfRange = closed_word _ refl
fault_closed F.Hole = closed_word _ refl
fault_closed F.NotInProfile = closed_word _ refl
fault_closed F.ObjectToPrimitive = closed_word _ refl
fault_closed F.BadArgument = closed_word _ refl
fault_closed F.LoneSurrogate = closed_word _ refl
fault_closed F.TextTooLong = closed_word _ refl

ok_closed : IsClosed (codes "ok")
unfolding after
ok_closed = closed_word _ refl

mismatch_closed : IsClosed (codes "mismatch")
unfolding after
mismatch_closed = closed_word _ refl

report_word_closed : IsClosed (codes "report")
unfolding after
report_word_closed = closed_word _ refl

memory_closed : IsClosed (codes "memory")
unfolding after
memory_closed = closed_word _ refl

none_closed : IsClosed (codes "none")
unfolding after
none_closed = closed_word _ refl

open_closed : IsClosed (codes "open")
unfolding after
open_closed = closed_word _ refl

batch_closed : IsClosed (codes "batch")
unfolding after
batch_closed = closed_word _ refl

serve_closed : IsClosed (codes "serve")
unfolding after
serve_closed = closed_word _ refl

done_closed : IsClosed (codes "done")
unfolding after
done_closed = closed_word _ refl

close_closed : IsClosed (codes "close")
unfolding after
close_closed = closed_word _ refl

end_closed : IsClosed (codes "end")
unfolding after
end_closed = closed_word _ refl

made_closed : (made : Option (List ℕ)) → IsNoneOrCallText made → IsClosed (made_word made)
made_closed None h = none_closed
made_closed (Some text) h = call_closed text h

ending_closed : (how : Option Ending) → IsNoneOrEnding how → AllByRecursion IsClosed (ending_words how)
ending_closed None h = (ok_closed, tt)
ending_closed (Some (E.Mismatch item number reported made)) h = (mismatch_closed, (short item h.0, (short number h.1, (call_closed reported h.2, (made_closed made h.3, tt)))))
ending_closed (Some (E.BadReport item kind)) h = (report_word_closed, (short item h, (report_closed kind, tt)))
ending_closed (Some (E.Limit item limit)) h = (limit_closed limit, (short item h, tt))
ending_closed (Some (E.Fault item fault)) h = (fault_closed fault, (short item h, tt))
ending_closed (Some (E.Memory item)) h = (memory_closed, (short item h, tt))
ending_closed (Some E.Closed) h = absurd h

status_closed : (status : ℕ) → IsStatus status → IsClosed (decimal status)
status_closed status h = number status (elim h [ inl nil ↦ omega (arith, nil) | inr three ↦ omega (arith, three) ])

entry_closed : (r : Recorded) → IsRecorded r → AllByRecursion IsClosed (entry_words r)
entry_closed (opened turn session id seed time) h =
    (open_closed, (number turn h.0, (short session h.1, (closed_word _ (identifier_closed id), (short seed h.3, (number time h.4, tt))))))
entry_closed (admitted turn session batch) h =
    (batch_closed, (number turn h.0, (short session h.1, (number batch.number (omega (arith, h.2.bounded)), (items_closed batch.items (batch_items batch h.2), tt)))))
entry_closed (served turn session batch k name args time reply) h =
    (serve_closed, (number turn h.0, (short session h.1, (number batch (omega (arith, h.2.bounded)), (short k h.2.number, (closed_word _ (tree_closed (tree.text name) (IsUtf16-IsName name h.2.name)), (closed_word _ (tree_closed (args_tree args) h.3.are), (number time h.2.time, (closed_word _ (tree_closed reply h.4.are), tt)))))))))
entry_closed (done turn session batch how) h =
    (done_closed, (number turn h.0, (short session h.1, (number batch (omega (arith, h.2)), ending_closed how h.3))))
entry_closed (closed turn session) h = (close_closed, (number turn h.0, (short session h.1, tt)))
entry_closed (ended turn status) h = (end_closed, (number turn h.0, (status_closed status h.1, tt)))

-- ---- the words of a line

words_of_list : (ws : List (List ℕ)) → ws ≢ [] → AllByRecursion IsClosed ws → words (join_with_byte 32 ws) ≡ ws
words_of_list [] some h = absurd (some refl)
words_of_list (w ∷ ws) some h = words_of_joined w ws h.0 h.1

cons_some : (w : List ℕ) (ws : List (List ℕ)) → w ∷ ws ≢ []
cons_some w ws e = cc

entry_some : (r : Recorded) → entry_words r ≢ []
entry_some (opened turn session id seed time) = cons_some _ _
entry_some (admitted turn session batch) = cons_some _ _
entry_some (served turn session batch number name args time reply) = cons_some _ _
entry_some (done turn session batch how) = cons_some _ _
entry_some (closed turn session) = cons_some _ _
entry_some (ended turn status) = cons_some _ _

unfoldable pub line_of : Recorded → List ℕ
line_of r = join_with_byte 32 (entry_words r)

pub words_of_line : (r : Recorded) → IsRecorded r → words (line_of r) ≡ entry_words r
unfolding line_of
words_of_line r h = words_of_list (entry_words r) (entry_some r) (entry_closed r h)

pub no_words : (line : List ℕ) → ((r : Recorded) → IsRecorded r → words line ≡ entry_words r → ⊥) → (r : Recorded) → IsRecorded r → line ≡ join_with_byte 32 (entry_words r) → ⊥
unfolding line_of
no_words line none r h e = none r h (ap words e ∙ words_of_line r h)

pub line_of_words : (line : List ℕ) (r : Recorded) → words line ≡ entry_words r → line ≡ join_with_byte 32 (entry_words r)
line_of_words line r e = sym (joined_words line) ∙ ap (join_with_byte 32) e

-- ---- line feeds

abbrev pub NoFeed : List ℕ → Type 0
NoFeed bs = AllByRecursion (λ b. b ≢ 10) bs

feed_eq : (b : ℕ) → b == 10 ≡ false → b ≢ 10
feed_eq b h e = grind arith

no_feed_after : (p q : Place) (w : List ℕ) → after p w ≡ Some q → NoFeed w
unfolding after
no_feed_after p q [] e = tt
no_feed_after p q (b ∷ w) e = by (b == 10) (ends_word p b) refl e (no_feed_after (place_after p b) q w)
  where
    by : (t u : Bool) → b == 10 ≡ t → cond (t || u) None (after (place_after p b) w) ≡ Some q → (after (place_after p b) w ≡ Some q → NoFeed w) → NoFeed (b ∷ w)
    by true u same h again = cc
    by false true same h again = cc
    by false false same h again = (feed_eq b same, again h)

no_feed_append : (a b : List ℕ) → NoFeed a → NoFeed b → NoFeed (a ++ b)
no_feed_append [] b h g = g
no_feed_append (x ∷ a) b h g = (h.0, no_feed_append a b h.1 g)

space_no_feed : (b : ℕ) → b ≡ 32 → b ≢ 10
space_no_feed b is e = omega arith

no_feed_joined : (ws : List (List ℕ)) → AllByRecursion IsClosed ws → NoFeed (join_with_byte 32 ws)
no_feed_joined [] h = tt
no_feed_joined (w ∷ []) h = no_feed_after Outside Outside w h.0.is
no_feed_joined (w ∷ v ∷ ws) h =
    no_feed_append w (32 ∷ join_with_byte 32 (v ∷ ws)) (no_feed_after Outside Outside w h.0.is) (space_no_feed 32 refl, no_feed_joined (v ∷ ws) h.1)

pub line_no_feed : (r : Recorded) → IsRecorded r → NoFeed (line_of r)
unfolding line_of
line_no_feed r h = no_feed_joined (entry_words r) (entry_closed r h)

pub all_no_feed : (bs : List ℕ) → HasNoFeed bs → NoFeed bs
all_no_feed [] h = tt
all_no_feed (b ∷ bs) h = (h 0 (omega arith), all_no_feed bs (λ k low. h (suc k) (omega arith)))

first_byte : (x y : ℕ) (a b : List ℕ) → x ∷ a ≡ y ∷ b → x ≡ y
first_byte x y a b e = cc

rest_bytes : (x y : ℕ) (a b : List ℕ) → x ∷ a ≡ y ∷ b → a ≡ b
rest_bytes x y a b e = cc

more_bytes : (x y : ℕ) (a b : List ℕ) → x ≡ y → a ≡ b → x ∷ a ≡ y ∷ b
more_bytes x y a b e f = cc

-- two texts, each cut at its first line feed
pub feed_cut : (a b r s : List ℕ) → NoFeed a → NoFeed b → a ++ 10 ∷ r ≡ b ++ 10 ∷ s → (a ≡ b) × (r ≡ s)
feed_cut [] [] r s h g e = (refl, rest_bytes 10 10 r s e)
feed_cut [] (y ∷ b) r s h g e = absurd (g.0 (sym (first_byte 10 y r (b ++ 10 ∷ s) e)))
feed_cut (x ∷ a) [] r s h g e = absurd (h.0 (first_byte x 10 (a ++ 10 ∷ r) s e))
feed_cut (x ∷ a) (y ∷ b) r s h g e =
    let same = feed_cut a b r s h.1 g.1 (rest_bytes x y (a ++ 10 ∷ r) (b ++ 10 ∷ s) e) in
    (more_bytes x y a b (first_byte x y (a ++ 10 ∷ r) (b ++ 10 ∷ s) e) same.0, same.1)

feed_within : (a r : List ℕ) → NoFeed (a ++ 10 ∷ r) → ⊥
feed_within [] r h = h.0 refl
feed_within (x ∷ a) r h = feed_within a r h.1

-- a line, its line feed and what stands behind it
pub cut_line : (r : Recorded) (rest : List ℕ) → entry_text r ++ rest ≡ line_of r ++ 10 ∷ rest
unfolding line_of
cut_line r rest = append_assoc (join_with_byte 32 (entry_words r)) (10 ∷ []) rest

pub no_feed : (text : List ℕ) → HasNoFeed text → (r : Recorded) (rest : List ℕ) → IsRecorded r → text ≡ entry_text r ++ rest → ⊥
no_feed text h r rest g e = feed_within (line_of r) rest (subst NoFeed (e ∙ cut_line r rest) (all_no_feed text h))

pub other_line : (text line behind : List ℕ) → text ≡ line ++ 10 ∷ behind → HasNoFeed line → ((r : Recorded) → IsRecorded r → line ≡ join_with_byte 32 (entry_words r) → ⊥) → (r : Recorded) (rest : List ℕ) → IsRecorded r → text ≡ entry_text r ++ rest → ⊥
unfolding line_of
other_line text line behind is h none r rest g e =
    none r g (feed_cut line (line_of r) behind rest (all_no_feed line h) (line_no_feed r g) (sym is ∙ e ∙ cut_line r rest)).0

pub first_line : (text line behind : List ℕ) (r : Recorded) → text ≡ line ++ 10 ∷ behind → line ≡ join_with_byte 32 (entry_words r) → text ≡ entry_text r ++ behind
unfolding line_of
first_line text line behind r is same = is ∙ ap (λ l. l ++ 10 ∷ behind) same ∙ sym (cut_line r behind)

pub shorter_behind : (text line behind : List ℕ) → text ≡ line ++ 10 ∷ behind → length behind < length text
shorter_behind text line behind is = omega (arith, ap length is, length-append line (10 ∷ behind))
