-- What a queue keeps, when a call is made and when one is taken.
use Rattle.std.proofs.Common.{◌≡◌, ◌≢◌, ◌==◌, ℕ, zero, suc, ◌+◌, ◌-◌, ◌*◌, ◌/◌, ◌<◌, ◌≤◌, List, [], ◌∷◌, ◌++◌, length, take, drop, map, All, Some, sum_by, position, min, refl, sym, ap, subst, ◌∙◌, arith, append_assoc, add-one}
use Rattle.std.specs.List.{flat_map}
use Rattle.std.proofs.lemmas.Grind.{flat_map-append}
use Rattle.std.proofs.lemmas.List.{length-append, length-drop, map-append, append-nil, drop-append-le}
use Rattle.std.proofs.lemmas.List.Elements.{All-head, All-tail, All-append, All-cons, All-nil}
use Rattle.std.proofs.lemmas.List.Sums.{sum_by-cons, sum_by_push}
use Rattle.std.proofs.Math.Seq.{drop-append_seam}
use Rattle.circular_buffer.specs.Buffer.{keep_last}
use Rattle.rip_calls.specs.Calls.{Calls, MadeCall, waiting, front, front_text, front_callback, used, with_call, without_front, IsOneLine, least_text, line_of, texts_of, callback_room, IsQueue}
use Rattle.rip_calls.specs.Lines.{BeginsWithLine}
use Rattle.std.specs.Prelude.{◌↔◌, IsTrue, true, false, Option, None, slice_get, option_map, option_and_then}
use borrow.Author.Tests.{eqb-true}
use Rattle.rip_calls.proofs.LineLemmas.{length-lines, position-line, front_begins, begins_front, no_end, front_taken, end_is_of_front}

-- what follows the front waits once the front is taken
drop_more : (n : ℕ) (xs : List MadeCall) (t : MadeCall) (ts : List MadeCall) → drop n xs ≡ t ∷ ts → drop (suc n) xs ≡ ts
drop_more zero [] t ts e = absurd (cc)
drop_more zero (x ∷ xs) t ts e = cc
drop_more (suc n) [] t ts e = absurd (cc)
drop_more (suc n) (x ∷ xs) t ts e = drop_more n xs t ts e

-- the bytes of the calls are those of their texts
used_texts : (ms : List MadeCall) → sum_by (λ text. length text + 1) (texts_of ms) ≡ sum_by (λ m. length m.text + 1) ms
used_texts [] = refl
used_texts (m ∷ ms) =
    omega (arith, used_texts ms, sum_by-cons (λ text. length text + 1) m.text (texts_of ms), sum_by-cons (λ m. length m.text + 1) m ms)

-- each call takes seven bytes at least
seven_each : (ms : List MadeCall) → All (λ text. least_text ≤ length text) (texts_of ms) → 7 * length ms ≤ sum_by (λ m. length m.text + 1) ms
seven_each [] all = omega arith
seven_each (m ∷ ms) all =
    let here : 6 ≤ length m.text = All-head (λ text. least_text ≤ length text) m.text (texts_of ms) all in
    omega (arith, here, seven_each ms (All-tail (λ text. least_text ≤ length text) m.text (texts_of ms) all), sum_by-cons (λ m. length m.text + 1) m ms)

length_callbacks : (ms : List MadeCall) → length (map (λ m. m.callback) ms) ≡ length ms
length_callbacks [] = refl
length_callbacks (m ∷ ms) = ap suc (length_callbacks ms)

-- the text and the callback of the first call
text_first : (ms : List MadeCall) → slice_get (texts_of ms) 0 ≡ option_map (λ m. m.text) (slice_get ms 0)
text_first [] = refl
text_first (m ∷ ms) = refl

callback_first : (ms : List MadeCall) → slice_get (map (λ m. m.callback) ms) 0 ≡ option_map (λ m. m.callback) (slice_get ms 0)
callback_first [] = refl
callback_first (m ∷ ms) = refl

-- the bytes waiting are the length of their row
pub used_bytes : (c : Calls) (bytes : List ℕ) (ring : List (Option ℕ)) (last took : ℕ) → IsQueue c bytes ring last took → length bytes ≡ used c
used_bytes c bytes ring last took q = rw q.lines (length-lines (texts_of (waiting c)) ∙ used_texts (waiting c))

-- a list that fits is kept whole
keep_last-whole : {A : Type 0} (n : ℕ) (xs : List A) → length xs ≤ n → keep_last n xs ≡ xs
keep_last-whole n xs fits =
    let none : length xs - n ≡ 0 = omega arith in rw none refl

pub pushed : (c : Calls) (bytes : List ℕ) (ring : List (Option ℕ)) (last took room : ℕ) (call : List ℕ) (back : Option ℕ) → IsQueue c bytes ring last took → room ≡ callback_room c.limit → IsOneLine call → least_text ≤ length call → length call + length bytes < c.limit
    → IsQueue (with_call c call back) (keep_last c.limit (keep_last c.limit (bytes ++ call) ++ 10 ∷ [])) (keep_last room (ring ++ back ∷ [])) (min (last + 1) 18446744073709551615) took
pushed c bytes ring last took size call back q room_is one least room =
    let first : keep_last c.limit (bytes ++ call) ≡ bytes ++ call = keep_last-whole c.limit (bytes ++ call) (omega (arith, length-append bytes call)) in
    let whole : keep_last c.limit ((bytes ++ call) ++ 10 ∷ []) ≡ (bytes ++ call) ++ 10 ∷ [] =
    keep_last-whole c.limit ((bytes ++ call) ++ 10 ∷ []) (omega (arith, length-append bytes call, length-append (bytes ++ call) (10 ∷ []))) in
    let m : MadeCall = record { text = call; callback = back } in
    let more : waiting (with_call c call back) ≡ waiting c ++ m ∷ [] = drop-append-le c.taken c.made (m ∷ []) q.taken in
    let texts : texts_of (waiting c ++ m ∷ []) ≡ texts_of (waiting c) ++ call ∷ [] = map-append (λ m. m.text) (waiting c) (m ∷ []) in
    let backs : map (λ m. m.callback) (waiting c ++ m ∷ []) ≡ map (λ m. m.callback) (waiting c) ++ back ∷ [] =
    map-append (λ m. m.callback) (waiting c) (m ∷ []) in
    let held : length bytes ≡ used c = used_bytes c bytes ring last took q in
    let grown : length (c.made ++ m ∷ []) ≡ length c.made + 1 = length-append c.made (m ∷ []) in
    let number = q.number in
    let count : length ring ≡ length (waiting c) = ap length q.callbacks ∙ length_callbacks (waiting c) in
    let seven : 7 * length (waiting c) ≤ used c = seven_each (waiting c) q.least in
    let fits : length (ring ++ back ∷ []) ≤ size = omega (arith, count, seven, held, room, least, room_is, length-append ring (back ∷ [])) in
    let kept : keep_last size (ring ++ back ∷ []) ≡ ring ++ back ∷ [] = keep_last-whole size (ring ++ back ∷ []) fits in
    let lines : (bytes ++ call) ++ 10 ∷ [] ≡ flat_map line_of (texts_of (waiting c) ++ call ∷ []) =
    rw (flat_map-append line_of (texts_of (waiting c)) (call ∷ []), ← q.lines, append-nil, append_assoc) refl in
    rw (first, whole, kept) (record {
      lines = rw (more, texts) lines;
      callbacks = rw (more, backs, q.callbacks) refl;
      one_line = rw (more, texts) (All-append IsOneLine (texts_of (waiting c)) (call ∷ []) q.one_line (All-cons IsOneLine call [] one (All-nil IsOneLine)));
      least = rw (more, texts) (All-append (λ text. least_text ≤ length text) (texts_of (waiting c)) (call ∷ []) q.least (All-cons (λ text. least_text ≤ length text) call [] least (All-nil (λ text. least_text ≤ length text))));
      within = rw more (omega (arith, sum_by_push (λ m. length m.text + 1) (waiting c) m));
      small = q.small;
      taken = omega (arith, q.taken, grown);
      number = omega (arith, number, grown);
      taken_number = q.taken_number;
    })

pub taken : (c : Calls) (bytes : List ℕ) (ring : List (Option ℕ)) (last took end : ℕ) → IsQueue c bytes ring last took → waiting c ≢ [] → position (λ byte. byte == 10) bytes ≡ Some end
    → IsQueue (without_front c) (drop (length bytes - (length bytes - end - 1)) bytes) (drop 1 ring) last (min (took + 1) 18446744073709551615)
taken c bytes ring last took end q some found = by (waiting c) refl
  where
    by : (ws : List MadeCall) → waiting c ≡ ws → IsQueue (without_front c) (drop (length bytes - (length bytes - end - 1)) bytes) (drop 1 ring) last (min (took + 1) 18446744073709551615)
    by [] e = absurd (some e)
    by (m ∷ ms) e =
        let t = m.text in
        let ts = texts_of ms in
        let texts : texts_of (waiting c) ≡ t ∷ ts = ap texts_of e in
        let all : All IsOneLine (t ∷ ts) = subst (λ ws. All IsOneLine ws) texts q.one_line in
        let least : All (λ text. least_text ≤ length text) (t ∷ ts) = subst (λ ws. All (λ text. least_text ≤ length text) ws) texts q.least in
        let rest = flat_map line_of ts in
        let lines : bytes ≡ (t ++ 10 ∷ []) ++ rest = q.lines ∙ ap (flat_map line_of) texts in
        let place : position (λ byte. byte == 10) ((t ++ 10 ∷ []) ++ rest) ≡ Some end = ap (position (λ byte. byte == 10)) (sym lines) ∙ found in
        let end_is : end ≡ length t = (let p = position-line t rest (All-head IsOneLine t ts all) in cc) in
        let long : length bytes ≡ (length t + 1) + length rest =
        ap length lines ∙ omega (arith, length-append (t ++ 10 ∷ []) rest, length-append t (10 ∷ [])) in
        let line : length (t ++ 10 ∷ []) ≡ length t + 1 = length-append t (10 ∷ []) in
        let count : length bytes - (length bytes - end - 1) ≡ length (t ++ 10 ∷ []) = omega arith in
        let left : drop (length bytes - (length bytes - end - 1)) bytes ≡ rest =
        ap (λ n. drop n bytes) count ∙ (ap (drop (length (t ++ 10 ∷ []))) lines ∙ drop-append_seam (t ++ 10 ∷ []) rest) in
        let after : waiting (without_front c) ≡ ms = rw add-one (drop_more c.taken c.made m ms e) in
        let held : used c ≡ sum_by (λ m. length m.text + 1) (m ∷ ms) = ap (sum_by (λ m. length m.text + 1)) e in
        let some_left : length c.made - c.taken ≡ suc (length ms) = sym (length-drop c.taken c.made) ∙ ap length e in
        let backs : drop 1 ring ≡ map (λ m. m.callback) ms = ap (drop 1) q.callbacks ∙ ap (λ ws. drop 1 (map (λ m. m.callback) ws)) e in
        let number = q.taken_number in
        record {
          lines = left ∙ ap (λ ws. flat_map line_of (texts_of ws)) (sym after);
          callbacks = backs ∙ ap (map (λ m. m.callback)) (sym after);
          one_line = rw after (All-tail IsOneLine t ts all);
          least = rw after (All-tail (λ text. least_text ≤ length text) t ts least);
          within = rw after (omega (arith, held, q.within, sum_by-cons (λ m. length m.text + 1) m ms));
          small = q.small;
          taken = omega arith;
          number = q.number;
          taken_number = omega (arith, number);
        }

-- where there is no line feed, no call waits
pub none_waits : {c : Calls} {bytes : List ℕ} {ring : List (Option ℕ)} {last took : ℕ} → IsQueue c bytes ring last took → None ≡ position (λ byte. byte == 10) bytes → waiting c ≡ []
none_waits {c} q none = by (waiting c) (no_end (texts_of (waiting c)) q.one_line (sym (rw q.lines at none)))
  where
    by : (ms : List MadeCall) → slice_get (texts_of ms) 0 ≡ None → ms ≡ []
    by [] e = refl
    by (m ∷ ms) e = absurd (cc)

-- the front's text, as the first of the texts
pub front_text_first : (c : Calls) → front_text c ≡ slice_get (texts_of (waiting c)) 0
front_text_first c = sym (text_first (waiting c))

pub none_front : {c : Calls} {bytes : List ℕ} {ring : List (Option ℕ)} {last took : ℕ} {text : List ℕ} → IsQueue c bytes ring last took → None ≡ position (λ byte. byte == 10) bytes → front_text c ≡ Some text → ⊥
none_front {c} {text = text} q found e =
    let none = none_waits q found in
    let gone : ◌≡◌ {A = Option (List ℕ)} None (Some text) = sym (ap (λ ws. option_map (λ m. m.text) (slice_get ws 0)) none) ∙ e in cc

-- where there is one, a call waits
pub some_waits : {c : Calls} {bytes : List ℕ} {ring : List (Option ℕ)} {last took end : ℕ} → IsQueue c bytes ring last took → Some end ≡ position (λ byte. byte == 10) bytes → waiting c ≡ [] → ⊥
some_waits {c} {bytes} {end = end} q found none =
    let empty : bytes ≡ [] = q.lines ∙ ap (λ ws. flat_map line_of (texts_of ws)) none in
    let gone : Some end ≡ None = found ∙ ap (position (λ byte. byte == 10)) empty in cc

-- the front is the text of its length with which the bytes begin
pub is_front : {c : Calls} {bytes : List ℕ} {ring : List (Option ℕ)} {last took end : ℕ} {text : List ℕ} → IsQueue c bytes ring last took → Some end ≡ position (λ byte. byte == 10) bytes → end ≡ length text → BeginsWithLine bytes text → front_text c ≡ Some text
is_front {c} {text = text} q found long begins =
    let b : BeginsWithLine (flat_map line_of (texts_of (waiting c))) text = rw (← q.lines) begins in
    let at : position (λ byte. byte == 10) (flat_map line_of (texts_of (waiting c))) ≡ Some (length text) = rw (← q.lines) (sym found ∙ ap Some long) in
    front_text_first c ∙ front_begins (texts_of (waiting c)) text q.one_line at b

pub is_longer : {c : Calls} {bytes : List ℕ} {ring : List (Option ℕ)} {last took end : ℕ} {text : List ℕ} → IsQueue c bytes ring last took → Some end ≡ position (λ byte. byte == 10) bytes → front_text c ≡ Some text → end ≡ length text
is_longer {c} {end = end} {text = text} q found e =
    end_is_of_front (texts_of (waiting c)) end text q.one_line (rw (← q.lines) (sym found)) (sym (front_text_first c) ∙ e)

pub is_other : {c : Calls} {bytes : List ℕ} {ring : List (Option ℕ)} {last took : ℕ} {text : List ℕ} → IsQueue c bytes ring last took → (IsTrue false ↔ BeginsWithLine bytes text) → front_text c ≡ Some text → ⊥
is_other {c} {text = text} q other e =
    let begins : BeginsWithLine (flat_map line_of (texts_of (waiting c))) text = begins_front (texts_of (waiting c)) text (sym (front_text_first c) ∙ e) in
    let no : false ≡ true = other.1 (rw q.lines begins) in cc

pub front_is : {c : Calls} {bytes : List ℕ} {ring : List (Option ℕ)} {last took end : ℕ} → IsQueue c bytes ring last took → Some end ≡ position (λ byte. byte == 10) bytes → Some (take end bytes) ≡ front_text c
front_is {c} {end = end} q found =
    rw q.lines (sym (front_taken (texts_of (waiting c)) end q.one_line (sym (rw q.lines at found)))) ∙ sym (front_text_first c)

pub front_none : {c : Calls} {bytes : List ℕ} {ring : List (Option ℕ)} {last took : ℕ} → IsQueue c bytes ring last took → None ≡ position (λ byte. byte == 10) bytes → None ≡ front_text c
front_none {c} q found = sym (front_text_first c ∙ no_end (texts_of (waiting c)) q.one_line (sym (rw q.lines at found)))

-- the callback of the front, as the first of the ring
pub callback_is : (c : Calls) (ring : List (Option ℕ)) (back : Option ℕ) → ring ≡ map (λ m. m.callback) (waiting c) → slice_get ring 0 ≡ Some back → front_callback c ≡ back
callback_is c ring back are e = by (waiting c) (sym (ap (λ xs. slice_get xs 0) are) ∙ e)
  where
    by : (ms : List MadeCall) → slice_get (map (λ m. m.callback) ms) 0 ≡ Some back → option_and_then (λ m. m.callback) (slice_get ms 0) ≡ back
    by [] e = absurd (cc)
    by (m ∷ ms) e = cc

pub callback_none : (c : Calls) (ring : List (Option ℕ)) → ring ≡ map (λ m. m.callback) (waiting c) → slice_get ring 0 ≡ None → front_callback c ≡ None
callback_none c ring are e = by (waiting c) (sym (ap (λ xs. slice_get xs 0) are) ∙ e)
  where
    by : (ms : List MadeCall) → slice_get (map (λ m. m.callback) ms) 0 ≡ None → option_and_then (λ m. m.callback) (slice_get ms 0) ≡ None
    by [] e = refl
    by (m ∷ ms) e = absurd (cc)

pub no_texts : (ms : List MadeCall) → texts_of ms ≡ [] → ms ≡ []
no_texts [] e = refl
no_texts (m ∷ ms) e = absurd (cc)
