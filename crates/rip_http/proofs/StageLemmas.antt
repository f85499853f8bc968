-- What a stage tells of the bytes.
use Rattle.std.proofs.Common.{◌≡◌, ℕ, ◌+◌, ◌-◌, ◌≤◌, ◌<◌, ⊎_elim, min, Bool, true, false, leb, IsTrue, List, ◌++◌, length, take, drop, Option, Some, None, unwrap_or, refl, sym, ap, ◌∙◌, subst, arith}
use Rattle.std.specs.Bool.{OnTrue, OnFalse}
use Rattle.std.proofs.lemmas.List.{take_all, take-append-drop, length-drop, length-take-le}
use Rattle.std.proofs.lemmas.Bool.{cases_lt, cond-true, cond-false, le-leb, lt-leb, leb-true}
use Rattle.httparse.specs.Spans.{IsWithin, span_bytes}
use Rattle.rip_http.specs.Heads.{after, blank, head_end, head_at}
use Rattle.rip_http.specs.Routes.{segment_of}
use Rattle.rip_http.specs.Verdicts.{Verdict, Refuses, Goes, IsVerdict}
use Rattle.rip_http.specs.Stream.{Next, waits, refuses, takes, behind, IsNextAt, IsNext, allowed_by, allowed_at, bare_at}
use Rattle.rip_http.specs.Stages.{IsStage, IsWhole, IsJudged, verdict_in, refused_of}
use Rattle.rip_http.specs.declared.head.Scan.{Scan}
use Rattle.rip_http.specs.declared.head.Scan.TheVariants.{Before}
use Rattle.rip_http.specs.declared.request.Method.TheVariants.{Get}
use Rattle.rip_http.specs.declared.request.Refusal.TheVariants.{Fields}
use Rattle.rip_http.specs.declared.request.RefusedHead.{RefusedHead}
use Rattle.rip_http.specs.declared.request.Message.{Message}
use Rattle.rip_http.specs.declared.stage.Awaited.{Awaited}
use Rattle.rip_http.specs.declared.stage.Stage.{Stage}
use Rattle.rip_http.specs.declared.stage.Stage.TheVariants.{Head, Body, Refused}
use Rattle.rip_http.specs.declared.verdict.Judged.{Judged}
use Rattle.rip_http.proofs.HeadLemmas.{after-none}
use Rattle.rip_http.proofs.StreamLemmas.{next_one, head_end_stays, head_end_le, head_at_stays, refuses_stay}
use Rattle.rip_http.proofs.WholeLemmas.{whole_at}

-- ---- what stands at the front

pub head_waits : (bytes : List ℕ) (scan : Scan) → after Before bytes ≡ Some scan → length bytes < 8192 → IsNext bytes waits
head_waits bytes scan e short =
    let whole : take 8192 bytes ≡ bytes = take_all 8192 bytes (omega arith) in
    let unended : head_end (take 8192 bytes) ≡ None = ap head_end whole ∙ after-none Before scan bytes e in
    let P : Option ℕ → Type 0 = λ o. IsNextAt o bytes waits in
    subst P (sym unended) (sym (cond-false _ _ _ (lt-leb 8192 (length bytes) short)))

pub overlong_refuses : (bytes : List ℕ) (scan : Scan) → after Before (take 8192 bytes) ≡ Some scan → 8192 ≤ length bytes
    → IsNext bytes (refuses 8192 (record { refusal = Fields; bare = false }))
overlong_refuses bytes scan e long =
    let P : Option ℕ → Type 0 = λ o. IsNextAt o bytes (refuses 8192 (record { refusal = Fields; bare = false })) in
    subst P (sym (after-none Before scan (take 8192 bytes) e)) (sym (cond-true _ _ _ (le-leb 8192 (length bytes) long)))

next_behind : (bytes : List ℕ) (n : ℕ) (v : Verdict) → head_end (take 8192 bytes) ≡ Some n → IsVerdict (head_at bytes n) v
    → IsNext bytes (behind bytes n v)
next_behind bytes n v e is =
    let P : Option ℕ → Type 0 = λ o. IsNextAt o bytes (behind bytes n v) in
    subst P (sym e) (v, is, refl)

pub head_refuses : (bytes head : List ℕ) (n : ℕ) (r : RefusedHead) → head_end (take 8192 bytes) ≡ Some n → head ≡ head_at bytes n
    → IsVerdict head (Refuses r) → IsNext bytes (refuses n r)
head_refuses bytes head n r e same is =
    let P : List ℕ → Type 0 = λ h. IsVerdict h (Refuses r) in
    next_behind bytes n (Refuses r) e (subst P same is)

pub body_waits : (bytes : List ℕ) (a : Awaited) → IsStage bytes (Body a) → length bytes < a.end + a.going.size → IsNext bytes waits
body_waits bytes a (e, is, within) short =
    let v = Goes a.going (segment_of (span_bytes (head_at bytes a.end) a.target)) in
    let unfinished : behind bytes a.end v ≡ waits = cond-false _ _ _ (lt-leb (a.end + a.going.size) (length bytes) short) in
    let P : Next → Type 0 = λ x. IsNext bytes x in
    subst P unfinished (next_behind bytes a.end v e is)

pub body_takes : (bytes segment body : List ℕ) (a : Awaited) → IsStage bytes (Body a) → a.end + a.going.size ≤ length bytes
    → segment ≡ segment_of (span_bytes (head_at bytes a.end) a.target) → body ≡ take a.going.size (drop a.end bytes)
    → IsNext bytes (takes (a.end + a.going.size) (record { route = a.going.route; segment = segment; body = body; close = a.going.close }))
body_takes bytes segment body a (e, is, within) fits s b =
    let v = Goes a.going (segment_of (span_bytes (head_at bytes a.end) a.target)) in
    let whole = cond-true _ _ _ (le-leb (a.end + a.going.size) (length bytes) fits) in
    let P : Next → Type 0 = λ x. IsNext bytes x in
    let S : List ℕ → Type 0 = λ x. IsNext bytes (takes (a.end + a.going.size) (record { route = a.going.route; segment = x; body = body; close = a.going.close })) in
    let B : List ℕ → Type 0 = λ x. IsNext bytes (takes (a.end + a.going.size) (record { route = a.going.route; segment = segment_of (span_bytes (head_at bytes a.end) a.target); body = x; close = a.going.close })) in
    subst S (sym s) (subst B (sym b) (subst P whole (next_behind bytes a.end v e is)))

pub body_end_le : (bytes : List ℕ) (a : Awaited) → IsStage bytes (Body a) → a.end ≤ length bytes
body_end_le bytes a (e, is, within) = head_end_le 8192 a.end bytes e

-- the body has come, by what is left behind the head
pub come_tells : (end size len : ℕ) → end ≤ len
    → (IsTrue (leb size (len - end)) → end + size ≤ len) × (end + size ≤ len → IsTrue (leb size (len - end)))
come_tells end size len within =
    ((λ t. omega (arith, leb-true size (len - end) t)), (λ fits. le-leb size (len - end) (omega arith)))

-- a message whose body has come stands at the front
pub message_stands : (bytes : List ℕ) (a : Awaited) → IsStage bytes (Body a) → a.end + a.going.size ≤ length bytes
    → (n : ℕ) × (m : Message) × IsNext bytes (takes n m)
message_stands bytes a is fits = (_, _, body_takes bytes _ _ a is fits refl refl)

-- ---- a stage at more bytes

pub at_stage : (xs ys : List ℕ) (s t : Stage) → IsStage xs s → s ≡ t → ys ≡ xs → IsStage ys t
at_stage xs ys s t is same bytes =
    let P : Stage → Type 0 = λ x. IsStage ys x in
    let Q : List ℕ → Type 0 = λ x. IsStage x s in
    subst P same (subst Q (sym bytes) is)

body_stays : (bytes more : List ℕ) (a : Awaited) → IsStage bytes (Body a) → IsStage (bytes ++ more) (Body a)
body_stays bytes more a (e, is, within) =
    let same : head_at bytes a.end ≡ head_at (bytes ++ more) a.end = sym (head_at_stays bytes more a.end (head_end_le 8192 a.end bytes e)) in
    let P : List ℕ → Type 0 = λ head. IsVerdict head (Goes a.going (segment_of (span_bytes head a.target))) in
    let Q : List ℕ → Type 0 = λ head. IsWithin (length head) a.target in
    (head_end_stays 8192 a.end bytes more e, subst P same is, subst Q same within)

pub body_grows : (bytes : List ℕ) (from : ℕ) (s : Stage) (a : Awaited) → IsStage (take from bytes) s → s ≡ Body a → IsStage bytes (Body a)
body_grows bytes from s a is same =
    let P : List ℕ → Type 0 = λ x. IsStage x (Body a) in
    subst P (take-append-drop from bytes) (body_stays (take from bytes) (drop from bytes) a (at_stage (take from bytes) (take from bytes) s (Body a) is same refl))

pub refused_grows : (bytes : List ℕ) (from : ℕ) (s : Stage) (r : RefusedHead) → IsStage (take from bytes) s → s ≡ Refused r → IsStage bytes (Refused r)
refused_grows bytes from s r is same =
    let here = at_stage (take from bytes) (take from bytes) s (Refused r) is same refl in
    let P : List ℕ → Type 0 = λ x. IsStage x (Refused r) in
    subst P (take-append-drop from bytes) (here.0, refuses_stay (take from bytes) (drop from bytes) here.0 r here.1)

-- the bytes in which a head is sought
pub window_is : (bytes : List ℕ) (limit : ℕ) → limit ≡ min (length bytes) 8192 → take limit bytes ≡ take 8192 bytes
window_is bytes limit e =
    ⊎_elim
    (λ (long : 8192 < length bytes). let same : limit ≡ 8192 = omega arith in ap (λ k. take k bytes) same)
    (λ (short : length bytes ≤ 8192). take_all limit bytes (omega arith) ∙ sym (take_all 8192 bytes short))
    (cases_lt 8192 (length bytes))

-- a head that stands whole behind CR and LF
pub whole_there : (bytes : List ℕ) (limit k size : ℕ) (found judged : Judged) → found ≡ judged → limit ≡ min (length bytes) 8192 → k ≡ blank (take limit bytes) → k ≤ length (take limit bytes)
    → IsWhole (take (length (take limit bytes) - k) (drop k (take limit bytes))) size found
    → (head_end (take 8192 bytes) ≡ Some (k + size))
    × IsVerdict (head_at bytes (k + size)) (verdict_in (head_at bytes (k + size)) judged)
    × IsJudged (length (head_at bytes (k + size))) judged
whole_there bytes limit k size found judged is limited blanks within whole =
    let window = take 8192 bytes in
    let first = take limit bytes in
    let same : first ≡ window = window_is bytes limit limited in
    let place : k ≡ blank window = blanks ∙ ap blank same in
    let front : take (length first - k) (drop k first) ≡ drop (blank window) window =
    take_all (length first - k) (drop k first) (omega (arith, length-drop k first)) ∙ ap (λ j. drop j first) place ∙ ap (drop (blank window)) same in
    let here = subst (λ (xs : List ℕ). IsWhole xs size judged) front (subst (λ (j : Judged). IsWhole (take (length first - k) (drop k first)) size j) is whole) in
    let ends = whole_at bytes size here.ends in
    let verdict = subst (λ (head : List ℕ). IsVerdict head (verdict_in head judged)) (sym ends.1) here.verdict_is in
    let target = subst (λ (n : ℕ). IsJudged n judged) (sym (ap length ends.1 ∙ length-take-le size (drop (blank window) window) here.within)) here.target_is in
    let P : ℕ → Type 0 = λ j. (head_end (take 8192 bytes) ≡ Some (j + size)) × IsVerdict (head_at bytes (j + size)) (verdict_in (head_at bytes (j + size)) judged) × IsJudged (length (head_at bytes (j + size))) judged in
    subst P (sym place) (ends.0, verdict, target)

-- ---- what a stage says of refusals

pub refused_is : (bytes : List ℕ) (s : Stage) (q r : RefusedHead) (n : ℕ) → IsStage bytes s → refused_of s ≡ Some q → IsNext bytes (refuses n r) → r ≡ q
refused_is bytes (Head scan) q r n is e next = cc
refused_is bytes (Body a) q r n is e next = cc
refused_is bytes (Refused p) q r n (k, here) e next =
    let same = next_one bytes (refuses n r) (refuses k p) next here in cc

pub never_refused : (bytes : List ℕ) (s : Stage) (r : RefusedHead) (n : ℕ) → IsStage bytes s → refused_of s ≡ None → IsNext bytes (refuses n r) → ⊥
never_refused bytes (Head scan) r n (e, short) none next =
    let same = next_one bytes (refuses n r) waits next (head_waits bytes scan e short) in cc
never_refused bytes (Body a) r n is none next =
    ⊎_elim
    (λ (short : length bytes < a.end + a.going.size).
    let same = next_one bytes (refuses n r) waits next (body_waits bytes a is short) in cc)
    (λ (fits : a.end + a.going.size ≤ length bytes).
    let same = next_one bytes (refuses n r) _ next (body_takes bytes _ _ a is fits refl refl) in cc)
    (cases_lt (length bytes) (a.end + a.going.size))
never_refused bytes (Refused p) r n is none next = cc

-- what is at the front of bytes whose stage keeps a refusal, and of bytes whose stage keeps none
pub refused_front : (bytes : List ℕ) (s : Stage) (q : RefusedHead) (next : Next) → IsStage bytes s → refused_of s ≡ Some q → IsNext bytes next
    → (allowed_at next ≡ unwrap_or (allowed_by q.refusal) Get) × (bare_at next ≡ q.bare)
refused_front bytes s q (refuses n r) is e next =
    let same = refused_is bytes s q r n is e next in
    (ap (λ (x : RefusedHead). unwrap_or (allowed_by x.refusal) Get) same, ap (λ (x : RefusedHead). x.bare) same)
refused_front bytes (Head scan) q waits is e next = cc
refused_front bytes (Body a) q waits is e next = cc
refused_front bytes (Refused p) q waits (k, here) e next =
    let same = next_one bytes waits (refuses k p) next here in cc
refused_front bytes (Head scan) q (takes n m) is e next = cc
refused_front bytes (Body a) q (takes n m) is e next = cc
refused_front bytes (Refused p) q (takes n m) (k, here) e next =
    let same = next_one bytes (takes n m) (refuses k p) next here in cc

pub unrefused_front : (bytes : List ℕ) (s : Stage) (next : Next) → IsStage bytes s → refused_of s ≡ None → IsNext bytes next
    → (allowed_at next ≡ Get) × (bare_at next ≡ false)
unrefused_front bytes s waits is none next = (refl, refl)
unrefused_front bytes s (takes n m) is none next = (refl, refl)
unrefused_front bytes s (refuses n r) is none next = absurd (never_refused bytes s r n is none next)

-- ---- readiness

pub refused_comes : (bytes : List ℕ) (n : ℕ) (r : RefusedHead) → IsNext bytes (refuses n r) → ¬ IsNext bytes waits
refused_comes bytes n r next w = let same = next_one bytes (refuses n r) waits next w in cc

pub body_comes : (bytes : List ℕ) (a : Awaited) (b : Bool) → IsStage bytes (Body a)
    → (IsTrue b → a.end + a.going.size ≤ length bytes) × (a.end + a.going.size ≤ length bytes → IsTrue b)
    → OnTrue b (¬ IsNext bytes waits)
body_comes bytes a true is come =
    λ w. let same = next_one bytes waits _ w (body_takes bytes _ _ a is (come.0 refl) refl refl) in cc
body_comes bytes a false is come = tt

pub body_is_waited : (bytes : List ℕ) (a : Awaited) (b : Bool) → IsStage bytes (Body a)
    → (IsTrue b → a.end + a.going.size ≤ length bytes) × (a.end + a.going.size ≤ length bytes → IsTrue b)
    → OnFalse b (IsNext bytes waits)
body_is_waited bytes a true is come = tt
body_is_waited bytes a false is come =
    ⊎_elim
    (λ (short : length bytes < a.end + a.going.size). body_waits bytes a is short)
    (λ (fits : a.end + a.going.size ≤ length bytes). let wrong = come.1 fits in cc)
    (cases_lt (length bytes) (a.end + a.going.size))

-- a test that tells both is exact
pub ready_exactly : (bytes : List ℕ) (b : Bool) → OnTrue b (¬ IsNext bytes waits) → OnFalse b (IsNext bytes waits)
    → (IsTrue b → ¬ IsNext bytes waits) × ((¬ IsNext bytes waits) → IsTrue b)
ready_exactly bytes true come unready = ((λ t. come), (λ h. refl))
ready_exactly bytes false come unready = ((λ t. cc), (λ h. absurd (h unready)))
