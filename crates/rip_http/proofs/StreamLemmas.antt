-- The laws of a stream of messages.
use Rattle.std.proofs.Common.{◌≡◌, ℕ, zero, suc, ◌+◌, ◌-◌, ◌≤◌, ◌<◌, inl, inr, ⊎_elim, Bool, true, false, cond, leb, List, [], ◌∷◌, ◌++◌, length, take, drop, Option, Some, None, refl, sym, ap, ◌∙◌, subst, arith}
use Rattle.std.proofs.lemmas.List.{append-nil, append_assoc, length-append, length-take, length-drop, take-append-le, drop-append-le}
use Rattle.std.proofs.lemmas.Bool.{cases_lt, cond-true, cond-false, le-leb, lt-leb, leb-true}
use Rattle.httparse.proofs.GrammarLemmas.{request_unique}
use Rattle.rip_http.specs.Heads.{head_end, head_at, blank}
use Rattle.rip_http.specs.declared.head.Scan.TheVariants.{Before}
use Rattle.rip_http.specs.Verdicts.{Verdict, Refuses, Goes, IsVerdict, verdict_of, parts_of}
use Rattle.rip_http.specs.Stream.{Next, waits, refuses, takes, behind, IsNextAt, IsNext, Sent, Splits, IsLast, Requests, Deed, fed, took, Does, all_fed, all_taken, ended_within}
use Rattle.rip_http.specs.declared.request.Message.{Message}
use Rattle.rip_http.specs.declared.request.RefusedHead.{RefusedHead}
use Rattle.rip_http.proofs.HeadLemmas.{end-append, end-back, end-le}

-- ---- one verdict, one next, one list of requests

pub verdict_one : (bytes : List ℕ) (v w : Verdict) → IsVerdict bytes v → IsVerdict bytes w → v ≡ w
verdict_one bytes v w (inl (none, p)) (inl (same, q)) = p ∙ sym q
verdict_one bytes v w (inl (none, p)) (inr (k, is, q)) = absurd (none k is)
verdict_one bytes v w (inr (h, is, p)) (inl (none, q)) = absurd (none h is)
verdict_one bytes v w (inr (h, is, p)) (inr (k, are, q)) =
    p ∙ ap (λ x. verdict_of (parts_of x)) (request_unique bytes h k [] [] is.0 are.0).0 ∙ sym q

next_at_one : (o : Option ℕ) (bytes : List ℕ) (x y : Next) → IsNextAt o bytes x → IsNextAt o bytes y → x ≡ y
next_at_one None bytes x y p q = p ∙ sym q
next_at_one (Some n) bytes x y (v, p, e) (w, q, f) =
    e ∙ ap (behind bytes n) (verdict_one (head_at bytes n) v w p q) ∙ sym f

pub next_one : (bytes : List ℕ) (x y : Next) → IsNext bytes x → IsNext bytes y → x ≡ y
next_one bytes x y p q = next_at_one (head_end (take 8192 bytes)) bytes x y p q

-- what is last is no message
last_takes : (x : Next) (n : ℕ) (m : Message) → IsLast x → x ≡ takes n m → ⊥
last_takes waits n m last e = cc
last_takes (refuses k r) n m last e = cc
last_takes (takes k l) n m last e = last

-- one message of one size
sent_one : (bytes : List ℕ) (s u : Sent) → IsNext bytes (takes s.size s.message) → IsNext bytes (takes u.size u.message) → (s ≡ u) × (s.size ≡ u.size)
sent_one bytes s u h g =
    let same = next_one bytes (takes s.size s.message) (takes u.size u.message) h g in
    let sizes : s.size ≡ u.size = cc in
    let messages : s.message ≡ u.message = cc in
    ((λ i. record { message = messages i; size = sizes i }), sizes)

splits_one : (a b : List Sent) (bytes c d : List ℕ) (x y : Next) → Splits bytes a c → Splits bytes b d
    → IsNext c x → IsNext d y → IsLast x → IsLast y → (a ≡ b) × (x ≡ y)
splits_one [] [] bytes c d x y s t p q k l =
    (refl, next_one c x y p (let P : List ℕ → Type 0 = λ z. IsNext z y in subst P (sym t ∙ s) q))
splits_one [] (m ∷ b) bytes c d x y s (h, t) p q k l =
    absurd (last_takes x m.size m.message k (next_one bytes x (takes m.size m.message) (let P : List ℕ → Type 0 = λ z. IsNext z x in subst P (sym s) p) h))
splits_one (m ∷ a) [] bytes c d x y (h, s) t p q k l =
    absurd (last_takes y m.size m.message l (next_one bytes y (takes m.size m.message) (let P : List ℕ → Type 0 = λ z. IsNext z y in subst P (sym t) q) h))
splits_one (m ∷ a) (j ∷ b) bytes c d x y (h, s) (g, t) p q k l =
    let same = sent_one bytes m j h g in
    let moved : Splits (drop m.size bytes) b d = (let P : ℕ → Type 0 = λ z. Splits (drop z bytes) b d in subst P (sym same.1) t) in
    let r = splits_one a b (drop m.size bytes) c d x y s moved p q k l in
    ((λ i. same.0 i ∷ r.0 i), r.1)

pub requests_one : (bytes : List ℕ) (a b : List Sent) (x y : Next) → Requests bytes a x → Requests bytes b y → (a ≡ b) × (x ≡ y)
requests_one bytes a b x y r s = splits_one a b bytes r.rest s.rest x y r.splits s.splits r.next s.next r.is_last s.is_last

-- ---- what has come stays

-- the first k of the bytes only grow
pub take_grows : (k : ℕ) (xs ys : List ℕ) → (more : List ℕ) × (take k (xs ++ ys) ≡ take k xs ++ more)
take_grows zero xs ys = ([], refl)
take_grows (suc k) [] ys = (take (suc k) ys, refl)
take_grows (suc k) (x ∷ xs) ys =
    let r = take_grows k xs ys in (r.0, ap (λ zs. x ∷ zs) r.1)

-- a head's end stays where it is
pub head_end_stays : (k n : ℕ) (bytes more : List ℕ) → head_end (take k bytes) ≡ Some n → head_end (take k (bytes ++ more)) ≡ Some n
head_end_stays k n bytes more e =
    let r = take_grows k bytes more in
    ap head_end r.1 ∙ end-append Before (take k bytes) r.0 n e

pub head_end_le : (k n : ℕ) (bytes : List ℕ) → head_end (take k bytes) ≡ Some n → n ≤ length bytes
head_end_le k n bytes e =
    omega (arith, end-le Before (take k bytes) n e, length-take k bytes)

pub head_at_stays : (bytes more : List ℕ) (n : ℕ) → n ≤ length bytes → head_at (bytes ++ more) n ≡ head_at bytes n
head_at_stays bytes more n fits = ap (λ xs. drop (blank xs) xs) (take-append-le n bytes more fits)

-- a body stays as it is
body_stays : (bytes more : List ℕ) (n size : ℕ) → n + size ≤ length bytes → take size (drop n (bytes ++ more)) ≡ take size (drop n bytes)
body_stays bytes more n size fits =
    ap (take size) (drop-append-le n bytes more (omega arith))
    ∙ take-append-le size (drop n bytes) more (omega (arith, length-drop n bytes))

-- what stands behind a head whose message has come
behind_takes : (bytes more : List ℕ) (n k : ℕ) (m : Message) (v : Verdict) → takes k m ≡ behind bytes n v
    → (k ≤ length bytes) × (takes k m ≡ behind (bytes ++ more) n v)
behind_takes bytes more n k m (Refuses r) e = cc
behind_takes bytes more n k m (Goes g segment) e =
    ⊎_elim
    (λ (short : length bytes < n + g.size).
    let waits_here = e ∙ cond-false _ _ _ (lt-leb (n + g.size) (length bytes) short) in cc)
    (λ (fits : n + g.size ≤ length bytes).
    let here = e ∙ cond-true _ _ _ (le-leb (n + g.size) (length bytes) fits) in
    let more_fits : n + g.size ≤ length (bytes ++ more) = omega (arith, length-append bytes more) in
    let place : k ≡ n + g.size = cc in (
      omega arith,
      here
          ∙ ap (λ body. takes (n + g.size) (record { route = g.route; segment = segment; body = body; close = g.close })) (sym (body_stays bytes more n g.size fits))
          ∙ sym (cond-true _ _ _ (le-leb (n + g.size) (length (bytes ++ more)) more_fits)),
    ))
    (cases_lt (length bytes) (n + g.size))

behind_refuses : (bytes more : List ℕ) (n k : ℕ) (r : RefusedHead) (v : Verdict) → refuses k r ≡ behind bytes n v
    → refuses k r ≡ behind (bytes ++ more) n v
behind_refuses bytes more n k r (Refuses q) e = e
behind_refuses bytes more n k r (Goes g segment) e =
    ⊎_elim
    (λ (short : length bytes < n + g.size). let here = e ∙ cond-false _ _ _ (lt-leb (n + g.size) (length bytes) short) in cc)
    (λ (fits : n + g.size ≤ length bytes). let here = e ∙ cond-true _ _ _ (le-leb (n + g.size) (length bytes) fits) in cc)
    (cases_lt (length bytes) (n + g.size))

-- the first 8,192 bytes hold no end of a head
unended_takes : (b : Bool) (n : ℕ) (m : Message) (r : RefusedHead) → takes n m ≡ cond b (refuses 8192 r) waits → ⊥
unended_takes true n m r e = cc
unended_takes false n m r e = cc

unended_refuses : (b : Bool) (n : ℕ) (q r : RefusedHead) → refuses n q ≡ cond b (refuses 8192 r) waits → b ≡ true
unended_refuses true n q r e = refl
unended_refuses false n q r e = cc

takes_at : (o : Option ℕ) (bytes more : List ℕ) (n : ℕ) (m : Message) → head_end (take 8192 bytes) ≡ o → IsNextAt o bytes (takes n m)
    → (n ≤ length bytes) × IsNext (bytes ++ more) (takes n m)
takes_at None bytes more n m e next = absurd (unended_takes (leb 8192 (length bytes)) n m _ next)
takes_at (Some k) bytes more n m e (v, is, next) =
    let r = behind_takes bytes more k n m v next in (
      r.0,
      (let P : Option ℕ → Type 0 = λ o. IsNextAt o (bytes ++ more) (takes n m) in
          subst P (sym (head_end_stays 8192 k bytes more e))
          (v, (let Q : List ℕ → Type 0 = λ head. IsVerdict head v in subst Q (sym (head_at_stays bytes more k (head_end_le 8192 k bytes e))) is), r.1)),
    )

pub takes_stay : (bytes more : List ℕ) (n : ℕ) (m : Message) → IsNext bytes (takes n m) → (n ≤ length bytes) × IsNext (bytes ++ more) (takes n m)
takes_stay bytes more n m next = takes_at (head_end (take 8192 bytes)) bytes more n m refl next

refuses_at : (o : Option ℕ) (bytes more : List ℕ) (n : ℕ) (r : RefusedHead) → head_end (take 8192 bytes) ≡ o → IsNextAt o bytes (refuses n r)
    → IsNext (bytes ++ more) (refuses n r)
refuses_at None bytes more n r e next =
    let long = leb-true 8192 (length bytes) (unended_refuses (leb 8192 (length bytes)) n r _ next) in
    let longer : 8192 ≤ length (bytes ++ more) = omega (arith, length-append bytes more) in
    let same = ap head_end (take-append-le 8192 bytes more long) ∙ e in
    let P : Option ℕ → Type 0 = λ o. IsNextAt o (bytes ++ more) (refuses n r) in
    subst P (sym same)
    (next ∙ cond-true _ _ _ (le-leb 8192 (length bytes) long) ∙ sym (cond-true _ _ _ (le-leb 8192 (length (bytes ++ more)) longer)))
refuses_at (Some k) bytes more n r e (v, is, next) =
    let P : Option ℕ → Type 0 = λ o. IsNextAt o (bytes ++ more) (refuses n r) in
    subst P (sym (head_end_stays 8192 k bytes more e))
    (v, (let Q : List ℕ → Type 0 = λ head. IsVerdict head v in subst Q (sym (head_at_stays bytes more k (head_end_le 8192 k bytes e))) is), behind_refuses bytes more k n r v next)

pub refuses_stay : (bytes more : List ℕ) (n : ℕ) (r : RefusedHead) → IsNext bytes (refuses n r) → IsNext (bytes ++ more) (refuses n r)
refuses_stay bytes more n r next = refuses_at (head_end (take 8192 bytes)) bytes more n r refl next

pub come_stays : (bytes more : List ℕ)
    → ((n : ℕ) (m : Message) → IsNext bytes (takes n m) → (n ≤ length bytes) × IsNext (bytes ++ more) (takes n m))
    × ((n : ℕ) (r : RefusedHead) → IsNext bytes (refuses n r) → IsNext (bytes ++ more) (refuses n r))
come_stays bytes more = (takes_stay bytes more, refuses_stay bytes more)

-- ---- whatever is fed when, and taken when

pub splits-append : (ms : List Sent) (bytes rest more : List ℕ) → Splits bytes ms rest → Splits (bytes ++ more) ms (rest ++ more)
splits-append [] bytes rest more e = ap (λ xs. xs ++ more) e
splits-append (m ∷ ms) bytes rest more (next, later) =
    let r = takes_stay bytes more m.size m.message next in
    (r.1, (let P : List ℕ → Type 0 = λ xs. Splits xs ms (rest ++ more) in subst P (sym (drop-append-le m.size bytes more r.0)) (splits-append ms (drop m.size bytes) rest more later)))

does_splits : (deeds : List Deed) (unread rest : List ℕ) → Does unread deeds rest → Splits (unread ++ all_fed deeds) (all_taken deeds) rest
does_splits [] unread rest e = append-nil unread ∙ e
does_splits (fed piece ∷ deeds) unread rest d =
    let P : List ℕ → Type 0 = λ xs. Splits xs (all_taken deeds) rest in
    subst P (append_assoc unread piece (all_fed deeds)) (does_splits deeds (unread ++ piece) rest d)
does_splits (took m ∷ deeds) unread rest (next, d) =
    let r = takes_stay unread (all_fed deeds) m.size m.message next in
    let P : List ℕ → Type 0 = λ xs. Splits xs (all_taken deeds) rest in
    (r.1, subst P (sym (drop-append-le m.size unread (all_fed deeds) r.0)) (does_splits deeds (drop m.size unread) rest d))

pub cuts : (deeds : List Deed) (rest : List ℕ) (last : Next) → Does [] deeds rest → IsNext rest last → IsLast last
    → Requests (all_fed deeds) (all_taken deeds) last
cuts deeds rest last d next l = record { rest = rest; splits = does_splits deeds [] rest d; next = next; is_last = l }

pub stands : (deeds : List Deed) (rest more : List ℕ) → Does [] deeds rest → Splits (all_fed deeds ++ more) (all_taken deeds) (rest ++ more)
stands deeds rest more d = splits-append (all_taken deeds) (all_fed deeds) rest more (does_splits deeds [] rest d)

-- ---- what ends within the first bytes can be taken of them

-- what stands behind a head, where the message ends within these bytes
behind_came : (bytes more : List ℕ) (k n : ℕ) (m : Message) (v : Verdict) → takes n m ≡ behind (bytes ++ more) k v → n ≤ length bytes
    → (k ≤ n) × (takes n m ≡ behind bytes k v)
behind_came bytes more k n m (Refuses r) e h = cc
behind_came bytes more k n m (Goes g segment) e h =
    ⊎_elim
    (λ (short : length (bytes ++ more) < k + g.size).
    let waits_here = e ∙ cond-false _ _ _ (lt-leb (k + g.size) (length (bytes ++ more)) short) in cc)
    (λ (fits : k + g.size ≤ length (bytes ++ more)).
    let here = e ∙ cond-true _ _ _ (le-leb (k + g.size) (length (bytes ++ more)) fits) in
    let place : n ≡ k + g.size = cc in
    let fit : k + g.size ≤ length bytes = omega (arith, place, h) in (
      omega (arith, place),
      here
          ∙ ap (λ body. takes (k + g.size) (record { route = g.route; segment = segment; body = body; close = g.close })) (body_stays bytes more k g.size fit)
          ∙ sym (cond-true _ _ _ (le-leb (k + g.size) (length bytes) fit)),
    ))
    (cases_lt (length (bytes ++ more)) (k + g.size))

came_at : (o : Option ℕ) (bytes more : List ℕ) (n : ℕ) (m : Message) → head_end (take 8192 (bytes ++ more)) ≡ o → IsNextAt o (bytes ++ more) (takes n m) → n ≤ length bytes
    → IsNext bytes (takes n m)
came_at None bytes more n m e next h = absurd (unended_takes (leb 8192 (length (bytes ++ more))) n m _ next)
came_at (Some k) bytes more n m e (v, is, next) h =
    let r = behind_came bytes more k n m v next h in
    let within : k ≤ length bytes = omega (arith, r.0, h) in
    let g = take_grows 8192 bytes more in
    let long : k ≤ length (take 8192 bytes) = omega (arith, within, end-le Before (take 8192 (bytes ++ more)) k e, length-take 8192 (bytes ++ more), length-take 8192 bytes) in
    let end : head_end (take 8192 bytes) ≡ Some k = end-back Before (take 8192 bytes) g.0 k (ap head_end (sym g.1) ∙ e) long in
    let P : Option ℕ → Type 0 = λ o. IsNextAt o bytes (takes n m) in
    subst P (sym end) (v, (let Q : List ℕ → Type 0 = λ head. IsVerdict head v in subst Q (head_at_stays bytes more k within) is), r.1)

came : (bytes more : List ℕ) (n : ℕ) (m : Message) → IsNext (bytes ++ more) (takes n m) → n ≤ length bytes → IsNext bytes (takes n m)
came bytes more n m next h = came_at (head_end (take 8192 (bytes ++ more))) bytes more n m refl next h

tell : (t sent : List Sent) (F more rest r : List ℕ) (x y : Next) → Splits F t rest → IsNext rest x → IsLast x → Splits (F ++ more) sent r → IsNext r y → IsLast y
    → t ≡ ended_within (length F) sent
tell [] [] F more rest r x y s p k u q l = refl
tell [] (m ∷ sent) F more rest r x y s p k (next, u) q l =
    ⊎_elim
    (λ (short : length F < m.size). sym (cond-false _ _ _ (lt-leb m.size (length F) short)))
    (λ (fits : m.size ≤ length F).
    let here = came F more m.size m.message next fits in
    absurd (last_takes x m.size m.message k (next_one F x (takes m.size m.message) (let P : List ℕ → Type 0 = λ z. IsNext z x in subst P (sym s) p) here)))
    (cases_lt (length F) m.size)
tell (m ∷ t) [] F more rest r x y (next, s) p k u q l =
    let stays = takes_stay F more m.size m.message next in
    absurd (last_takes y m.size m.message l (next_one (F ++ more) y (takes m.size m.message) (let P : List ℕ → Type 0 = λ z. IsNext z y in subst P (sym u) q) stays.1))
tell (m ∷ t) (j ∷ sent) F more rest r x y (next, s) p k (here, u) q l =
    let stays = takes_stay F more m.size m.message next in
    let same = sent_one (F ++ more) m j stays.1 here in
    let moved : Splits (drop m.size (F ++ more)) sent r = (let P : ℕ → Type 0 = λ z. Splits (drop z (F ++ more)) sent r in subst P (sym same.1) u) in
    let P : List ℕ → Type 0 = λ xs. Splits xs sent r in
    let later : t ≡ ended_within (length (drop m.size F)) sent = tell t sent (drop m.size F) more rest r x y s p k (subst P (drop-append-le m.size F more stays.0) moved) q l in
    let fits : j.size ≤ length F = omega (arith, stays.0, same.1) in
    let left : length (drop m.size F) ≡ length F - j.size = length-drop m.size F ∙ ap (λ z. length F - z) same.1 in
    ap (λ xs. m ∷ xs) (later ∙ ap (λ n. ended_within n sent) left) ∙ ap (λ z. z ∷ ended_within (length F - j.size) sent) same.0
    ∙ sym (cond-true _ _ _ (le-leb j.size (length F) fits))

pub ends-tell : (deeds : List Deed) (rest more : List ℕ) (sent : List Sent) (x y : Next) → Does [] deeds rest → IsNext rest x → IsLast x → Requests (all_fed deeds ++ more) sent y
    → all_taken deeds ≡ ended_within (length (all_fed deeds)) sent
ends-tell deeds rest more sent x y d p k r = tell (all_taken deeds) sent (all_fed deeds) more rest r.rest x y (does_splits deeds [] rest d) p k r.splits r.next r.is_last
