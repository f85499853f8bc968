-- When the bytes of a request have come, and when one may be handled.
use Rattle.std.proofs.Common.{◌≡◌, ℕ, suc, ◌+◌, ◌-◌, ◌<◌, ◌≤◌, ⊎_elim, Bool, true, false, cond, leb, List, [], ◌∷◌, ◌++◌, length, take, drop, Option, Some, None, refl, sym, ap, ◌∙◌, subst, arith, append-nil}
use Rattle.std.proofs.lemmas.List.{length-append, length-take, length-drop, take-append-le, drop-append-le}
use Rattle.std.proofs.lemmas.Bool.{cases_lt, cond-true, cond-false, le-leb, lt-leb, leb-true, leb-false}
use Rattle.rip_http.specs.Heads.{head_end}
use Rattle.rip_http.specs.Stream.{waits, refuses, takes, behind, IsNext, IsNextAt}
use Rattle.rip_http.specs.Verdicts.{Verdict, Refuses, Goes, IsVerdict}
use Rattle.rip_http.specs.declared.head.Scan.TheVariants.{Before}
use Rattle.rip_http.specs.declared.request.Message.{Message}
use Rattle.rip_http.specs.declared.request.RefusedHead.{RefusedHead}
use Rattle.rip_http.proofs.HeadLemmas.{end-back, end-le}
use Rattle.rip_http.proofs.StreamLemmas.{head_at_stays, head_end_le, next_one, take_grows, takes_stay}
use Rattle.rip_history.specs.Handlings.{Answered, at_once, when_done, never, IsAnsweredBefore, IsFree, Request}
use Rattle.rip_history.specs.Run.{Arrived, refused, message, front_of}
use Rattle.rip_law_server.specs.Turned.{come_turn}

-- ---- what ends within the first bytes stands at their front

body_first : (bytes more : List ℕ) (n size : ℕ) → n + size ≤ length bytes → take size (drop n (bytes ++ more)) ≡ take size (drop n bytes)
body_first bytes more n size fits =
    ap (take size) (drop-append-le n bytes more (omega arith))
    ∙ take-append-le size (drop n bytes) more (omega (arith, length-drop n bytes))

-- what stands behind a head, where the message ends within these bytes
message_first : (bytes more : List ℕ) (k n : ℕ) (m : Message) (v : Verdict) → takes n m ≡ behind (bytes ++ more) k v → n ≤ length bytes
    → (k ≤ n) × (takes n m ≡ behind bytes k v)
message_first bytes more k n m (Refuses r) e h = cc
message_first bytes more k n m (Goes g segment) e h =
    ⊎_elim
    (λ (short : length (bytes ++ more) < k + g.size).
    let waits_here = e ∙ cond-false _ _ _ (lt-leb (k + g.size) (length (bytes ++ more)) short) in cc)
    (λ (fits : k + g.size ≤ length (bytes ++ more)).
    let here = e ∙ cond-true _ _ _ (le-leb (k + g.size) (length (bytes ++ more)) fits) in
    let place : n ≡ k + g.size = cc in
    let fit : k + g.size ≤ length bytes = omega (arith, place, h) in (
      omega (arith, place),
      here
          ∙ ap (λ body. takes (k + g.size) (record { route = g.route; segment = segment; body = body; close = g.close })) (body_first bytes more k g.size fit)
          ∙ sym (cond-true _ _ _ (le-leb (k + g.size) (length bytes) fit)),
    ))
    (cases_lt (length (bytes ++ more)) (k + g.size))

-- or the head that is refused
refusal_first : (bytes more : List ℕ) (k n : ℕ) (r : RefusedHead) (v : Verdict) → refuses n r ≡ behind (bytes ++ more) k v → (k ≡ n) × (refuses n r ≡ behind bytes k v)
refusal_first bytes more k n r (Refuses q) e = (cc, e)
refusal_first bytes more k n r (Goes g segment) e =
    ⊎_elim
    (λ (short : length (bytes ++ more) < k + g.size). let here = e ∙ cond-false _ _ _ (lt-leb (k + g.size) (length (bytes ++ more)) short) in cc)
    (λ (fits : k + g.size ≤ length (bytes ++ more)). let here = e ∙ cond-true _ _ _ (le-leb (k + g.size) (length (bytes ++ more)) fits) in cc)
    (cases_lt (length (bytes ++ more)) (k + g.size))

end_first : (bytes more : List ℕ) (k : ℕ) → head_end (take 8192 (bytes ++ more)) ≡ Some k → k ≤ length bytes → head_end (take 8192 bytes) ≡ Some k
end_first bytes more k e within =
    let g = take_grows 8192 bytes more in
    let long : k ≤ length (take 8192 bytes) = omega (arith, within, end-le Before (take 8192 (bytes ++ more)) k e, length-take 8192 (bytes ++ more), length-take 8192 bytes) in
    end-back Before (take 8192 bytes) g.0 k (ap head_end (sym g.1) ∙ e) long

unended_takes : (b : Bool) (n : ℕ) (m : Message) (r : RefusedHead) → takes n m ≡ cond b (refuses 8192 r) waits → ⊥
unended_takes true n m r e = cc
unended_takes false n m r e = cc

refuses_not : (n : ℕ) (q : RefusedHead) → refuses n q ≡ waits → ⊥
refuses_not n q e = cc

unended_refuses : (b : Bool) (n : ℕ) (q r : RefusedHead) → refuses n q ≡ cond b (refuses 8192 r) waits → (b ≡ true) × (n ≡ 8192)
unended_refuses true n q r e = (refl, (let f : refuses n q ≡ refuses 8192 r = e in cc))
unended_refuses false n q r e = absurd (refuses_not n q e)

takes_first_at : (o : Option ℕ) (bytes more : List ℕ) (n : ℕ) (m : Message) → head_end (take 8192 (bytes ++ more)) ≡ o → IsNextAt o (bytes ++ more) (takes n m) → n ≤ length bytes
    → IsNext bytes (takes n m)
takes_first_at None bytes more n m e next h = absurd (unended_takes (leb 8192 (length (bytes ++ more))) n m _ next)
takes_first_at (Some k) bytes more n m e (v, is, next) h =
    let r = message_first bytes more k n m v next h in
    let within : k ≤ length bytes = omega (arith, r.0, h) in
    let P : Option ℕ → Type 0 = λ o. IsNextAt o bytes (takes n m) in
    subst P (sym (end_first bytes more k e within)) (v, (let Q : List ℕ → Type 0 = λ head. IsVerdict head v in subst Q (head_at_stays bytes more k within) is), r.1)

refuses_first_at : (o : Option ℕ) (bytes more : List ℕ) (n : ℕ) (r : RefusedHead) → head_end (take 8192 (bytes ++ more)) ≡ o → IsNextAt o (bytes ++ more) (refuses n r) → n ≤ length bytes
    → IsNext bytes (refuses n r)
refuses_first_at None bytes more n r e next h =
    let long = unended_refuses (leb 8192 (length (bytes ++ more))) n r _ next in
    let here : 8192 ≤ length bytes = omega (arith, long.1, h) in
    let there : 8192 ≤ length (bytes ++ more) = omega (arith, here, length-append bytes more) in
    let same : head_end (take 8192 bytes) ≡ None = ap head_end (sym (take-append-le 8192 bytes more here)) ∙ e in
    let P : Option ℕ → Type 0 = λ o. IsNextAt o bytes (refuses n r) in
    subst P (sym same) (next ∙ cond-true _ _ _ (le-leb 8192 (length (bytes ++ more)) there) ∙ sym (cond-true _ _ _ (le-leb 8192 (length bytes) here)))
refuses_first_at (Some k) bytes more n r e (v, is, next) h =
    let s = refusal_first bytes more k n r v next in
    let within : k ≤ length bytes = omega (arith, s.0, h) in
    let P : Option ℕ → Type 0 = λ o. IsNextAt o bytes (refuses n r) in
    subst P (sym (end_first bytes more k e within)) (v, (let Q : List ℕ → Type 0 = λ head. IsVerdict head v in subst Q (head_at_stays bytes more k within) is), s.1)

pub comes_first : (bytes more : List ℕ) (n : ℕ) (a : Arrived) → IsNext (bytes ++ more) (front_of n a) → n ≤ length bytes → IsNext bytes (front_of n a)
comes_first bytes more n (refused r) next h = refuses_first_at (head_end (take 8192 (bytes ++ more))) bytes more n r refl next h
comes_first bytes more n (message m x) next h = takes_first_at (head_end (take 8192 (bytes ++ more))) bytes more n m refl next h

-- it is within the bytes at whose front it stands
refuses_fits_at : (o : Option ℕ) (bytes : List ℕ) (n : ℕ) (r : RefusedHead) → head_end (take 8192 bytes) ≡ o → IsNextAt o bytes (refuses n r) → n ≤ length bytes
refuses_fits_at None bytes n r e next =
    let long = unended_refuses (leb 8192 (length bytes)) n r _ next in
    omega (arith, long.1, leb-true 8192 (length bytes) long.0)
refuses_fits_at (Some k) bytes n r e (v, is, next) =
    let same : k ≡ n = (refusal_first bytes [] k n r v (next ∙ ap (λ (bs : List ℕ). behind bs k v) (sym (append-nil bytes)))).0 in
    omega (arith, same, head_end_le 8192 k bytes e)

pub front_fits : (bytes : List ℕ) (n : ℕ) (a : Arrived) → IsNext bytes (front_of n a) → n ≤ length bytes
front_fits bytes n (refused r) next = refuses_fits_at (head_end (take 8192 bytes)) bytes n r refl next
front_fits bytes n (message m x) next = (takes_stay bytes [] n m next).0

pub waits_not : (bytes : List ℕ) (n : ℕ) (a : Arrived) → IsNext bytes waits → IsNext bytes (front_of n a) → ⊥
waits_not bytes n (refused r) none next = (let e = next_one bytes waits (refuses n r) none next in cc)
waits_not bytes n (message m x) none next = (let e = next_one bytes waits (takes n m) none next in cc)

-- ---- the turn by which so many bytes have come

abbrev pub total : List ℕ → ℕ
total [] = 0
total (n ∷ ns) = n + total ns

pub total_more : (ns : List ℕ) (n : ℕ) → total (ns ++ n ∷ []) ≡ total ns + n
total_more [] n = omega arith
total_more (m ∷ ns) n = (let e = total_more ns n in omega (arith, e))

come_above : (turn size : ℕ) (ns : List ℕ) → turn ≤ come_turn turn size ns
come_above turn size [] = omega arith
come_above turn size (n ∷ ns) = by (leb size n) (come_above (turn + 1) (size - n) ns)
  where
    by : (b : Bool) → turn + 1 ≤ come_turn (turn + 1) (size - n) ns → turn ≤ cond b turn (come_turn (turn + 1) (size - n) ns)
    by true more = (let le : turn ≤ turn = omega arith in le)
    by false more = (let le : turn ≤ come_turn (turn + 1) (size - n) ns = omega (arith, more) in le)

-- what has come by a turn is no more than came up to it
pub come_within : (turn size : ℕ) (past ns : List ℕ) → come_turn turn size (past ++ ns) < turn + length past → size ≤ total past
come_within turn size [] ns lt = absurd (let le = come_above turn size ns in omega (arith, lt, le))
come_within turn size (n ∷ past) ns lt = by (leb size n) refl lt (come_within (turn + 1) (size - n) past ns)
  where
    by : (b : Bool) → leb size n ≡ b → cond b turn (come_turn (turn + 1) (size - n) (past ++ ns)) < turn + suc (length past)
        → (come_turn (turn + 1) (size - n) (past ++ ns) < turn + 1 + length past → size - n ≤ total past) → size ≤ n + total past
    by true e h more = (let le = leb-true size n e in omega (arith, le))
    by false e h more =
        let lt : come_turn (turn + 1) (size - n) (past ++ ns) < turn + suc (length past) = h in
        let le = more (omega (arith, lt)) in
        omega (arith, le)

-- and what is no more has come by it
pub come_reached : (turn size n : ℕ) (past ns : List ℕ) → size ≤ total past + n → come_turn turn size (past ++ n ∷ ns) ≤ turn + length past
come_reached turn size n [] ns le = by (leb size n) refl
  where
    by : (b : Bool) → leb size n ≡ b → cond b turn (come_turn (turn + 1) (size - n) ns) ≤ turn + 0
    by true e = (let le : turn ≤ turn + 0 = omega arith in le)
    by false e = absurd (let lt = leb-false size n e in omega (arith, lt, le))
come_reached turn size n (m ∷ past) ns le = by (leb size m) (come_reached (turn + 1) (size - m) n past ns (omega (arith, le)))
  where
    by : (b : Bool) → come_turn (turn + 1) (size - m) (past ++ n ∷ ns) ≤ turn + 1 + length past
        → cond b turn (come_turn (turn + 1) (size - m) (past ++ n ∷ ns)) ≤ turn + suc (length past)
    by true more = (let le : turn ≤ turn + suc (length past) = omega arith in le)
    by false more = (let le : come_turn (turn + 1) (size - m) (past ++ n ∷ ns) ≤ turn + suc (length past) = omega (arith, more) in le)

-- ---- when the request before is answered

answered_mono : (handled : ℕ) (a : Answered) (low high : ℕ) → low ≤ high → IsAnsweredBefore handled a low → IsAnsweredBefore handled a high
answered_mono handled at_once low high le f = omega (arith, le, f)
answered_mono handled (when_done u) low high le f = omega (arith, le, f)
answered_mono handled never low high le f = f

pub free_mono : (before : Option (ℕ × Request)) (low high : ℕ) → low ≤ high → IsFree before low → IsFree before high
free_mono None low high le f = tt
free_mono (Some (handled, r)) low high le f = answered_mono handled r.answered low high le f

-- it is answered at no turn's end before this
abbrev pub IsLater : ℕ → Answered → Type 0
IsLater turn at_once = ⊥
IsLater turn (when_done u) = turn ≤ u
IsLater turn never = Unit {0}

pub later_lower : (low high : ℕ) (a : Answered) → low ≤ high → IsLater high a → IsLater low a
later_lower low high at_once le h = h
later_lower low high (when_done u) le h = omega (arith, le, h)
later_lower low high never le h = tt

pub later_free : (turn handled : ℕ) (a : Answered) → IsLater turn a → IsAnsweredBefore handled a turn → ⊥
later_free turn handled at_once h f = h
later_free turn handled (when_done u) h f = omega (arith, h, f)
later_free turn handled never h f = f

-- when an answer is given that is owed
abbrev pub IsOwed : Option (ℕ × Request) → Answered → Type 0
IsOwed None a = ⊥
IsOwed (Some (handled, r)) a = r.answered ≡ a

pub owed_free : (turn : ℕ) (before : Option (ℕ × Request)) (a : Answered) → IsLater turn a → IsOwed before a → IsFree before turn → ⊥
owed_free turn None a h o f = o
owed_free turn (Some (handled, r)) a h o f = later_free turn handled r.answered (subst (λ (x : Answered). IsLater turn x) (sym o) h) f

pub done_free : (turn : ℕ) (before : Option (ℕ × Request)) (a : Answered) → IsOwed before a → a ≡ when_done turn → IsFree before (turn + 1)
done_free turn None a o e = absurd o
done_free turn (Some (handled, r)) a o e = subst (λ (x : Answered). IsAnsweredBefore handled x (turn + 1)) (sym (o ∙ e)) (let le : turn < turn + 1 = omega arith in le)

pub owed_so : (before : Option (ℕ × Request)) (a b : Answered) → IsOwed before a → a ≡ b → IsOwed before b
owed_so None a b o e = o
owed_so (Some (handled, r)) a b o e = o ∙ e
