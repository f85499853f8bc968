-- How many requests stand at the front of bytes, at most.
use Rattle.std.proofs.Common.{◌≡◌, ℕ, zero, suc, ◌+◌, ◌-◌, ◌≤◌, ◌<◌, Bool, true, false, cond, leb, List, [], ◌∷◌, ◌++◌, length, drop, Option, Some, None, refl, sym, ap, ◌∙◌, subst, arith, length-drop}
use Rattle.std.specs.Prelude.{take, option_map}
use Rattle.std.proofs.lemmas.Bool.{leb-true}
use Rattle.std.proofs.lemmas.Option.{same_Some}
use Rattle.rip_http.specs.Heads.{step, ended_or, end_from, head_end}
use Rattle.rip_http.specs.Verdicts.{Verdict, Refuses, Goes}
use Rattle.rip_http.specs.declared.head.Scan.{Scan}
use Rattle.rip_http.specs.declared.head.Scan.TheVariants.{Before}
use Rattle.rip_http.specs.Stream.{Next, waits, refuses, takes, behind, IsNextAt, IsNext, Sent, Splits, IsLast, Requests}
use Rattle.rip_http.specs.declared.request.Message.{Message}
use Rattle.rip_http.specs.declared.request.Refusal.TheVariants.{Fields}
use Rattle.rip_http.specs.declared.request.RefusedHead.{RefusedHead}
use Rattle.rip_http.proofs.StreamLemmas.{next_one, takes_stay, refuses_stay}
use Rattle.rip_law_server.specs.Asked.{asked_count, count_at}

-- however many messages are taken of the bytes, and a head is refused behind them, there are no more than this
pub record AskAtMost (bytes : List ℕ) (n : ℕ) : Type 0 where
  pub taken : (sent : List Sent) (rest : List ℕ) → Splits bytes sent rest → length sent ≤ n
  pub refused : (sent : List Sent) (rest : List ℕ) (k : ℕ) (r : RefusedHead) → Splits bytes sent rest → IsNext rest (refuses k r) → length sent < n

-- ---- the front of bytes

drop_front : (n : ℕ) (xs ys : List ℕ) → n ≤ length xs → drop n (xs ++ ys) ≡ drop n xs ++ ys
drop_front zero xs ys le = refl
drop_front (suc n) [] ys le = absurd (omega (arith, le))
drop_front (suc n) (x ∷ xs) ys le = drop_front n xs ys (omega (arith, le))

splits-stay : (bytes more : List ℕ) (sent : List Sent) (rest : List ℕ) → Splits bytes sent rest → Splits (bytes ++ more) sent (rest ++ more)
splits-stay bytes more [] rest s = ap (λ (t : List ℕ). t ++ more) s
splits-stay bytes more (x ∷ sent) rest s =
    let stay = takes_stay bytes more x.size x.message s.0 in
    (stay.1, subst (λ (t : List ℕ). Splits t sent (rest ++ more)) (sym (drop_front x.size bytes more stay.0)) (splits-stay (drop x.size bytes) more sent rest s.1))

-- a front of bytes asks no more
pub front_asks : (bytes more : List ℕ) (n : ℕ) → AskAtMost (bytes ++ more) n → AskAtMost bytes n
front_asks bytes more n a = record {
  taken = λ sent rest s. a.taken sent (rest ++ more) (splits-stay bytes more sent rest s);
  refused = λ sent rest k r s next. a.refused sent (rest ++ more) k r (splits-stay bytes more sent rest s) (refuses_stay rest more k r next);
}

-- ---- what is handled

-- a message is taken
pub taken_asks : (bytes more : List ℕ) (n size : ℕ) (m : Message) → IsNext bytes (takes size m) → AskAtMost (bytes ++ more) n
    → (1 ≤ n) × AskAtMost (drop size bytes ++ more) (n - 1)
taken_asks bytes more n size m next a =
    let stay = takes_stay bytes more size m next in
    let s : Sent = record { message = m; size = size } in
    let one : 1 ≤ n = a.taken (s ∷ []) (drop size (bytes ++ more)) (stay.1, refl) in
    let same = drop_front size bytes more stay.0 in (
      one,
      record {
        taken = λ sent rest k.
            let all : suc (length sent) ≤ n = a.taken (s ∷ sent) rest (stay.1, subst (λ (t : List ℕ). Splits t sent rest) (sym same) k) in
            omega (arith, all);
        refused = λ sent rest k r p last.
            let all : suc (length sent) < n = a.refused (s ∷ sent) rest k r (stay.1, subst (λ (t : List ℕ). Splits t sent rest) (sym same) p) last in
            omega (arith, all);
      },
    )

-- a head is refused
pub refused_asks : (bytes more : List ℕ) (n k : ℕ) (r : RefusedHead) → IsNext bytes (refuses k r) → AskAtMost (bytes ++ more) n → 1 ≤ n
refused_asks bytes more n k r next a = a.refused [] (bytes ++ more) k r refl (refuses_stay bytes more k r next)

-- ---- the requests of bytes

takes-last : (x : Next) (n : ℕ) (m : Message) → IsLast x → x ≡ takes n m → ⊥
takes-last waits n m last e = cc
takes-last (refuses k r) n m last e = cc
takes-last (takes k l) n m last e = last

size-of : (s t : Sent) (bytes : List ℕ) → IsNext bytes (takes s.size s.message) → IsNext bytes (takes t.size t.message) → s.size ≡ t.size
size-of s t bytes h g =
    let same = next_one bytes (takes s.size s.message) (takes t.size t.message) h g in cc

-- no more messages are taken than there are
fewer : (sent other : List Sent) (bytes rest behind : List ℕ) (last : Next) → Splits bytes sent rest → IsNext rest last → IsLast last
    → Splits bytes other behind → length other ≤ length sent
fewer sent [] bytes rest behind last s next is o = omega arith
fewer [] (x ∷ other) bytes rest behind last s next is o =
    absurd (takes-last last x.size x.message is (next_one bytes last (takes x.size x.message) (subst (λ (t : List ℕ). IsNext t last) (sym s) next) o.0))
fewer (y ∷ sent) (x ∷ other) bytes rest behind last s next is o =
    let same : y.size ≡ x.size = size-of y x bytes s.0 o.0 in
    let le : length other ≤ length sent =
    fewer sent other (drop y.size bytes) rest behind last s.1 next is (subst (λ (n : ℕ). Splits (drop n bytes) other behind) (sym same) o.1) in
    omega (arith, le)

refuses-count : (last : Next) (k : ℕ) (r : RefusedHead) → last ≡ refuses k r → count_at last ≡ 1
refuses-count last k r e = ap count_at e

-- and a refused head behind them is the last of all
fewer-refused : (sent other : List Sent) (bytes rest behind : List ℕ) (last : Next) (k : ℕ) (r : RefusedHead) → Splits bytes sent rest → IsNext rest last → IsLast last
    → Splits bytes other behind → IsNext behind (refuses k r) → length other < length sent + count_at last
fewer-refused [] [] bytes rest behind last k r s next is o stop =
    let same : last ≡ refuses k r = next_one rest last (refuses k r) next (subst (λ (t : List ℕ). IsNext t (refuses k r)) (sym o ∙ s) stop) in
    omega (arith, refuses-count last k r same)
fewer-refused (y ∷ sent) [] bytes rest behind last k r s next is o stop =
    omega arith
fewer-refused [] (x ∷ other) bytes rest behind last k r s next is o stop =
    absurd (takes-last last x.size x.message is (next_one bytes last (takes x.size x.message) (subst (λ (t : List ℕ). IsNext t last) (sym s) next) o.0))
fewer-refused (y ∷ sent) (x ∷ other) bytes rest behind last k r s next is o stop =
    let same : y.size ≡ x.size = size-of y x bytes s.0 o.0 in
    let lt : length other < length sent + count_at last =
    fewer-refused sent other (drop y.size bytes) rest behind last k r s.1 next is (subst (λ (n : ℕ). Splits (drop n bytes) other behind) (sym same) o.1) stop in
    omega (arith, lt)

-- so many stand there
pub requests_ask : (bytes : List ℕ) (sent : List Sent) (last : Next) → Requests bytes sent last → AskAtMost bytes (asked_count sent last)
requests_ask bytes sent last q = record {
  taken = λ other behind o.
      let le : length other ≤ length sent = fewer sent other bytes q.rest behind last q.splits q.next q.is_last o in
      omega (arith, le);
  refused = λ other behind k r o stop. fewer-refused sent other bytes q.rest behind last k r q.splits q.next q.is_last o stop;
}

-- ---- no more than there are bytes

-- a head has a byte at least
end-step : (o : Option Scan) (bytes : List ℕ) (n : ℕ) → ended_or (Some 1) o (λ next. option_map (λ k. suc k) (end_from next bytes)) ≡ Some n → 1 ≤ n
end-step None bytes n e = (let same : 1 ≡ n = same_Some 1 n e in omega (arith, same))
end-step (Some next) bytes n e = by (end_from next bytes) e
  where
    by : (o : Option ℕ) → option_map (λ k. suc k) o ≡ Some n → 1 ≤ n
    by None f = absurd cc
    by (Some k) f = let same : suc k ≡ n = same_Some (suc k) n f in omega (arith, same)

head-some : (scan : Scan) (bytes : List ℕ) (n : ℕ) → end_from scan bytes ≡ Some n → 1 ≤ n
head-some scan [] n e = absurd cc
head-some scan (b ∷ bytes) n e = end-step (step scan b) bytes n e

head-bytes : (bytes : List ℕ) (n : ℕ) → head_end (take 8192 bytes) ≡ Some n → 1 ≤ length bytes
head-bytes [] n e = absurd cc
head-bytes (b ∷ bytes) n e = omega arith

takes-behind : (bytes : List ℕ) (n k : ℕ) (m : Message) (v : Verdict) → 1 ≤ n → takes k m ≡ behind bytes n v → 1 ≤ k
takes-behind bytes n k m (Refuses r) one e = absurd cc
takes-behind bytes n k m (Goes g segment) one e = by (leb (n + g.size) (length bytes)) e
  where
    by : (b : Bool) → takes k m ≡ cond b (takes (n + g.size) (record { route = g.route; segment = segment; body = take g.size (drop n bytes); close = g.close })) waits → 1 ≤ k
    by true f = let same : k ≡ n + g.size = cc in omega (arith, same, one)
    by false f = absurd cc

takes-some : (o : Option ℕ) (bytes : List ℕ) (k : ℕ) (m : Message) → head_end (take 8192 bytes) ≡ o → IsNextAt o bytes (takes k m) → 1 ≤ k
takes-some None bytes k m e next = by (leb 8192 (length bytes)) next
  where
    by : (b : Bool) → takes k m ≡ cond b (refuses 8192 (record { refusal = Fields; bare = false })) waits → 1 ≤ k
    by true f = absurd cc
    by false f = absurd cc
takes-some (Some n) bytes k m e (v, is, same) = takes-behind bytes n k m v (head-some Before (take 8192 bytes) n e) same

refuses-some : (o : Option ℕ) (bytes : List ℕ) (k : ℕ) (r : RefusedHead) → head_end (take 8192 bytes) ≡ o → IsNextAt o bytes (refuses k r) → 1 ≤ length bytes
refuses-some None bytes k r e next = by (leb 8192 (length bytes)) refl next
  where
    by : (b : Bool) → leb 8192 (length bytes) ≡ b → refuses k r ≡ cond b (refuses 8192 (record { refusal = Fields; bare = false })) waits → 1 ≤ length bytes
    by true long f = (let le : 8192 ≤ length bytes = leb-true 8192 (length bytes) long in omega (arith, le))
    by false long f = absurd cc
refuses-some (Some n) bytes k r e next = head-bytes bytes n e

splits-few : (sent : List Sent) (bytes rest : List ℕ) → Splits bytes sent rest → length sent + length rest ≤ length bytes
splits-few [] bytes rest s = omega (arith, ap length s)
splits-few (x ∷ sent) bytes rest s =
    let some : 1 ≤ x.size = takes-some (head_end (take 8192 bytes)) bytes x.size x.message refl s.0 in
    let fits : x.size ≤ length bytes = (takes_stay bytes [] x.size x.message s.0).0 in
    let few : length sent + length rest ≤ length (drop x.size bytes) = splits-few sent (drop x.size bytes) rest s.1 in
    omega (arith, some, fits, few, length-drop x.size bytes)

-- bytes ask no more requests than they are
pub bytes_ask : (bytes : List ℕ) → AskAtMost bytes (length bytes)
bytes_ask bytes = record {
  taken = λ sent rest s. (let few = splits-few sent bytes rest s in omega (arith, few));
  refused = λ sent rest k r s next.
      (let few = splits-few sent bytes rest s in
      let some = refuses-some (head_end (take 8192 rest)) rest k r refl next in
      omega (arith, few, some));
}
