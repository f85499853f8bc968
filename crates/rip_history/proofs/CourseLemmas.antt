-- Courses: their turns, and isolation.
use Rattle.std.proofs.Common.{◌≡◌, ℕ, ◌+◌, ◌≤◌, List, [], ◌∷◌, ◌++◌, length, refl, sym, ◌∙◌, subst, arith, append-nil, append_assoc}
use Rattle.std.specs.List.{AllByRecursion}
use Rattle.rip_log.specs.Entries.{Recorded, opened, admitted, served, done, closed, ended}
use Rattle.rip_history.specs.Requests.{Decision, answers, opens, admits, closes, decide}
use Rattle.rip_history.specs.Course.{Handled, Turn, decided_entries, handled_entries, turn_entries, entries_from, IsMadeIn, AreMade, turn_of, AreWithin, CoursesAreInOrder, CoursesCount, CoursesIsolate}
use Rattle.rip_history.proofs.RequestLemmas.{opened_is_new, admitted_is_ready}
use Rattle.rip_history.proofs.SequenceLemmas.{IsCounted, EachCounted, good}
use Rattle.rip_history.proofs.SessionLemmas.{sessions_are_alone}

-- the entries are of this turn
abbrev AreOf : ℕ → List Recorded → Type 0
AreOf turn = AllByRecursion (λ e. turn_of e ≡ turn)

of-join : (turn : ℕ) (xs ys : List Recorded) → AreOf turn xs → AreOf turn ys → AreOf turn (xs ++ ys)
of-join turn [] ys p q = q
of-join turn (x ∷ xs) ys p q = (p.0, of-join turn xs ys p.1 q)

of-decided : (turn moment : ℕ) (d : Decision) → AreOf turn (decided_entries turn moment d)
of-decided turn moment (answers code body) = tt
of-decided turn moment (opens n id seed) = (refl, tt)
of-decided turn moment (admits n b) = (refl, tt)
of-decided turn moment (closes n body) = (refl, tt)

of-handled : (limit turn moment : ℕ) (h : List Recorded) (xs : List Handled) → AreOf turn (handled_entries limit turn moment h xs)
of-handled limit turn moment h [] = tt
of-handled limit turn moment h (x ∷ xs) =
    let d = decide limit h x.asked x.drawn x.lack in
    of-join turn (decided_entries turn moment d) (handled_entries limit turn moment (h ++ decided_entries turn moment d) xs)
    (of-decided turn moment d) (of-handled limit turn moment (h ++ decided_entries turn moment d) xs)

made-one : (turn moment : ℕ) (e : Recorded) → IsMadeIn turn moment e → turn_of e ≡ turn
made-one turn moment (opened t session id seed time) p = absurd p
made-one turn moment (admitted t session b) p = absurd p
made-one turn moment (served t session number k name args time reply) p = p.0
made-one turn moment (done t session number how) p = p
made-one turn moment (closed t session) p = absurd p
made-one turn moment (ended t status) p = absurd p

of-made : (turn moment : ℕ) (es : List Recorded) → AllByRecursion (IsMadeIn turn moment) es → AreOf turn es
of-made turn moment [] p = tt
of-made turn moment (e ∷ es) p = (made-one turn moment e p.0, of-made turn moment es p.1)

-- entries of one turn before others that are later
lower : (low turn high : ℕ) (h : List Recorded) → low ≤ turn → AreWithin turn high h → AreWithin low high h
lower low turn high [] le p = tt
lower low turn high (e ∷ h) le p = (omega (arith, le, p.0), p.1, p.2)

within-join : (turn high : ℕ) (xs ys : List Recorded) → turn ≤ high → AreOf turn xs → AreWithin turn high ys → AreWithin turn high (xs ++ ys)
within-join turn high [] ys le p q = q
within-join turn high (x ∷ xs) ys le p q =
    let rest = within-join turn high xs ys le p.1 q in
    (omega (arith, p.0), omega (arith, p.0, le), subst (λ (t : ℕ). AreWithin t high (xs ++ ys)) (sym p.0) rest)

within : (limit turn high : ℕ) (h : List Recorded) (ts : List Turn) → turn + length ts ≤ high + 1 → AreMade turn ts → AreWithin turn high (entries_from limit turn h ts)
within limit turn high h [] le p = tt
within limit turn high h (t ∷ ts) le p =
    let es = turn_entries limit turn h t in
    let more : length (t ∷ ts) ≡ length ts + 1 = omega arith in
    let rest = within limit (turn + 1) high (h ++ es) ts (omega (arith, le, more)) p.2 in
    within-join turn high es (entries_from limit (turn + 1) (h ++ es) ts) (omega (arith, le, more))
    (of-join turn (handled_entries limit turn t.moment h t.handled) t.made (of-handled limit turn t.moment h t.handled) (of-made turn t.moment t.made p.0))
    (lower turn (turn + 1) high (entries_from limit (turn + 1) (h ++ es) ts) (omega arith) rest)

pub courses_are_in_order : CoursesAreInOrder
courses_are_in_order m service limit told turns history c =
    subst (λ (h : List Recorded). AreWithin 1 (length turns) h) (sym c.entries) (within limit 1 (length turns) [] turns (omega arith) c.made)

pub courses_isolate : CoursesIsolate
courses_isolate m reads service other_service limit other_limit told other_told turns other_turns history other n k opening c d here there calm other_calm batches given =
    sessions_are_alone m reads (length turns) (length other_turns) history other n k (c.sessions n opening here) (d.sessions k opening there)
    calm other_calm (here ∙ sym there) batches given

-- ---- sessions and batches are counted

counted_join : (before xs ys : List Recorded) → EachCounted before xs → EachCounted (before ++ xs) ys → EachCounted before (xs ++ ys)
counted_join before [] ys p q = subst (λ (b : List Recorded). EachCounted b ys) (append-nil before) q
counted_join before (x ∷ xs) ys p q =
    (p.0, counted_join (before ++ x ∷ []) xs ys p.1 (subst (λ (b : List Recorded). EachCounted b ys) (sym (append_assoc before (x ∷ []) xs)) q))

counted_made : (turn moment : ℕ) (before es : List Recorded) → AllByRecursion (IsMadeIn turn moment) es → EachCounted before es
counted_made turn moment before [] p = tt
counted_made turn moment before (e ∷ es) p = (made_counts e p.0, counted_made turn moment (before ++ e ∷ []) es p.1)
  where
    made_counts : (e : Recorded) → IsMadeIn turn moment e → IsCounted before e
    made_counts (opened t session id seed time) q = absurd q
    made_counts (admitted t session b) q = absurd q
    made_counts (served t session number k name args time reply) q = tt
    made_counts (done t session number how) q = tt
    made_counts (closed t session) q = tt
    made_counts (ended t status) q = tt

counted_decided : (limit turn moment : ℕ) (h : List Recorded) (x : Handled) (d : Decision) → decide limit h x.asked x.drawn x.lack ≡ d
    → EachCounted h (decided_entries turn moment d)
counted_decided limit turn moment h x (answers code body) e = tt
counted_decided limit turn moment h x (opens n id seed) e =
    let new = opened_is_new limit h x.asked x.drawn x.lack n id seed e in
    ((new.ordinal, new.fresh), tt)
counted_decided limit turn moment h x (admits n b) e = (admitted_is_ready limit h x.asked x.drawn x.lack n b e, tt)
counted_decided limit turn moment h x (closes n body) e = (tt, tt)

counted_handled : (limit turn moment : ℕ) (h : List Recorded) (xs : List Handled) → EachCounted h (handled_entries limit turn moment h xs)
counted_handled limit turn moment h [] = tt
counted_handled limit turn moment h (x ∷ xs) =
    let d = decide limit h x.asked x.drawn x.lack in
    let es = decided_entries turn moment d in
    counted_join h es (handled_entries limit turn moment (h ++ es) xs) (counted_decided limit turn moment h x d refl) (counted_handled limit turn moment (h ++ es) xs)

counted_turns : (limit turn : ℕ) (h : List Recorded) (ts : List Turn) → AreMade turn ts → EachCounted h (entries_from limit turn h ts)
counted_turns limit turn h [] p = tt
counted_turns limit turn h (t ∷ ts) p =
    let decided = handled_entries limit turn t.moment h t.handled in
    let es = turn_entries limit turn h t in
    counted_join h es (entries_from limit (turn + 1) (h ++ es) ts)
    (counted_join h decided t.made (counted_handled limit turn t.moment h t.handled) (counted_made turn t.moment (h ++ decided) t.made p.0))
    (counted_turns limit (turn + 1) (h ++ es) ts p.2)

pub courses_count : CoursesCount
courses_count m service limit told turns history c =
    let g = good history (subst (λ (h : List Recorded). EachCounted [] h) (sym c.entries) (counted_turns limit 1 [] turns c.made)) in
    record { ordinals = g.ordinals; identifiers = g.distinct; batches = λ n. let s = g.sessions n in s.numbers }
