-- Counting sessions and batches along a history.
use Rattle.std.proofs.Common.{◌≡◌, ℕ, zero, suc, ◌+◌, ◌<◌, Bool, true, false, cond, eqb, List, [], ◌∷◌, ◌++◌, length, Option, Some, None, refl, sym, ap, ◌∙◌, subst, arith, append-nil, append_assoc, length-append}
use Rattle.std.specs.Prelude.{option_map, unwrap_or}
use Rattle.std.specs.List.{list_any}
use Rattle.std.proofs.lemmas.Bool.{eqb-true, eqb-false, ne_eqb, or_parts, or_from, false≢true}
use Rattle.std.proofs.lemmas.List.{length-map}
use Rattle.rip_wire.specs.Batches.{Contents}
use Rattle.rip_wire.specs.Reasons.{reason_of}
use Rattle.rip_log.specs.Entries.{Recorded, opened, admitted, served, done, closed, ended}
use Rattle.rip_history.specs.Requests.{identifiers_in, was_opened}
use Rattle.rip_history.specs.Sequences.{IsReadyFor, MayFollow, EachFollows, counted, ordinals_in, numbers_of, is_over, AreDistinct, OrdinalsCount, BatchesCount, IdentifiersDiffer, EndsLast}
use Rattle.rip_history.specs.Sessions.{batches_in}
use Rattle.rip_history.specs.Standings.{after_entry, standing_of, when_opened, when_admitted, when_done, when_closed}
use Rattle.rip_history.specs.declared.standing.Standing.{Standing}
use Rattle.rip_history.proofs.DecisionLemmas.{admits_next}
use Rattle.rip_history.proofs.StandingLemmas.{standings_follow}

-- ---- one entry more

pushed : (t : Bool) (b : Contents) (xs ys zs : List Contents) → xs ≡ ys ++ zs → cond t (b ∷ xs) xs ≡ cond t (b ∷ ys) ys ++ zs
pushed true b xs ys zs e = ap (λ (t : List Contents). b ∷ t) e
pushed false b xs ys zs e = e

batches-push : (n : ℕ) (h : List Recorded) (e : Recorded) → batches_in n (h ++ e ∷ []) ≡ batches_in n h ++ batches_in n (e ∷ [])
batches-push n [] e = refl
batches-push n (opened turn session id seed time ∷ h) e = batches-push n h e
batches-push n (admitted turn session b ∷ h) e =
    pushed (eqb session n) b (batches_in n (h ++ e ∷ [])) (batches_in n h) (batches_in n (e ∷ [])) (batches-push n h e)
batches-push n (served turn session number k name args time reply ∷ h) e = batches-push n h e
batches-push n (done turn session number how ∷ h) e = batches-push n h e
batches-push n (closed turn session ∷ h) e = batches-push n h e
batches-push n (ended turn status ∷ h) e = batches-push n h e

ordinals-push : (h : List Recorded) (e : Recorded) → ordinals_in (h ++ e ∷ []) ≡ ordinals_in h ++ ordinals_in (e ∷ [])
ordinals-push [] e = refl
ordinals-push (opened turn session id seed time ∷ h) e = ap (λ t. session ∷ t) (ordinals-push h e)
ordinals-push (admitted turn session b ∷ h) e = ordinals-push h e
ordinals-push (served turn session number k name args time reply ∷ h) e = ordinals-push h e
ordinals-push (done turn session number how ∷ h) e = ordinals-push h e
ordinals-push (closed turn session ∷ h) e = ordinals-push h e
ordinals-push (ended turn status ∷ h) e = ordinals-push h e

same_count : (h : List Recorded) → length (identifiers_in h) ≡ length (ordinals_in h)
same_count [] = refl
same_count (opened turn session id seed time ∷ h) = ap suc (same_count h)
same_count (admitted turn session b ∷ h) = same_count h
same_count (served turn session number k name args time reply ∷ h) = same_count h
same_count (done turn session number how ∷ h) = same_count h
same_count (closed turn session ∷ h) = same_count h
same_count (ended turn status ∷ h) = same_count h

-- the next number behind those counted
counted-push : (from n : ℕ) → counted from n ++ (from + n) ∷ [] ≡ counted from (suc n)
counted-push from zero = let same : from + zero ≡ from = omega arith in ap (λ (k : ℕ). k ∷ []) same
counted-push from (suc n) =
    let same : from + suc n ≡ from + 1 + n = omega arith in
    ap (λ (k : ℕ). from ∷ counted (from + 1) n ++ k ∷ []) same ∙ ap (λ (t : List ℕ). from ∷ t) (counted-push (from + 1) n)

-- a list that is counted, and the next number behind it
counts-push : (xs : List ℕ) (x : ℕ) → xs ≡ counted 1 (length xs) → x ≡ length xs + 1 → xs ++ x ∷ [] ≡ counted 1 (length (xs ++ x ∷ []))
counts-push xs x h e =
    let one : length (x ∷ []) ≡ 1 = refl in
    let size : length (xs ++ x ∷ []) ≡ suc (length xs) = omega (arith, length-append xs (x ∷ []), one) in
    let next : x ≡ 1 + length xs = omega (arith, e) in
    ap (λ (t : List ℕ). t ++ x ∷ []) h ∙ ap (λ (k : ℕ). counted 1 (length xs) ++ k ∷ []) next ∙ counted-push 1 (length xs) ∙ ap (counted 1) (sym size)

numbers-push : (bs : List Contents) (b : Contents) → numbers_of (bs ++ b ∷ []) ≡ numbers_of bs ++ b.number ∷ []
numbers-push [] b = refl
numbers-push (c ∷ bs) b = ap (λ t. c.number ∷ t) (numbers-push bs b)

-- ---- a session along the history

some_one : (a t : Standing) → Some a ≡ Some t → t ≡ a
some_one a t e = ap (λ (o : Option Standing). unwrap_or o a) (sym e)

abbrev IsThere : Option Standing → Type 0
IsThere None = ⊥
IsThere (Some t) = Unit {0}

no_none : (a : Standing) → Some a ≡ None → ⊥
no_none a e = subst IsThere e tt

-- of count sessions that were opened, the one of ordinal n stands so after these batches
pub record Counts (count n : ℕ) (s : Option Standing) (bs : List Contents) : Type 0 where
  pub numbers : numbers_of bs ≡ counted 1 (length bs)
  pub last : (t : Standing) → s ≡ Some t → t.last ≡ length bs
  pub unopened : s ≡ None → bs ≡ []
  pub later : count < n → s ≡ None

-- the count grows by one, and the session may be the one that is opened
counts-opened : (count n session : ℕ) (s : Option Standing) (bs : List Contents) (b : Bool) → eqb session n ≡ b → session ≡ count + 1
    → Counts count n s bs → Counts (count + 1) n (cond b (Some when_opened) s) bs
counts-opened count n session s bs true is next c =
    let same = eqb-true session n is in
    let none : bs ≡ [] = c.unopened (c.later (omega (arith, same, next))) in
    record {
      numbers = c.numbers;
      last = λ t e. ap (λ (x : Standing). x.last) (some_one when_opened t e) ∙ ap length (sym none);
      unopened = λ e. none;
      later = λ above. absurd (omega (arith, same, next, above));
    }
counts-opened count n session s bs false is next c = record {
  numbers = c.numbers;
  last = c.last;
  unopened = c.unopened;
  later = λ above. c.later (omega (arith, above));
}

-- what keeps the last number keeps the counts
counts-kept : (count n : ℕ) (f : Standing → Standing) → ((t : Standing) → (f t).last ≡ t.last) → (s : Option Standing) (bs : List Contents)
    → Counts count n s bs → Counts count n (option_map f s) bs
counts-kept count n f keeps None bs c = c
counts-kept count n f keeps (Some t) bs c = record {
  numbers = c.numbers;
  last = λ u e. ap (λ (x : Standing). x.last) (some_one (f t) u e) ∙ keeps t ∙ c.last t refl;
  unopened = λ e. absurd (no_none (f t) e);
  later = λ above. absurd (no_none t (c.later above));
}

-- the same where the entry is of that session
counts-where : (count n : ℕ) (f : Standing → Standing) → ((t : Standing) → (f t).last ≡ t.last) → (s : Option Standing) (bs : List Contents) (b : Bool)
    → Counts count n s bs → Counts count n (cond b (option_map f s) s) bs
counts-where count n f keeps s bs true c = counts-kept count n f keeps s bs c
counts-where count n f keeps s bs false c = c

-- a batch more is the next
counts-next : (count n : ℕ) (t : Standing) (s : Option Standing) (bs : List Contents) (b : Contents) → s ≡ Some t → b.number ≡ t.last + 1
    → Counts count n s bs → Counts count n (option_map (when_admitted b.number) s) (bs ++ b ∷ [])
counts-next count n t s bs b stands next c =
    let size : length (numbers_of bs) ≡ length bs = length-map bs (λ (x : Contents). x.number) in
    let more : length (bs ++ b ∷ []) ≡ length bs + 1 = length-append bs (b ∷ []) in
    let single : length (b.number ∷ []) ≡ 1 = refl in
    let is : option_map (when_admitted b.number) s ≡ Some (when_admitted b.number t) = ap (option_map (when_admitted b.number)) stands in
    let count_of : length (numbers_of bs ++ b.number ∷ []) ≡ length (bs ++ b ∷ []) = omega (arith, length-append (numbers_of bs) (b.number ∷ []), single, size, more) in
    let before : numbers_of bs ≡ counted 1 (length (numbers_of bs)) = c.numbers ∙ ap (counted 1) (sym size) in
    record {
      numbers = numbers-push bs b ∙ counts-push (numbers_of bs) b.number before (omega (arith, next, size, c.last t stands)) ∙ ap (counted 1) count_of;
      last = λ u e. ap (λ (x : Standing). x.last) (some_one (when_admitted b.number t) u (sym is ∙ e)) ∙ omega (arith, next, more, c.last t stands);
      unopened = λ e. absurd (no_none (when_admitted b.number t) (sym is ∙ e));
      later = λ above. absurd (no_none t (sym stands ∙ c.later above));
    }

counts-admitted : (count n session : ℕ) (h : List Recorded) (bs : List Contents) (b : Contents) (t : Bool) → eqb session n ≡ t → IsReadyFor h session b.number
    → Counts count n (standing_of n h) bs
    → Counts count n (cond t (option_map (when_admitted b.number) (standing_of n h)) (standing_of n h)) (bs ++ cond t (b ∷ []) [])
counts-admitted count n session h bs b true is ready c =
    let stands : standing_of n h ≡ Some ready.standing = subst (λ (k : ℕ). standing_of k h ≡ Some ready.standing) (eqb-true session n is) ready.stands in
    let next = (admits_next ready.standing b.number).0 ready.admits in
    counts-next count n ready.standing (standing_of n h) bs b stands next.2 c
counts-admitted count n session h bs b false is ready c = subst (λ (xs : List Contents). Counts count n (standing_of n h) xs) (sym (append-nil bs)) c

-- nothing is added to the batches
counts-same : (count n : ℕ) (s : Option Standing) (bs : List Contents) → Counts count n s bs → Counts count n s (bs ++ [])
counts-same count n s bs c = subst (λ (xs : List Contents). Counts count n s xs) (sym (append-nil bs)) c

-- nothing is added, and no session
counts-still : (count n : ℕ) (s : Option Standing) (bs : List Contents) → Counts count n s bs → Counts (count + 0) n s (bs ++ [])
counts-still count n s bs c = let same : count ≡ count + 0 = omega arith in subst (λ (k : ℕ). Counts k n s (bs ++ [])) same (counts-same count n s bs c)

-- what makes an entry count: a session is opened with the next ordinal and an identifier that none had, a batch is admitted
-- where that is decided
abbrev pub IsCounted : List Recorded → Recorded → Type 0
IsCounted h (opened turn session id seed time) = (session ≡ length (identifiers_in h) + 1) × (was_opened id h ≡ false)
IsCounted h (admitted turn session b) = IsReadyFor h session b.number
IsCounted h (served turn session number k name args time reply) = Unit {0}
IsCounted h (done turn session number how) = Unit {0}
IsCounted h (closed turn session) = Unit {0}
IsCounted h (ended turn status) = Unit {0}

-- by the entry
counts-step : (count n : ℕ) (h : List Recorded) (e : Recorded) → count ≡ length (identifiers_in h) → IsCounted h e
    → Counts count n (standing_of n h) (batches_in n h)
    → Counts (count + length (ordinals_in (e ∷ []))) n (after_entry n (standing_of n h) e) (batches_in n h ++ batches_in n (e ∷ []))
counts-step count n h (opened turn session id seed time) size follows c =
    counts-same (count + 1) n (cond (eqb session n) (Some when_opened) (standing_of n h)) (batches_in n h)
    (counts-opened count n session (standing_of n h) (batches_in n h) (eqb session n) refl (omega (arith, size, follows.0)) c)
counts-step count n h (admitted turn session b) size follows c =
    let same : count ≡ count + 0 = omega arith in
    subst (λ (k : ℕ). Counts k n (after_entry n (standing_of n h) (admitted turn session b)) (batches_in n h ++ batches_in n (admitted turn session b ∷ []))) same
    (counts-admitted count n session h (batches_in n h) b (eqb session n) refl follows c)
counts-step count n h (served turn session number k name args time reply) size follows c =
    counts-still count n (standing_of n h) (batches_in n h) c
counts-step count n h (done turn session number how) size follows c =
    counts-still count n (cond (eqb session n) (option_map (when_done number (option_map reason_of how)) (standing_of n h)) (standing_of n h)) (batches_in n h)
    (counts-where count n (when_done number (option_map reason_of how)) (λ t. refl) (standing_of n h) (batches_in n h) (eqb session n) c)
counts-step count n h (closed turn session) size follows c =
    counts-still count n (cond (eqb session n) (option_map when_closed (standing_of n h)) (standing_of n h)) (batches_in n h)
    (counts-where count n when_closed (λ t. refl) (standing_of n h) (batches_in n h) (eqb session n) c)
counts-step count n h (ended turn status) size follows c =
    counts-still count n (standing_of n h) (batches_in n h) c

-- ---- identifiers

identifiers-push : (h : List Recorded) (e : Recorded) → identifiers_in (h ++ e ∷ []) ≡ identifiers_in h ++ identifiers_in (e ∷ [])
identifiers-push [] e = refl
identifiers-push (opened turn session id seed time ∷ h) e = ap (λ (t : List ℕ). id ∷ t) (identifiers-push h e)
identifiers-push (admitted turn session b ∷ h) e = identifiers-push h e
identifiers-push (served turn session number k name args time reply ∷ h) e = identifiers-push h e
identifiers-push (done turn session number how ∷ h) e = identifiers-push h e
identifiers-push (closed turn session ∷ h) e = identifiers-push h e
identifiers-push (ended turn status ∷ h) e = identifiers-push h e

-- another number is not among those and one more
any-push : (x y : ℕ) (xs : List ℕ) → eqb y x ≡ false → list_any (λ other. eqb other x) xs ≡ false → list_any (λ other. eqb other x) (xs ++ y ∷ []) ≡ false
any-push x y [] other h = or_from (eqb y x) false other refl
any-push x y (z ∷ xs) other h =
    let parts = or_parts (eqb z x) (list_any (λ o. eqb o x) xs) h in
    or_from (eqb z x) (list_any (λ o. eqb o x) (xs ++ y ∷ [])) parts.0 (any-push x y xs other parts.1)

distinct-push : (xs : List ℕ) (y : ℕ) → AreDistinct xs → list_any (λ other. eqb other y) xs ≡ false → AreDistinct (xs ++ y ∷ [])
distinct-push [] y d h = (refl, tt)
distinct-push (x ∷ xs) y d h =
    let parts = or_parts (eqb x y) (list_any (λ o. eqb o y) xs) h in
    let other : eqb y x ≡ false = ne_eqb y x (λ same. eqb-false x y parts.0 (sym same)) in
    (any-push x y xs other d.0, distinct-push xs y d.1 parts.1)

distinct-same : (h : List Recorded) → AreDistinct (identifiers_in h) → AreDistinct (identifiers_in h ++ [])
distinct-same h d = subst AreDistinct (sym (append-nil (identifiers_in h))) d

distinct-step : (h : List Recorded) (e : Recorded) → IsCounted h e → AreDistinct (identifiers_in h) → AreDistinct (identifiers_in h ++ identifiers_in (e ∷ []))
distinct-step h (opened turn session id seed time) follows d = distinct-push (identifiers_in h) id d follows.1
distinct-step h (admitted turn session b) follows d = distinct-same h d
distinct-step h (served turn session number k name args time reply) follows d = distinct-same h d
distinct-step h (done turn session number how) follows d = distinct-same h d
distinct-step h (closed turn session) follows d = distinct-same h d
distinct-step h (ended turn status) follows d = distinct-same h d

-- ---- the whole history

pub record Good (h : List Recorded) : Type 0 where
  pub ordinals : ordinals_in h ≡ counted 1 (length (ordinals_in h))
  pub distinct : AreDistinct (identifiers_in h)
  pub sessions : (n : ℕ) → Counts (length (identifiers_in h)) n (standing_of n h) (batches_in n h)

ordinals-same : (h : List Recorded) → ordinals_in h ≡ counted 1 (length (ordinals_in h)) → ordinals_in h ++ [] ≡ counted 1 (length (ordinals_in h ++ []))
ordinals-same h o = subst (λ (xs : List ℕ). xs ≡ counted 1 (length xs)) (sym (append-nil (ordinals_in h))) o

ordinals-step : (h : List Recorded) (e : Recorded) → IsCounted h e → ordinals_in h ≡ counted 1 (length (ordinals_in h))
    → ordinals_in h ++ ordinals_in (e ∷ []) ≡ counted 1 (length (ordinals_in h ++ ordinals_in (e ∷ [])))
ordinals-step h (opened turn session id seed time) follows o = counts-push (ordinals_in h) session o (follows.0 ∙ ap (λ (k : ℕ). k + 1) (same_count h))
ordinals-step h (admitted turn session b) follows o = ordinals-same h o
ordinals-step h (served turn session number k name args time reply) follows o = ordinals-same h o
ordinals-step h (done turn session number how) follows o = ordinals-same h o
ordinals-step h (closed turn session) follows o = ordinals-same h o
ordinals-step h (ended turn status) follows o = ordinals-same h o

pub good-step : (h : List Recorded) (e : Recorded) → IsCounted h e → Good h → Good (h ++ e ∷ [])
good-step h e follows g =
    let size : length (identifiers_in h) + length (ordinals_in (e ∷ [])) ≡ length (identifiers_in (h ++ e ∷ [])) =
    omega (arith, same_count h, same_count (h ++ e ∷ []), ap length (ordinals-push h e), length-append (ordinals_in h) (ordinals_in (e ∷ []))) in
    record {
      ordinals = subst (λ (xs : List ℕ). xs ≡ counted 1 (length xs)) (sym (ordinals-push h e)) (ordinals-step h e follows g.ordinals);
      distinct = subst AreDistinct (sym (identifiers-push h e)) (distinct-step h e follows g.distinct);
      sessions = λ n.
          let d = counts-step (length (identifiers_in h)) n h e refl follows (g.sessions n) in
          let sized = subst (λ (k : ℕ). Counts k n (after_entry n (standing_of n h) e) (batches_in n h ++ batches_in n (e ∷ []))) size d in
          let stood = subst (λ (s : Option Standing). Counts (length (identifiers_in (h ++ e ∷ []))) n s (batches_in n h ++ batches_in n (e ∷ []))) (sym (standings_follow n h e)) sized in
          subst (λ (bs : List Contents). Counts (length (identifiers_in (h ++ e ∷ []))) n (standing_of n (h ++ e ∷ [])) bs) (sym (batches-push n h e)) stood;
    }

-- each of the entries counts after those before it
abbrev pub EachCounted : List Recorded → List Recorded → Type 0
EachCounted before [] = Unit {0}
EachCounted before (e ∷ h) = IsCounted before e × EachCounted (before ++ e ∷ []) h

good-run : (before h : List Recorded) → EachCounted before h → Good before → Good (before ++ h)
good-run before [] each g = subst Good (sym (append-nil before)) g
good-run before (e ∷ h) each g =
    subst Good (append_assoc before (e ∷ []) h) (good-run (before ++ e ∷ []) h each.1 (good-step before e each.0 g))

pub good : (h : List Recorded) → EachCounted [] h → Good h
good h each = good-run [] h each (record {
  ordinals = refl;
  distinct = tt;
  sessions = λ n. record { numbers = refl; last = λ t e. absurd (no_none t (sym e)); unopened = λ e. refl; later = λ above. refl };
})

follows_counts : (h : List Recorded) (e : Recorded) → MayFollow h e → IsCounted h e
follows_counts h (opened turn session id seed time) follows = follows
follows_counts h (admitted turn session b) follows = follows
follows_counts h (served turn session number k name args time reply) follows = tt
follows_counts h (done turn session number how) follows = tt
follows_counts h (closed turn session) follows = tt
follows_counts h (ended turn status) follows = tt

each_counts : (before h : List Recorded) → EachFollows before h → EachCounted before h
each_counts before [] each = tt
each_counts before (e ∷ h) each = (follows_counts before e each.1, each_counts (before ++ e ∷ []) h each.2)

pub ordinals_count : OrdinalsCount
ordinals_count h each = let g = good h (each_counts [] h each) in g.ordinals

pub identifiers_differ : IdentifiersDiffer
identifiers_differ h each = let g = good h (each_counts [] h each) in g.distinct

pub batches_count : BatchesCount
batches_count h n each = let g = good h (each_counts [] h each) in let c = g.sessions n in c.numbers

-- ---- the last entry

over-push : (h : List Recorded) (turn status : ℕ) → is_over (h ++ ended turn status ∷ []) ≡ true
over-push [] turn status = refl
over-push (opened turn session id seed time ∷ h) t status = over-push h t status
over-push (admitted turn session b ∷ h) t status = over-push h t status
over-push (served turn session number k name args time reply ∷ h) t status = over-push h t status
over-push (done turn session number how ∷ h) t status = over-push h t status
over-push (closed turn session ∷ h) t status = over-push h t status
over-push (ended turn old ∷ h) t status = refl

each-behind : (before xs ys : List Recorded) → EachFollows before (xs ++ ys) → EachFollows (before ++ xs) ys
each-behind before [] ys each = subst (λ (b : List Recorded). EachFollows b ys) (sym (append-nil before)) each
each-behind before (x ∷ xs) ys each = subst (λ (b : List Recorded). EachFollows b ys) (append_assoc before (x ∷ []) xs) (each-behind (before ++ x ∷ []) xs ys each.2)

none-over : (before behind : List Recorded) (turn status : ℕ) → EachFollows (before ++ ended turn status ∷ []) behind → behind ≡ []
none-over before [] turn status each = refl
none-over before (e ∷ h) turn status each = absurd (false≢true (sym each.0 ∙ over-push before turn status))

pub ends_last : EndsLast
ends_last before behind turn status each =
    let rest = each-behind [] before (ended turn status ∷ behind) each in
    none-over before behind turn status rest.2
