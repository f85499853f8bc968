-- What a door in memory tells, and which knocks may follow that.
use Rattle.std.proofs.Common.{◌≡◌, ◌≢◌, ◌+◌, ◌<◌, ◌≤◌, ◌==◌, ◌⊎◌, ℕ, zero, suc, Bool, true, false, cond, if◌then◌else◌, List, [], ◌∷◌, ◌++◌, map, length, get_or, set, count_by, Contains, ◌↔◌, inl, inr, refl, sym, subst, ap, ◌∙◌, append_assoc, append-nil, eq-eqb, arith, nat_lt, sum_by}
use Rattle.std.proofs.lemmas.Bool.{eqb-true, eqb-false}
use Rattle.std.proofs.lemmas.Bool.Decides.{nat_tests}
use Rattle.std.proofs.lemmas.List.{map-append, get_or-set_other}
use Rattle.std.proofs.lemmas.Grind.{get_or-set_at}
use Rattle.std.proofs.lemmas.List.Sums.{sum_by-append, sum_by-cons, sum_by-le-sum_by}
use Rattle.std.proofs.lemmas.List.Elements.{Contains-push_cases, Contains-append_left, Contains-push}
use Rattle.rip_outer.specs.Connections.{Told, knocked, lost, is_opening, IsLive, IsShut, IsAllowedAfter, hush, hushed}
use Rattle.rip_outer.specs.KnockLists.{MayFollow, EachFollows}
use Rattle.rip_outer.specs.MemoryDoor.{hushed_by, AreMarks}
use Rattle.rip_outer.specs.declared.connections.TraceKnock.{TraceKnock}
use Rattle.rip_outer.specs.declared.connections.TraceKnock.TheVariants.{Opened, Bytes, Gone, Quiet}

-- FOLLOWING

-- one more thing is told
pub openings_push : (t : List Told) (x : Told) → count_by is_opening (t ++ x ∷ []) ≡ count_by is_opening t + cond (is_opening x) 1 0
openings_push t x = omega (arith, sum_by-append (λ y. cond (is_opening y) 1 0) t (x ∷ []))

-- u tells what t tells, but that some pieces and goings are quiet
pub record IsQuieter (t u : List Told) : Type 0 where
  pub openings : count_by is_opening t ≡ count_by is_opening u
  pub opened : (c : ℕ) → Contains t (knocked (Opened c)) → Contains u (knocked (Opened c))
  pub gone : (c : ℕ) → Contains u (knocked (Gone c)) → Contains t (knocked (Gone c))
  pub lost_ones : (c : ℕ) → Contains u (lost c) → Contains t (lost c)

quieter_self : (t : List Told) → IsQuieter t t
quieter_self t = record { openings = refl; opened = λ c h. h; gone = λ c h. h; lost_ones = λ c h. h }

-- what is in a list that grew by the same thing
in_both : (t u : List Told) (x y : Told) → (Contains t y → Contains u y) → Contains (t ++ x ∷ []) y → Contains (u ++ x ∷ []) y
in_both t u x y more h =
    elim (Contains-push_cases t x y h) [
      | inl before ↦ Contains-append_left u (x ∷ []) y (more before)
      | inr e ↦ subst (Contains (u ++ x ∷ [])) e (Contains-push u x)
    ]

quieter_push : (t u : List Told) (x : Told) → IsQuieter t u → IsQuieter (t ++ x ∷ []) (u ++ x ∷ [])
quieter_push t u x q = record {
  openings = openings_push t x ∙ ap (λ n. n + cond (is_opening x) 1 0) q.openings ∙ sym (openings_push u x);
  opened = λ c. in_both t u x (knocked (Opened c)) (q.opened c);
  gone = λ c. in_both u t x (knocked (Gone c)) (q.gone c);
  lost_ones = λ c. in_both u t x (lost c) (q.lost_ones c);
}

live_quieter : (t u : List Told) (c : ℕ) → IsQuieter t u → IsLive t [] c → IsLive u [] c
live_quieter t u c q l = record {
  opened = q.opened c l.opened;
  not_gone = λ h. l.not_gone (q.gone c h);
  not_lost = λ h. l.not_lost (q.lost_ones c h);
  not_shut = l.not_shut;
}

follows_quieter : (t u : List Told) (k : TraceKnock) → IsQuieter t u → MayFollow t k → MayFollow u k
follows_quieter t u (Opened c) q m = record { fits = m.fits; allowed = m.allowed ∙ q.openings }
follows_quieter t u (Bytes c bytes) q m = record { fits = m.fits; allowed = live_quieter t u c q m.allowed }
follows_quieter t u (Gone c) q m = record { fits = m.fits; allowed = live_quieter t u c q m.allowed }
follows_quieter t u Quiet q m = record { fits = m.fits; allowed = tt }

each_quieter : (t u : List Told) (ks : List TraceKnock) → IsQuieter t u → EachFollows t ks → EachFollows u ks
each_quieter t u [] q h = tt
each_quieter t u (k ∷ ks) q h = (follows_quieter t u k q h.0, each_quieter (t ++ knocked k ∷ []) (u ++ knocked k ∷ []) ks (quieter_push t u (knocked k) q) h.1)

-- something that is no opening is quiet
to_quiet : (t : List Told) (x : Told) → is_opening x ≡ false → ((c : ℕ) → x ≢ knocked (Opened c)) → IsQuieter (t ++ x ∷ []) (t ++ knocked Quiet ∷ [])
to_quiet t x closed other = record {
  openings = openings_push t x ∙ ap (λ b. count_by is_opening t + cond b 1 0) closed ∙ sym (openings_push t (knocked Quiet));
  opened = λ c h. elim (Contains-push_cases t x (knocked (Opened c)) h) [
    | inl before ↦ Contains-append_left t (knocked Quiet ∷ []) (knocked (Opened c)) before
    | inr e ↦ absurd (other c e)
  ];
  gone = λ c h. elim (Contains-push_cases t (knocked Quiet) (knocked (Gone c)) h) [
    | inl before ↦ Contains-append_left t (x ∷ []) (knocked (Gone c)) before
    | inr e ↦ absurd (cc)
  ];
  lost_ones = λ c h. elim (Contains-push_cases t (knocked Quiet) (lost c) h) [
    | inl before ↦ Contains-append_left t (x ∷ []) (lost c) before
    | inr e ↦ absurd (cc)
  ];
}

hush_quieter : (t : List Told) (shut : List Bool) (k : TraceKnock) → IsQuieter (t ++ knocked k ∷ []) (t ++ knocked (hushed_by shut k) ∷ [])
hush_quieter t shut (Opened c) = quieter_self (t ++ knocked (Opened c) ∷ [])
hush_quieter t shut (Bytes c bytes) = by (get_or shut c false)
  where
    by : (b : Bool) → IsQuieter (t ++ knocked (Bytes c bytes) ∷ []) (t ++ knocked (if b then Quiet else Bytes c bytes) ∷ [])
    by true = to_quiet t (knocked (Bytes c bytes)) refl (λ d e. cc)
    by false = quieter_self (t ++ knocked (Bytes c bytes) ∷ [])
hush_quieter t shut (Gone c) = by (get_or shut c false)
  where
    by : (b : Bool) → IsQuieter (t ++ knocked (Gone c) ∷ []) (t ++ knocked (if b then Quiet else Gone c) ∷ [])
    by true = to_quiet t (knocked (Gone c)) refl (λ d e. cc)
    by false = quieter_self (t ++ knocked (Gone c) ∷ [])
hush_quieter t shut Quiet = quieter_self (t ++ knocked Quiet ∷ [])

-- what followed a knock follows it where it is told as it came
pub each_hushed : (t : List TraceKnock) (shut : List Bool) (k : TraceKnock) (ks : List TraceKnock) → EachFollows (map knocked t) (k ∷ ks) → EachFollows (map knocked (t ++ hushed_by shut k ∷ [])) ks
each_hushed t shut k ks h =
    let told = each_quieter (map knocked t ++ knocked k ∷ []) (map knocked t ++ knocked (hushed_by shut k) ∷ []) ks (hush_quieter (map knocked t) shut k) h.1 in
    rw (map-append knocked t (hushed_by shut k ∷ [])) told

-- and it is allowed, where these connections were shut
pub allowed_hushed : (t : List Told) (shuts : List (ℕ × ℕ)) (shut : List Bool) (k : TraceKnock) → MayFollow t k → ((c : ℕ) → IsShut shuts c ↔ (get_or shut c false ≡ true)) → IsAllowedAfter t shuts (hushed_by shut k)
allowed_hushed t shuts shut (Opened c) m same = m.allowed
allowed_hushed t shuts shut (Bytes c bytes) m same = by (get_or shut c false) refl
  where
    by : (b : Bool) → get_or shut c false ≡ b → IsAllowedAfter t shuts (if b then Quiet else Bytes c bytes)
    by true e = tt
    by false e = record { opened = m.allowed.opened; not_gone = m.allowed.not_gone; not_lost = m.allowed.not_lost; not_shut = λ s. let there = (same c).0 s in cc }
allowed_hushed t shuts shut (Gone c) m same = by (get_or shut c false) refl
  where
    by : (b : Bool) → get_or shut c false ≡ b → IsAllowedAfter t shuts (if b then Quiet else Gone c)
    by true e = tt
    by false e = record { opened = m.allowed.opened; not_gone = m.allowed.not_gone; not_lost = m.allowed.not_lost; not_shut = λ s. let there = (same c).0 s in cc }
allowed_hushed t shuts shut Quiet m same = tt

-- a list of knocks grows by one that may follow
pub each_push : (t : List Told) (ks : List TraceKnock) (k : TraceKnock) → EachFollows t ks → MayFollow (t ++ map knocked ks) k → EachFollows t (ks ++ k ∷ [])
each_push t [] k h m = (rw (append-nil t) at m, tt)
each_push t (j ∷ ks) k h m = (h.0, each_push (t ++ knocked j ∷ []) ks k h.1 (rw (append_assoc t (knocked j ∷ []) (map knocked ks)) m))

-- SHUTTING

pub get_more : (shut : List Bool) (c : ℕ) → get_or (shut ++ false ∷ []) c false ≡ get_or shut c false
get_more [] zero = refl
get_more [] (suc c) = refl
get_more (b ∷ bs) zero = refl
get_more (b ∷ bs) (suc c) = get_more bs c

hushed_open : (shut : List Bool) (k : TraceKnock) → hushed_by (shut ++ false ∷ []) k ≡ hushed_by shut k
hushed_open shut (Opened c) = refl
hushed_open shut (Bytes c bytes) = ap (λ b. if b then Quiet else Bytes c bytes) (get_more shut c)
hushed_open shut (Gone c) = ap (λ b. if b then Quiet else Gone c) (get_more shut c)
hushed_open shut Quiet = refl

-- a connection that is opened hushes nothing
pub all_open : (shut : List Bool) (ks : List TraceKnock) → map (hushed_by (shut ++ false ∷ [])) ks ≡ map (hushed_by shut) ks
all_open shut [] = refl
all_open shut (k ∷ ks) = cc (hushed_open shut k, all_open shut ks)

-- nor does none
pub all_unhushed : (ks : List TraceKnock) → map (hushed_by []) ks ≡ ks
all_unhushed [] = refl
all_unhushed (Opened c ∷ ks) = ap (λ more. Opened c ∷ more) (all_unhushed ks)
all_unhushed (Bytes c bytes ∷ ks) = ap (λ more. Bytes c bytes ∷ more) (all_unhushed ks)
all_unhushed (Gone c ∷ ks) = ap (λ more. Gone c ∷ more) (all_unhushed ks)
all_unhushed (Quiet ∷ ks) = ap (λ more. Quiet ∷ more) (all_unhushed ks)

-- the mark of a connection, where c is marked
pub set_mark : (shut : List Bool) (c d : ℕ) → c < length shut → get_or (set shut c true) d false ≡ (if d == c then true else get_or shut d false)
set_mark shut c d within = by (d == c) refl
  where
    by : (b : Bool) → (d == c) ≡ b → get_or (set shut c true) d false ≡ (if b then true else get_or shut d false)
    by true e = let same : d ≡ c = eqb-true d c e in get_or-set_at shut c d true false same within
    by false e = let other : d ≢ c = eqb-false d c e in get_or-set_other shut c d true false other

bytes_shut : (c d : ℕ) (bytes : List ℕ) (marked : Bool) → (if (if d == c then true else marked) then Quiet else Bytes d bytes) ≡ hush c (if marked then Quiet else Bytes d bytes)
bytes_shut c d bytes true = by (d == c)
  where
    by : (b : Bool) → (if (if b then true else true) then Quiet else Bytes d bytes) ≡ Quiet
    by true = refl
    by false = refl
bytes_shut c d bytes false = by (d == c)
  where
    by : (b : Bool) → (if (if b then true else false) then Quiet else Bytes d bytes) ≡ (if b then Quiet else Bytes d bytes)
    by true = refl
    by false = refl

gone_shut : (c d : ℕ) (marked : Bool) → (if (if d == c then true else marked) then Quiet else Gone d) ≡ hush c (if marked then Quiet else Gone d)
gone_shut c d true = by (d == c)
  where
    by : (b : Bool) → (if (if b then true else true) then Quiet else Gone d) ≡ Quiet
    by true = refl
    by false = refl
gone_shut c d false = by (d == c)
  where
    by : (b : Bool) → (if (if b then true else false) then Quiet else Gone d) ≡ (if b then Quiet else Gone d)
    by true = refl
    by false = refl

hushed_shut : (shut : List Bool) (c : ℕ) (k : TraceKnock) → c < length shut → hushed_by (set shut c true) k ≡ hush c (hushed_by shut k)
hushed_shut shut c (Opened d) within = refl
hushed_shut shut c (Bytes d bytes) within = ap (λ b. if b then Quiet else Bytes d bytes) (set_mark shut c d within) ∙ bytes_shut c d bytes (get_or shut d false)
hushed_shut shut c (Gone d) within = ap (λ b. if b then Quiet else Gone d) (set_mark shut c d within) ∙ gone_shut c d (get_or shut d false)
hushed_shut shut c Quiet within = refl

-- a connection that is shut is hushed
pub all_shut : (shut : List Bool) (c : ℕ) (ks : List TraceKnock) → c < length shut → map (hushed_by (set shut c true)) ks ≡ hushed c (map (hushed_by shut) ks)
all_shut shut c [] within = refl
all_shut shut c (k ∷ ks) within = cc (hushed_shut shut c k within, all_shut shut c ks within)

-- no connection yet
pub marks_none : AreMarks [] []
marks_none c = (λ h. absurd (omega (arith, h.1)), λ e. absurd (cc))

-- one more connection
pub marks_open : (shuts : List (ℕ × ℕ)) (shut : List Bool) → AreMarks shuts shut → AreMarks shuts (shut ++ false ∷ [])
marks_open shuts shut same c = (λ h. get_more shut c ∙ (same c).0 h, λ e. (same c).1 (sym (get_more shut c) ∙ e))

-- one of them is shut
pub marks_shut : (shuts : List (ℕ × ℕ)) (shut : List Bool) (c n : ℕ) → c < length shut → AreMarks shuts shut → AreMarks (shuts ++ (c, n) ∷ []) (set shut c true)
marks_shut shuts shut c n within same d = (λ h. set_mark shut c d within ∙ marked (to h), λ e. from (sym (set_mark shut c d within) ∙ e))
  where
    names : List ℕ
    names = map (λ (s : ℕ × ℕ). s.0) shuts

    grown : map (λ (s : ℕ × ℕ). s.0) (shuts ++ (c, n) ∷ []) ≡ names ++ c ∷ []
    grown = map-append (λ (s : ℕ × ℕ). s.0) shuts ((c, n) ∷ [])

    to : IsShut (shuts ++ (c, n) ∷ []) d → Contains names d ⊎ (c ≡ d)
    to h = Contains-push_cases names c d (subst (λ xs. Contains xs d) grown h)

    by_true : (b : Bool) → (if b then true else true) ≡ true
    by_true true = refl
    by_true false = refl

    marked : Contains names d ⊎ (c ≡ d) → (if d == c then true else get_or shut d false) ≡ true
    marked (inl before) = ap (λ m. if d == c then true else m) ((same d).0 before) ∙ by_true (d == c)
    marked (inr e) = ap (λ b. if b then true else get_or shut d false) (eq-eqb d c (sym e))

    from_by : (b : Bool) → (d == c) ≡ b → (if b then true else get_or shut d false) ≡ true → Contains (names ++ c ∷ []) d
    from_by true e h = subst (Contains (names ++ c ∷ [])) (sym (eqb-true d c e)) (Contains-push names c)
    from_by false e h = Contains-append_left names (c ∷ []) d ((same d).1 h)

    from : (if d == c then true else get_or shut d false) ≡ true → IsShut (shuts ++ (c, n) ∷ []) d
    from h = subst (λ xs. Contains xs d) (sym grown) (from_by (d == c) refl h)

-- FAILING

open_more : (n : ℕ) (made : ℕ) → cond (nat_lt (made + 1) n) 1 0 ≤ cond (nat_lt made n) 1 0
open_more n made = grind (arith, nat_tests)

later_more : (n made later : ℕ) → made ≤ later → cond (nat_lt later n) 1 0 ≤ cond (nat_lt made n) 1 0
later_more n made later after = grind (arith, nat_tests)

-- the failures that are left are fewer by one where the next call fails, and not more else
pub failures_later : (made : ℕ) (failing : List ℕ) → count_by (λ n. nat_lt (made + 1) n) failing ≤ count_by (λ n. nat_lt made n) failing
failures_later made failing = sum_by-le-sum_by (λ n. cond (nat_lt (made + 1) n) 1 0) (λ n. cond (nat_lt made n) 1 0) failing (λ n. open_more n made)

-- at any later call there are no more of them
pub failures_at : (made later : ℕ) (failing : List ℕ) → made ≤ later → count_by (λ n. nat_lt later n) failing ≤ count_by (λ n. nat_lt made n) failing
failures_at made later failing after = sum_by-le-sum_by (λ n. cond (nat_lt later n) 1 0) (λ n. cond (nat_lt made n) 1 0) failing (λ n. later_more n made later after)

one_here : (made : ℕ) → cond (nat_lt (made + 1) (made + 1)) 1 0 + 1 ≤ cond (nat_lt made (made + 1)) 1 0
one_here made = grind (arith, nat_tests)

fewer_at : (made k : ℕ) (failing : List ℕ) → k < length failing → get_or failing k (made + 1) ≡ made + 1
    → count_by (λ n. nat_lt (made + 1) n) failing + 1 ≤ count_by (λ n. nat_lt made n) failing
fewer_at made k [] within here = absurd (omega arith)
fewer_at made zero (n ∷ ns) within here =
    let f : ℕ → ℕ = λ m. cond (nat_lt (made + 1) m) 1 0 in
    let g : ℕ → ℕ = λ m. cond (nat_lt made m) 1 0 in
    let first : f n + 1 ≤ g n = subst (λ m. f m + 1 ≤ g m) (sym here) (one_here made) in
    omega (arith, sum_by-cons f n ns, sum_by-cons g n ns, first, failures_later made ns)
fewer_at made (suc k) (n ∷ ns) within here =
    let f : ℕ → ℕ = λ m. cond (nat_lt (made + 1) m) 1 0 in
    let g : ℕ → ℕ = λ m. cond (nat_lt made m) 1 0 in
    omega (arith, sum_by-cons f n ns, sum_by-cons g n ns, open_more n made, fewer_at made k ns (omega arith) here)

pub failures_fewer : (made : ℕ) (failing : List ℕ) → Contains failing (made + 1)
    → count_by (λ n. nat_lt (made + 1) n) failing + 1 ≤ count_by (λ n. nat_lt made n) failing
failures_fewer made failing h = fewer_at made h.0 failing h.1 h.2
