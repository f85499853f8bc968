-- The requests of a turn are handled by connection.
use Rattle.std.proofs.Common.{◌≡◌, inl, inr, ℕ, ◌+◌, ◌<◌, ◌≤◌, Bool, true, false, cond, not, eqb, leb, List, [], ◌∷◌, ◌++◌, length, drop, Option, Some, None, refl, arith, ⊎_elim}
use Rattle.std.specs.List.{AllByRecursion, filter}
use Rattle.std.proofs.lemmas.Bool.{cases_lt, eqb-true}
use Rattle.rip_outer.specs.declared.connections.TraceKnock.{TraceKnock}
use Rattle.rip_outer.specs.declared.connections.TraceKnock.TheVariants.{Opened, Bytes, Gone, Quiet}
use Rattle.rip_history.specs.Answering.{decided_owed}
use Rattle.rip_history.specs.Connections.{Connection, Connections, after_answer, after_knock, changed, is_there, most_connections, overflows, owing, without}
use Rattle.rip_history.specs.Run.{Advance, AreHandledSo, Arrived, Coming, Handling, IsAtFront, IsFirst, IsQuiet, Site, State, after_advance, after_advances, after_arrived, after_handling, after_handlings, after_turn, answered_or_owed, answered_there, decided, first_state, handled_at, knocked_at, message, progress_there, refused, taken}
use Rattle.rip_history.specs.Runs.{after_turns}
use Rattle.rip_history.specs.declared.sessions.Progress.{Progress}
use Rattle.rip_history.specs.declared.sessions.Progress.TheVariants.{Busy, Finished}
use Rattle.rip_law_server.specs.Ordered.{AreByConnection, TurnsAreByConnection}
use Rattle.rip_law_server.proofs.Coming.{waits_not}

-- ---- the numbers of connections rise

abbrev Rise : ℕ → ℕ → List Connection → Type 0
Rise low high [] = Unit {0}
Rise low high (d ∷ cs) = (low ≤ d.number) × (d.number < high) × Rise (d.number + 1) high cs

lower : (low low' high high' : ℕ) (cs : List Connection) → low' ≤ low → high ≤ high' → Rise low high cs → Rise low' high' cs
lower low low' high high' [] l x r = tt
lower low low' high high' (d ∷ cs) l x (above, below, rest) =
    (omega (arith, l, above), omega (arith, x, below), lower (d.number + 1) (d.number + 1) high high' cs (omega arith) x rest)

kept : (low high : ℕ) (test : Connection → Bool) (cs : List Connection) → Rise low high cs → Rise low high (filter test cs)
kept low high test [] r = tt
kept low high test (d ∷ cs) (above, below, rest) = by (test d) (kept (d.number + 1) high test cs rest)
  where
    by : (b : Bool) → Rise (d.number + 1) high (filter test cs) → Rise low high (cond b (d ∷ filter test cs) (filter test cs))
    by true r = (above, below, r)
    by false r = lower (d.number + 1) low high high (filter test cs) (omega (arith, above)) (omega arith) r

altered : (low high c : ℕ) (f : Connection → Connection) → ((d : Connection) → (let x = f d in x.number) ≡ d.number) → (cs : List Connection) → Rise low high cs → Rise low high (changed c f cs)
altered low high c f same [] r = tt
altered low high c f same (d ∷ cs) (above, below, rest) = by (eqb d.number c) (altered (d.number + 1) high c f same cs rest)
  where
    by : (b : Bool) → Rise (d.number + 1) high (changed c f cs) → Rise low high (cond b (f d) d ∷ changed c f cs)
    by true r =
        let e = same d in
        (omega (arith, e, above), omega (arith, e, below), lower (d.number + 1) ((let x = f d in x.number) + 1) high high (changed c f cs) (omega (arith, e)) (omega arith) r)
    by false r = (above, below, r)

pushed : (low high : ℕ) (cs : List Connection) (d : Connection) → d.number ≡ high → low ≤ high → Rise low high cs → Rise low (high + 1) (cs ++ d ∷ [])
pushed low high [] d is le r = (omega (arith, is, le), omega (arith, is), tt)
pushed low high (e ∷ cs) d is le (above, below, rest) = (above, omega (arith, below), pushed (e.number + 1) high cs d is (omega (arith, below)) rest)

risen-knock : (knock : Option TraceKnock) (k : Connections) → Rise 0 k.opened k.there → (let x = after_knock knock k in Rise 0 x.opened x.there)
risen-knock None k r = r
risen-knock (Some Quiet) k r = r
risen-knock (Some (Gone d)) k r = kept 0 k.opened (λ (x : Connection). not (eqb x.number d)) k.there r
risen-knock (Some (Opened d)) k r = by (eqb d k.opened) refl (leb most_connections (length k.there))
  where
    by : (b : Bool) → eqb d k.opened ≡ b → (full : Bool)
        → (let x = cond (not b) k (cond full (record k { opened = k.opened + 1 }) (record { opened = k.opened + 1; there = k.there ++ record { number = d; unread = []; owed = None } ∷ [] })) in
        Rise 0 x.opened x.there)
    by false is full = r
    by true is true = lower 0 0 k.opened (k.opened + 1) k.there (omega arith) (omega arith) r
    by true is false = pushed 0 k.opened k.there (record { number = d; unread = []; owed = None }) (eqb-true d k.opened is) (omega arith) r
risen-knock (Some (Bytes d piece)) k r = by (is_there d k.there) (overflows d piece k)
  where
    by : (t u : Bool)
        → (let x = cond (not t) k (cond u (record k { there = without d k.there }) (record k { there = changed d (λ (x : Connection). record x { unread = x.unread ++ piece }) k.there })) in
        Rise 0 x.opened x.there)
    by false u = r
    by true true = kept 0 k.opened (λ (x : Connection). not (eqb x.number d)) k.there r
    by true false = altered 0 k.opened d (λ (x : Connection). record x { unread = x.unread ++ piece }) (λ x. refl) k.there r

risen-answer : (high c : ℕ) (gone close : Bool) (cs : List Connection) → Rise 0 high cs → Rise 0 high (after_answer gone close c cs)
risen-answer high c true close cs r = kept 0 high (λ (x : Connection). not (eqb x.number c)) cs r
risen-answer high c false true cs r = kept 0 high (λ (x : Connection). not (eqb x.number c)) cs r
risen-answer high c false false cs r = altered 0 high c (λ (x : Connection). record x { owed = None }) (λ x. refl) cs r

risen-decided : (high c : ℕ) (gone close : Bool) (o : Option ℕ) (cs : List Connection) → Rise 0 high cs → Rise 0 high (answered_or_owed c gone close o cs)
risen-decided high c gone close None cs r = risen-answer high c gone close cs r
risen-decided high c gone close (Some n) cs r = altered 0 high c (λ (x : Connection). record x { owed = Some (record { session = n; close = close }) }) (λ x. refl) cs r

risen-answered : (high : ℕ) (gone : Bool) (o : Option (ℕ × Bool)) (cs : List Connection) → Rise 0 high cs → Rise 0 high (answered_there gone o cs)
risen-answered high gone None cs r = r
risen-answered high gone (Some (c, close)) cs r = risen-answer high c gone close cs r

risen-progress : (high : ℕ) (gone : Bool) (n : ℕ) (p : Progress) (cs : List Connection) → Rise 0 high cs → Rise 0 high (progress_there gone n p cs)
risen-progress high gone n Busy cs r = r
risen-progress high gone n (Finished how) cs r = risen-answered high gone (owing n cs) cs r

abbrev Risen : State → Type 0
Risen s = (let k = s.connections in Rise 0 k.opened k.there)

risen-arrived : (site : Site) (turn moment c size : ℕ) (gone : Bool) (s : State) (a : Arrived) → Risen s → Risen (after_arrived site turn moment c size gone s a)
risen-arrived site turn moment c size gone s (refused head) r = (let k = s.connections in risen-answer k.opened c gone true k.there r)
risen-arrived site turn moment c size gone s (message m x) r =
    let k = s.connections in
    risen-decided k.opened c gone m.close (decided_owed (decided site.limit s.history x)) (taken c size k.there)
    (altered 0 k.opened c (λ (x : Connection). record x { unread = drop size x.unread }) (λ x. refl) k.there r)

risen-handled : (site : Site) (turn moment : ℕ) (s : State) (hs : List Handling) → Risen s → Risen (after_handlings site turn moment s hs)
risen-handled site turn moment s [] r = r
risen-handled site turn moment s (h ∷ hs) r =
    risen-handled site turn moment (after_handling site turn moment s h) hs (risen-arrived site turn moment h.connection h.size h.gone s h.arrived r)

risen-advanced : (turn : ℕ) (s : State) (rest : List Advance) → Risen s → Risen (after_advances turn s rest)
risen-advanced turn s [] r = r
risen-advanced turn s (a ∷ rest) r =
    let k = s.connections in risen-advanced turn (after_advance turn s a) rest (risen-progress k.opened a.gone a.session a.progress k.there r)

risen-turns : (site : Site) (turn : ℕ) (s : State) (ts : List Coming) → Risen s → Risen (after_turns site turn s ts)
risen-turns site turn s [] r = r
risen-turns site turn s (t ∷ ts) r =
    risen-turns site (turn + 1) (after_turn site turn t s) ts
    (risen-advanced turn (handled_at site turn t s) t.advances (risen-handled site turn t.moment (knocked_at t s) t.handlings (risen-knock t.knock s.connections r)))

-- ---- those below a number have nothing to handle

abbrev Calm : ℕ → Connection → Type 0
Calm low d = d.number < low → IsQuiet d

abbrev AllCalm : ℕ → List Connection → Type 0
AllCalm low cs = AllByRecursion (Calm low) cs

-- what is handled is of none of them
not-below : (low : ℕ) (d : Connection) (h : Handling) → IsAtFront d h → Calm low d → low ≤ h.connection
not-below low d h p calm = ⊎_elim (λ (lt : h.connection < low). absurd (by (calm (omega (arith, lt, p.connection))))) (λ (le : low ≤ h.connection). le) (cases_lt h.connection low)
  where
    by : IsQuiet d → ⊥
    by (inl owed) = owed p.free
    by (inr waits) = waits_not d.unread h.size h.arrived waits p.next

first-low : (low : ℕ) (cs : List Connection) (h : Handling) → IsFirst cs h → AllCalm low cs → low ≤ h.connection
first-low low [] h first calm = absurd first
first-low low (d ∷ cs) h (inl p) calm = not-below low d h p calm.0
first-low low (d ∷ cs) h (inr (quiet, first)) calm = first-low low cs h first calm.1

above-calm : (low c high : ℕ) (cs : List Connection) → c ≤ low → Rise low high cs → AllCalm c cs
above-calm low c high [] le r = tt
above-calm low c high (d ∷ cs) le (above, below, rest) = (λ lt. absurd (omega (arith, le, above, lt)), above-calm (d.number + 1) c high cs (omega (arith, le, above)) rest)

first-calm : (low high : ℕ) (cs : List Connection) (h : Handling) → IsFirst cs h → Rise low high cs → AllCalm h.connection cs
first-calm low high [] h first r = absurd first
first-calm low high (d ∷ cs) h (inl p) (above, below, rest) =
    (λ lt. absurd (omega (arith, lt, p.connection)), above-calm (d.number + 1) h.connection high cs (omega (arith, p.connection)) rest)
first-calm low high (d ∷ cs) h (inr (quiet, first)) (above, below, rest) = (λ lt. quiet, first-calm (d.number + 1) high cs h first rest)

calm-kept : (low : ℕ) (test : Connection → Bool) (cs : List Connection) → AllCalm low cs → AllCalm low (filter test cs)
calm-kept low test [] all = tt
calm-kept low test (d ∷ cs) all = by (test d) (calm-kept low test cs all.1)
  where
    by : (b : Bool) → AllCalm low (filter test cs) → AllCalm low (cond b (d ∷ filter test cs) (filter test cs))
    by true rest = (all.0, rest)
    by false rest = rest

-- one that is not below it changes
calm-changed : (c : ℕ) (f : Connection → Connection) → ((d : Connection) → (let x = f d in x.number) ≡ d.number) → (cs : List Connection) → AllCalm c cs → AllCalm c (changed c f cs)
calm-changed c f same [] all = tt
calm-changed c f same (d ∷ cs) all = (by (eqb d.number c) refl, calm-changed c f same cs all.1)
  where
    by : (b : Bool) → eqb d.number c ≡ b → Calm c (cond b (f d) d)
    by true own = λ lt. absurd (omega (arith, lt, same d, eqb-true d.number c own))
    by false other = all.0

calm-answer : (c : ℕ) (gone close : Bool) (cs : List Connection) → AllCalm c cs → AllCalm c (after_answer gone close c cs)
calm-answer c true close cs all = calm-kept c (λ (x : Connection). not (eqb x.number c)) cs all
calm-answer c false true cs all = calm-kept c (λ (x : Connection). not (eqb x.number c)) cs all
calm-answer c false false cs all = calm-changed c (λ (x : Connection). record x { owed = None }) (λ x. refl) cs all

calm-decided : (c : ℕ) (gone close : Bool) (o : Option ℕ) (cs : List Connection) → AllCalm c cs → AllCalm c (answered_or_owed c gone close o cs)
calm-decided c gone close None cs all = calm-answer c gone close cs all
calm-decided c gone close (Some n) cs all = calm-changed c (λ (x : Connection). record x { owed = Some (record { session = n; close = close }) }) (λ x. refl) cs all

calm-arrived : (site : Site) (turn moment c size : ℕ) (gone : Bool) (s : State) (a : Arrived) → AllCalm c (let k = s.connections in k.there)
    → AllCalm c (let x = after_arrived site turn moment c size gone s a in let k = x.connections in k.there)
calm-arrived site turn moment c size gone s (refused head) all = (let k = s.connections in calm-answer c gone true k.there all)
calm-arrived site turn moment c size gone s (message m x) all =
    let k = s.connections in
    calm-decided c gone m.close (decided_owed (decided site.limit s.history x)) (taken c size k.there)
    (calm-changed c (λ (x : Connection). record x { unread = drop size x.unread }) (λ x. refl) k.there all)

ordered : (site : Site) (turn moment low : ℕ) (s : State) (hs : List Handling) → AreHandledSo site turn moment s hs → Risen s → AllCalm low (let k = s.connections in k.there)
    → AreByConnection low hs
ordered site turn moment low s [] are r calm = tt
ordered site turn moment low s (h ∷ hs) (first, more) r calm =
    let k = s.connections in (
      first-low low k.there h first calm,
      ordered site turn moment h.connection (after_handling site turn moment s h) hs more (risen-arrived site turn moment h.connection h.size h.gone s h.arrived r)
          (calm-arrived site turn moment h.connection h.size h.gone s h.arrived (first-calm 0 k.opened k.there h first r)),
    )

none-below : (cs : List Connection) → AllCalm 0 cs
none-below [] = tt
none-below (d ∷ cs) = (λ lt. absurd (omega (arith, lt)), none-below cs)

pub turns_are_by_connection : TurnsAreByConnection
turns_are_by_connection site ts t turns is =
    let s = after_turns site 1 first_state ts in
    let x = knocked_at t s in
    let k = x.connections in
    ordered site (length ts + 1) t.moment 0 x t.handlings is.handled (risen-knock t.knock s.connections (risen-turns site 1 first_state ts tt)) (none-below k.there)
