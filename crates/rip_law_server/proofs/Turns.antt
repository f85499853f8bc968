-- No run has more turns that are not the last than its knocks and its requests allow.
use Rattle.std.proofs.Common.{◌≡◌, ℕ, zero, suc, ◌+◌, ◌-◌, ◌*◌, ◌≤◌, ◌<◌, true, false, eqb, List, [], ◌∷◌, length, Option, Some, None, refl, sym, ap, ◌∙◌, subst, arith}
use Rattle.std.specs.Prelude.{slice_get}
use Rattle.std.specs.List.{AllByRecursion}
use Rattle.std.proofs.lemmas.Bool.{true≢false, eq-eqb, or_left}
use Rattle.std.proofs.lemmas.Option.{same_Some}
use Rattle.rip_outer.specs.declared.connections.TraceKnock.{TraceKnock}
use Rattle.rip_wire.specs.Batches.{IsBatch}
use Rattle.rip_log.specs.Entries.{Recorded}
use Rattle.rip_history.specs.Parts.{Meaning, IsLawful}
use Rattle.rip_history.specs.Requests.{identifiers_in}
use Rattle.rip_history.specs.Run.{Site, State, first_state, stage_of, is_busy_in, busy_in, Advance, AreAdvancedSo, Handling, Coming, knocked_at, handled_at, after_turn, after_handlings, after_advances, IsTurn}
use Rattle.rip_history.specs.Runs.{AreTurns, GoOn, IsOver}
use Rattle.rip_history.specs.Sessions.{turns_in}
use Rattle.rip_history.specs.Stages.{Stage}
use Rattle.rip_history.specs.Standings.{standing_of}
use Rattle.rip_history.specs.declared.standing.Standing.{Standing}
use Rattle.rip_law_history.proofs.AdvanceLemmas.{Midst, pending, begin_midst, advanced_fit}
use Rattle.rip_law_history.proofs.FitLemmas.{Fits, AllFit, handled_fit, none_some}
use Rattle.rip_law_history.proofs.WholeMadeLemmas.{busy_rises}
use Rattle.rip_law_history.proofs.WholeRunLemmas.{run_fits}
use Rattle.rip_law_history.proofs.ViewLemmas.{seen}
use Rattle.rip_law_server.specs.Ending.{BatchesCost, slices, knock_count, knocks_in, requests_in, RunsComeToEnd}
use Rattle.rip_law_server.proofs.Admitting.{AreTimed, timed_later, batches_range, turns_timed, handled_timed, turn_timed}
use Rattle.rip_law_server.proofs.Busy.{busy_is_short}

-- ---- a busy session

at-place : (P : ℕ → Type 0) (xs : List ℕ) (i a : ℕ) → AllByRecursion P xs → slice_get xs i ≡ Some a → P a
at-place P [] i a all e = absurd (none_some a e)
at-place P (x ∷ xs) zero a all e = subst P (same_Some x a e) all.0
at-place P (x ∷ xs) (suc i) a all e = at-place P xs i a all.1 e

no-busy : (o : Option Standing) → o ≡ None → is_busy_in o ≡ true → ⊥
no-busy o e busy = true≢false (sym busy ∙ ap is_busy_in e)

module _ (m : Meaning) (cost : ℕ) (costs : BatchesCost m cost) where
  -- in turn u + 1 a session is busy that was admitted so late that its batch gets units in a turn behind u
  waits-on : (u by n : ℕ) (h : List Recorded) (o : Option Stage) → AreTimed (slices cost) by h → Fits m u (seen n h) o → is_busy_in (standing_of n h) ≡ true
      → u + 1 < by
  waits-on u by n h None timed k busy = absurd (no-busy (standing_of n h) k.standing busy)
  waits-on u by n h (Some st) timed k busy =
      let range : AllByRecursion IsBatch st.batches = subst (AllByRecursion IsBatch) k.batches (batches_range (slices cost) by n h timed) in
      let short = busy_is_short m cost u (seen n h) st costs range k (sym (ap is_busy_in k.is) ∙ busy) in
      let soon : short.turn + slices cost ≤ by =
      at-place (λ (a : ℕ). a + slices cost ≤ by) (turns_in n h) (length st.batches) short.turn (turns_timed (slices cost) by n h timed) short.admitted in
      omega (arith, soon, short.from, short.few)

  some-waits : (u by : ℕ) (h : List Recorded) (stages : List Stage) (ns : List ℕ) → AreTimed (slices cost) by h → Midst m u h stages ns
      → (ns ≡ [] → ⊥) → u + 1 < by
  some-waits u by h stages [] timed f some = absurd (some refl)
  some-waits u by h stages (n ∷ ns) timed f some =
      let waits = f.waits n (or_left (eqb n n) (pending n ns) (eq-eqb n n refl)) in
      waits-on u by n h (stage_of n stages) timed waits.0 waits.1

-- ---- a turn

-- after turn u each session that was admitted is done in these turns at the latest
record Goes (site : Site) (most u left : ℕ) (s : State) : Type 0 where
  fit : AllFit site.meaning u s.history s.stages
  timed : AreTimed most (u + 1 + left) s.history
  few : left < most

abbrev left_behind : ℕ → ℕ → List Handling → ℕ
left_behind most left [] = left - 1
left_behind most left (h ∷ hs) = most - 1

turn-fits : (site : Site) → IsLawful site.meaning → (u : ℕ) (s : State) (t : Coming) → IsTurn site (u + 1) s t → AllFit site.meaning u s.history s.stages
    → (let x = after_turn site (u + 1) t s in AllFit site.meaning (u + 1) x.history x.stages)
turn-fits site lawful u s t is f =
    let x = handled_at site (u + 1) t s in
    advanced_fit site u t.moment 0 x (busy_in x.history) t.advances (busy_rises (length (identifiers_in x.history)) x.history) is.advanced
    (begin_midst site.meaning u x.history x.stages (handled_fit site lawful u t.moment (knocked_at t s) t.handlings f))

few-behind : (most left : ℕ) (hs : List Handling) → left < most → left_behind most left hs < most
few-behind most left [] lt = omega (arith, lt)
few-behind most left (h ∷ hs) lt = omega (arith, lt)

timed-behind : (site : Site) (most u left : ℕ) (s : State) (t : Coming) (hs : List Handling) → t.handlings ≡ hs → left < most → IsTurn site (u + 1) s t
    → AreTimed most (u + 1 + left) s.history
    → AreTimed most (u + 1 + 1 + left_behind most left hs) (let x = handled_at site (u + 1) t s in x.history)
timed-behind site most u left s t [] none lt is k =
    subst (λ (hs : List Handling). AreTimed most (u + 1 + 1 + (left - 1)) (let x = after_handlings site (u + 1) t.moment (knocked_at t s) hs in x.history)) (sym none)
    (timed_later most (u + 1 + left) (u + 1 + 1 + (left - 1)) s.history (omega arith) k)
timed-behind site most u left s t (h ∷ hs) some lt is k =
    handled_timed site most (u + 1 + 1 + (most - 1)) (u + 1) t.moment (knocked_at t s) t.handlings (omega (arith, lt)) is.handled
    (timed_later most (u + 1 + left) (u + 1 + 1 + (most - 1)) s.history (omega (arith, lt)) k)

goes-on : (site : Site) → IsLawful site.meaning → (most u left : ℕ) (s : State) (t : Coming) → IsTurn site (u + 1) s t → Goes site most u left s
    → Goes site most (u + 1) (left_behind most left t.handlings) (after_turn site (u + 1) t s)
goes-on site lawful most u left s t is g = record {
  fit = turn-fits site lawful u s t is g.fit;
  timed =
      turn_timed site most (u + 1 + 1 + left_behind most left t.handlings) (u + 1) s t is
      (timed-behind site most u left s t t.handlings refl g.few is g.timed);
  few = few-behind most left t.handlings g.few;
}

-- ---- a turn without a knock that is not the last

none-goes : (site : Site) (turn moment : ℕ) (s : State) (ns : List ℕ) (rest : List Advance) → AreAdvancedSo site turn moment s ns rest → ns ≡ [] → rest ≡ []
none-goes site turn moment s [] rest e none = e
none-goes site turn moment s (n ∷ ns) rest e none = absurd cc

-- a session is busy in it
one-is-busy : (site : Site) (turn : ℕ) (s : State) (t : Coming) → IsTurn site turn s t → t.knock ≡ None → ¬ IsOver t.knock (after_turn site turn t s)
    → busy_in (let x = handled_at site turn t s in x.history) ≡ [] → ⊥
one-is-busy site turn s t is none more idle =
    let x = handled_at site turn t s in
    let still : t.advances ≡ [] = none-goes site turn t.moment x (busy_in x.history) t.advances is.advanced idle in
    let same : after_turn site turn t s ≡ x = ap (after_advances turn x) still in
    more (subst (IsOver t.knock) (sym same) (record { closed = none; idle = idle; quiet = is.all }))

-- so where nothing was handled in it, there is a turn left
turn-left : (site : Site) (cost : ℕ) → IsLawful site.meaning → BatchesCost site.meaning cost → (u left : ℕ) (s : State) (t : Coming) → IsTurn site (u + 1) s t
    → t.knock ≡ None → ¬ IsOver t.knock (after_turn site (u + 1) t s) → t.handlings ≡ [] → Goes site (slices cost) u left s → 1 ≤ left
turn-left site cost lawful costs u left s t is none more still g =
    let x = handled_at site (u + 1) t s in
    let same : x ≡ knocked_at t s = ap (after_handlings site (u + 1) t.moment (knocked_at t s)) still in
    let timed : AreTimed (slices cost) (u + 1 + left) x.history = subst (λ (y : State). AreTimed (slices cost) (u + 1 + left) y.history) (sym same) g.timed in
    let fit : AllFit site.meaning u x.history x.stages = handled_fit site lawful u t.moment (knocked_at t s) t.handlings g.fit in
    let later : u + 1 < u + 1 + left =
    some-waits site.meaning cost costs u (u + 1 + left) x.history x.stages (busy_in x.history) timed (begin_midst site.meaning u x.history x.stages fit)
    (one-is-busy site (u + 1) s t is none more) in
    omega (arith, later)

-- ---- turns

-- what a turn adds to the count: with what is counted of those behind it
counts : (most left rest knocks requests : ℕ) (knock : Option TraceKnock) (hs : List Handling) → left < most
    → (knock ≡ None → hs ≡ [] → 1 ≤ left)
    → rest ≤ knocks + requests * most + left_behind most left hs
    → suc rest ≤ (knock_count knock + knocks) + (length hs + requests) * most + left
counts most left rest knocks requests None [] few one k = omega (arith, one refl refl, k)
counts most left rest knocks requests None (h ∷ hs) few one k =
    let more : (suc (length hs) + requests) * most ≡ most + length hs * most + requests * most = grind arith in
    omega (arith, k, few, more)
counts most left rest knocks requests (Some t) [] few one k = omega (arith, k)
counts most left rest knocks requests (Some t) (h ∷ hs) few one k =
    let more : (suc (length hs) + requests) * most ≡ most + length hs * most + requests * most = grind arith in
    omega (arith, k, few, more)

turns-count : (site : Site) (cost : ℕ) → IsLawful site.meaning → BatchesCost site.meaning cost → (u left : ℕ) (s : State) (ts : List Coming)
    → AreTurns site (u + 1) s ts → GoOn site (u + 1) s ts → Goes site (slices cost) u left s
    → length ts ≤ knocks_in ts + requests_in ts * slices cost + left
turns-count site cost lawful costs u left s [] are on g = omega arith
turns-count site cost lawful costs u left s (t ∷ ts) are on g =
    counts (slices cost) left (length ts) (knocks_in ts) (requests_in ts) t.knock t.handlings g.few
    (λ none still. turn-left site cost lawful costs u left s t are.0 none on.0 still g)
    (turns-count site cost lawful costs (u + 1) (left_behind (slices cost) left t.handlings) (after_turn site (u + 1) t s) ts are.1 on.1
    (goes-on site lawful (slices cost) u left s t are.0 g))

pub runs_come_to_end : RunsComeToEnd
runs_come_to_end site cost ts lawful costs are on =
    let begun : Goes site (slices cost) 0 0 first_state = record { fit = run_fits site [] lawful tt; timed = tt; few = omega arith } in
    let count : length ts ≤ knocks_in ts + requests_in ts * slices cost + 0 = turns-count site cost lawful costs 0 0 first_state ts are on begun in
    omega (arith, count)
