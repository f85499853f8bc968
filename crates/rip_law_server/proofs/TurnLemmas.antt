-- In a turn that breaks off the sessions that are still busy go on.
use Rattle.std.proofs.Common.{◌≡◌, ◌⊎◌, inl, inr, ℕ, ◌+◌, Bool, true, false, eqb, List, [], ◌∷◌, ◌++◌, length, map, Option, Some, None, refl, sym, ap, ◌∙◌, subst}
use Rattle.std.proofs.lemmas.Bool.{true≢false, false≢true, eq-eqb, or_left}
use Rattle.rip_data.specs.Datum.{Tree}
use Rattle.rip_history.specs.Parts.{Given, IsLawful, Lacking, has_ended, with_lack}
use Rattle.rip_history.specs.Requests.{identifiers_in}
use Rattle.rip_history.specs.Run.{Advance, AreAdvancedSo, IsAdvance, Site, State, after_advance, busy_in, called_so_far, is_busy_in, stage_of}
use Rattle.rip_history.specs.Runs.{IsAdvancedFirst}
use Rattle.rip_history.specs.Services.{Serving, replies_to}
use Rattle.rip_history.specs.Stages.{Stage, come}
use Rattle.rip_history.specs.Standings.{standing_of}
use Rattle.rip_law_history.proofs.AdvanceLemmas.{Midst, advance_fit, begin_midst, pending}
use Rattle.rip_law_history.proofs.FitLemmas.{AllFit, Fits, whole_of}
use Rattle.rip_law_history.proofs.WholeMadeLemmas.{RisesFrom, busy_rises}
use Rattle.rip_law_history.proofs.StandLemmas.{at}
use Rattle.rip_law_history.proofs.ViewLemmas.{seen}
use Rattle.rip_law_server.specs.Rising.{PartsRise}
use Rattle.rip_law_server.proofs.GoLemmas.{GoesSilent, goes_silent, no_servings}

-- ---- one session

no-lack : (lacking : Option Lacking) (b : Bool) → ((l : Lacking) → lacking ≡ Some l → b ≡ true) → b ≡ false → lacking ≡ None
no-lack None b h e = refl
no-lack (Some l) b h e = absurd (true≢false (sym (h l refl) ∙ e))

-- it goes on, and is told nothing
record GoesHere (site : Site) (moment : ℕ) (s : State) (n : ℕ) : Type 0 where
  pub advance : Advance
  pub session : advance.session ≡ n
  pub is : IsAdvance site moment s advance

goes-so : (site : Site) (moment : ℕ) (s : State) (n : ℕ) (st : Stage) → stage_of n s.stages ≡ Some st → GoesSilent site.meaning st
    → GoesHere site moment s n
goes-so site moment s n st e g = record {
  advance = record { session = n; parts = g.parts; given = []; next = g.next; progress = g.progress; gone = false };
  session = refl;
  is = record {
    stage = st;
    stands = e;
    goes_on = g.goes_on;
    replied = ap given (sym (no_servings g.parts g.silent));
    how_far = g.how_far;
  };
}
  where
    given : List Serving → List Given
    given ss =
        map (λ (reply : Tree). record { time = moment; reply = reply })
        (replies_to site.service (called_so_far s.history) (map (λ (c : Serving). (c.name, c.args)) ss))

goes-at : (site : Site) → IsLawful site.meaning → PartsRise site.meaning → (u moment : ℕ) (s : State) (n : ℕ) (o : Option Stage) → stage_of n s.stages ≡ o
    → Fits site.meaning u (seen n s.history) o → is_busy_in (standing_of n s.history) ≡ true → GoesHere site moment s n
goes-at site lawful rises u moment s n None e k busy = absurd (false≢true (sym (ap is_busy_in k.standing) ∙ busy))
goes-at site lawful rises u moment s n (Some st) e k busy = goes-so site moment s n st e (goes_silent site.meaning lawful rises st none lives)
  where
    alive : has_ended (at (whole_of site.meaning st) st.lacking st.units (length st.batches)) ≡ false
    alive = let x = k.stands in x.alive (sym (ap is_busy_in k.is) ∙ busy)

    none : st.lacking ≡ None
    none = no-lack st.lacking (has_ended (at (whole_of site.meaning st) st.lacking st.units (length st.batches))) (let x = k.stands in x.lack) alive

    lives : has_ended (come (length st.batches) st.units (whole_of site.meaning st)) ≡ false
    lives = subst (λ (o : Option Lacking). has_ended (come (length st.batches) st.units (with_lack o (whole_of site.meaning st))) ≡ false) none alive

-- ---- one after another

all-go : (site : Site) → IsLawful site.meaning → PartsRise site.meaning → (u moment low : ℕ) (s : State) (ns : List ℕ) → RisesFrom low ns
    → Midst site.meaning u s.history s.stages ns → (rest : List Advance) × AreAdvancedSo site (u + 1) moment s ns rest
all-go site lawful rises u moment low s [] r f = ([], refl)
all-go site lawful rises u moment low s (n ∷ ns) r f =
    let own : pending n (n ∷ ns) ≡ true = or_left (eqb n n) (pending n ns) (eq-eqb n n refl) in
    let w = f.waits n own in
    let g = goes-at site lawful rises u moment s n (stage_of n s.stages) refl w.0 w.1 in
    let a = g.advance in
    let later : RisesFrom a.session ns = subst (λ (k : ℕ). RisesFrom k ns) (sym g.session) r.1 in
    let rest = all-go site lawful rises u moment a.session (after_advance (u + 1) s a) ns later
    (advance_fit site u moment s a ns g.is later (subst (λ (k : ℕ). Midst site.meaning u s.history s.stages (k ∷ ns)) (sym g.session) f)) in
    (a ∷ rest.0, (g.session, g.is, rest.1))

-- behind those that went on
others-go : (site : Site) → IsLawful site.meaning → PartsRise site.meaning → (u moment low : ℕ) (s : State) (ns others : List ℕ) (rest : List Advance)
    → RisesFrom low (ns ++ others) → AreAdvancedSo site (u + 1) moment s ns rest → Midst site.meaning u s.history s.stages (ns ++ others)
    → (more : List Advance) × AreAdvancedSo site (u + 1) moment s (ns ++ others) (rest ++ more)
others-go site lawful rises u moment low s [] others rest r e f =
    let g = all-go site lawful rises u moment low s others r f in
    (g.0, subst (λ (xs : List Advance). AreAdvancedSo site (u + 1) moment s others (xs ++ g.0)) (sym e) g.1)
others-go site lawful rises u moment low s (n ∷ ns) others [] r e f = absurd e
others-go site lawful rises u moment low s (n ∷ ns) others (a ∷ rest) r (same, i, more) f =
    let later : RisesFrom a.session (ns ++ others) = subst (λ (k : ℕ). RisesFrom k (ns ++ others)) (sym same) r.1 in
    let g = others-go site lawful rises u moment a.session (after_advance (u + 1) s a) ns others rest later more
    (advance_fit site u moment s a (ns ++ others) i later (subst (λ (k : ℕ). Midst site.meaning u s.history s.stages (k ∷ (ns ++ others))) (sym same) f)) in
    (g.0, (same, i, g.1))

pub busy-go : (site : Site) → IsLawful site.meaning → PartsRise site.meaning → (u moment : ℕ) (s : State) (advances : List Advance)
    → AllFit site.meaning u s.history s.stages → (advances ≡ []) ⊎ IsAdvancedFirst site (u + 1) moment s advances
    → (more : List Advance) × AreAdvancedSo site (u + 1) moment s (busy_in s.history) (advances ++ more)
busy-go site lawful rises u moment s advances f (inl e) =
    others-go site lawful rises u moment 0 s [] (busy_in s.history) advances (busy_rises (length (identifiers_in s.history)) s.history) e
    (begin_midst site.meaning u s.history s.stages f)
busy-go site lawful rises u moment s advances f (inr a) =
    let g = others-go site lawful rises u moment 0 s a.first a.others advances
    (subst (λ (ns : List ℕ). RisesFrom 0 ns) a.busy (busy_rises (length (identifiers_in s.history)) s.history)) a.advanced
    (subst (λ (ns : List ℕ). Midst site.meaning u s.history s.stages ns) a.busy (begin_midst site.meaning u s.history s.stages f)) in
    (g.0, subst (λ (ns : List ℕ). AreAdvancedSo site (u + 1) moment s ns (advances ++ g.0)) (sym a.busy) g.1)
