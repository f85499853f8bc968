-- A session that is busy got fewer units than a batch costs.
use Rattle.std.proofs.Common.{◌≡◌, inl, inr, ℕ, ◌+◌, ◌-◌, ◌*◌, ◌≤◌, ◌<◌, Bool, true, false, cond, not, ◌&&◌, eqb, ltb, leb, List, [], ◌∷◌, length, Option, Some, None, refl, sym, ap, ◌∙◌, subst, arith}
use Rattle.std.specs.Prelude.{slice_get}
use Rattle.std.specs.List.{AllByRecursion}
use Rattle.std.proofs.lemmas.Bool.{true≢false, leb-false, leb-true, le-leb, ltb-false, eq-eqb, or_left, or_right}
use Rattle.rip_wire.specs.Batches.{IsBatch}
use Rattle.rip_history.specs.Parts.{Part, Meaning, has_ended, Lacking, with_lack}
use Rattle.rip_history.specs.Stages.{Stage, has_come, come, finishes_batch}
use Rattle.rip_history.specs.Standings.{is_busy}
use Rattle.rip_history.proofs.ComeLemmas.{HasCome, Spends}
use Rattle.rip_law_history.proofs.FitLemmas.{whole_of, Has}
use Rattle.rip_law_history.proofs.StandLemmas.{at}
use Rattle.rip_law_history.proofs.ViewLemmas.{Seen}
use Rattle.rip_law_server.specs.Ending.{BatchesCost, ComesToEnd, IsPartWithin}

-- ---- all parts come

has-come : (last units cost : ℕ) (p : Part) → cost ≤ units → IsPartWithin last cost p → HasCome last units p
has-come last units cost p le k = by (ltb p.batch last) refl
  where
    by : (b : Bool) → ltb p.batch last ≡ b → has_come last units p ≡ true
    by true e = or_left (ltb p.batch last) (eqb p.batch last && leb p.cost units) e
    by false e =
        let same : p.batch ≡ last = omega (arith, ltb-false p.batch last e, k.batch) in
        or_right (ltb p.batch last) (eqb p.batch last && leb p.cost units)
        (ap (λ (t : Bool). t && leb p.cost units) (eq-eqb p.batch last same) ∙ le-leb p.cost units (omega (arith, le, k.cost)))

all-come : (last units cost : ℕ) (ps : List Part) → cost ≤ units → AllByRecursion (IsPartWithin last cost) ps → come last units ps ≡ ps
all-come last units cost [] le k = refl
all-come last units cost (p ∷ ps) le k =
    ap (λ (b : Bool). cond b (p ∷ come last units ps) []) (has-come last units cost p le k.0)
    ∙ ap (λ (t : List Part). p ∷ t) (all-come last units cost ps le k.1)

-- ---- a busy session

-- its last batch was admitted in some turn, and got fewer units than a batch costs
pub record IsShort (u cost last : ℕ) (turns : List ℕ) : Type 0 where
  pub turn : ℕ
  pub admitted : slice_get turns last ≡ Some turn
  pub from : turn ≤ u + 1
  pub few : 1000 * (u + 1 - turn) < cost

back : (b : Bool) → true ≡ not b → b ≡ false
back true e = absurd (true≢false e)
back false e = refl

not-both : (last : ℕ) (ps : List Part) → finishes_batch last ps ≡ false → has_ended ps ≡ false → ComesToEnd last ps → ⊥
not-both last ps done ended (inl e) = true≢false (sym e ∙ done)
not-both last ps done ended (inr e) = true≢false (sym e ∙ ended)

pub busy_is_short : (m : Meaning) (cost u : ℕ) (v : Seen) (st : Stage) → BatchesCost m cost → AllByRecursion IsBatch st.batches → (k : Has m u v st)
    → is_busy k.standing ≡ true → IsShort u cost (length st.batches) v.turns
busy_is_short m cost u v st costs range k busy = by st.lacking refl
  where
    last : ℕ
    last = length st.batches

    whole : List Part
    whole = whole_of m st

    spends : Spends u v.turns last st.units
    spends = (let x = k.stands in x.spends busy)

    living : has_ended (at whole st.lacking st.units last) ≡ false
    living = (let x = k.stands in x.alive busy)

    undone : finishes_batch last (at whole st.lacking st.units last) ≡ false
    undone = back (finishes_batch last (at whole st.lacking st.units last)) (sym busy ∙ (let x = k.stands in x.busy))

    dear : st.lacking ≡ None → cost ≤ st.units → ⊥
    dear none le =
        let are : at whole st.lacking st.units last ≡ whole =
        ap (λ (o : Option Lacking). come last st.units (with_lack o whole)) none
        ∙ all-come last st.units cost whole le (costs.within st.seed st.time st.batches st.given range) in
        not-both last whole (ap (finishes_batch last) (sym are) ∙ undone) (ap has_ended (sym are) ∙ living)
        (costs.ends st.seed st.time st.batches st.given range)

    short : st.units < cost → IsShort u cost last v.turns
    short lt = record {
      turn = spends.a;
      admitted = spends.admitted;
      from = spends.from;
      few = subst (λ (n : ℕ). n < cost) spends.spent lt;
    }

    by : (o : Option Lacking) → st.lacking ≡ o → IsShort u cost last v.turns
    by (Some l) some = absurd (true≢false (sym (let x = k.stands in x.lack l some) ∙ living))
    by None none = choose (leb cost st.units) refl
      where
        choose : (b : Bool) → leb cost st.units ≡ b → IsShort u cost last v.turns
        choose true e = absurd (dear none (leb-true cost st.units e))
        choose false e = short (leb-false cost st.units e)
