-- What has come of a session stays when a batch is admitted.
use Rattle.std.proofs.Common.{◌≡◌, ℕ, ◌+◌, ◌≤◌, List, [], ◌∷◌, ◌++◌, length, Option, sym, ap, ◌∙◌, subst, arith, append-nil, length-append}
use Rattle.std.specs.List.{AllByRecursion}
use Rattle.rip_wire.specs.Batches.{Contents}
use Rattle.rip_history.specs.Parts.{Part, Meaning, IsLawful, Lacking, with_lack}
use Rattle.rip_history.specs.Stages.{Stage, come, finishes_batch, parts_at, with_batch, MayAdmit, MeaningsKeep}
use Rattle.rip_history.proofs.ComeLemmas.{come_splits, HasCome, come_all, come_whole, done_leaves_none, none_come, all_right, come_bounds, come_earlier}

pub all_maps : {A : Type 0} (P Q : A → Type 0) → ((x : A) → P x → Q x) → (xs : List A) → AllByRecursion P xs → AllByRecursion Q xs
all_maps P Q f [] p = tt
all_maps P Q f (x ∷ xs) p = (f x p.0, all_maps P Q f xs p.1)

from_zero : (ps : List Part) → AllByRecursion (λ (p : Part). 0 ≤ p.batch) ps
from_zero [] = tt
from_zero (p ∷ ps) = (omega arith, from_zero ps)

-- parts of which each is of a batch up to the last, and others of the next that have no units yet
pub come_next : (last : ℕ) (ps more : List Part) → AllByRecursion (λ (p : Part). p.batch ≤ last) ps
    → AllByRecursion (λ (p : Part). 1 ≤ p.cost) more → AllByRecursion (λ (p : Part). p.batch ≡ last + 1) more
    → come (last + 1) 0 (ps ++ more) ≡ ps
come_next last ps more within dear own =
    come_whole (last + 1) 0 ps more (all_maps (λ (p : Part). p.batch ≤ last) (HasCome (last + 1) 0) (λ p le. come_earlier last 0 0 p le) ps within)
    ∙ ap (λ (t : List Part). ps ++ t)
    (none_come (last + 1) more dear (all_maps (λ (p : Part). p.batch ≡ last + 1) (λ (p : Part). last + 1 ≤ p.batch) (λ p e. omega (arith, e)) more own))
    ∙ append-nil ps

admits_keep : (m : Meaning) → IsLawful m → (st : Stage) (b : Contents) → MayAdmit m st b → parts_at m (with_batch b st) ≡ parts_at m st
admits_keep m lawful st b a =
    (λ i. come (length-append st.batches (b ∷ []) i) 0 (with_lack (a.sound i) whole))
    ∙ ap (come (last + 1) 0) added.1 ∙ come_next last before added.0 within dear added.2 ∙ sym (now ∙ sym all)
  where
    last : ℕ
    last = length st.batches

    before : List Part
    before = m st.seed st.time st.batches st.given

    whole : List Part
    whole = m st.seed st.time (st.batches ++ b ∷ []) st.given

    added : (more : List Part) × (whole ≡ before ++ more) × AllByRecursion (λ (p : Part). p.batch ≡ last + 1) more
    added = lawful.adds st.seed st.time st.batches b st.given

    now : parts_at m st ≡ come last st.units before
    now = ap (λ (o : Option Lacking). come last st.units (with_lack o before)) a.sound

    all : before ≡ come last st.units before
    all =
        come_splits last st.units before
        ∙ ap (λ (t : List Part). come last st.units before ++ t)
        (done_leaves_none last st.units before (lawful.last st.seed st.time st.batches st.given) (ap (finishes_batch last) (sym now) ∙ a.done))
        ∙ append-nil (come last st.units before)

    within : AllByRecursion (λ (p : Part). p.batch ≤ last) before
    within =
        subst (λ (ps : List Part). AllByRecursion (λ (p : Part). p.batch ≤ last) ps) (sym all)
        (all_maps (HasCome last st.units) (λ (p : Part). p.batch ≤ last) (come_bounds last st.units) (come last st.units before) (come_all last st.units before))

    dear : AllByRecursion (λ (p : Part). 1 ≤ p.cost) added.0
    dear =
        all_right (λ (p : Part). 1 ≤ p.cost) before added.0
        (subst (λ (ps : List Part). AllByRecursion (λ (p : Part). 1 ≤ p.cost) ps) added.1 (lawful.costs st.seed st.time (st.batches ++ b ∷ []) st.given))

pub meanings_keep : MeaningsKeep
meanings_keep m lawful = record {
  opens = λ seed time. none_come 0 (m seed time [] []) (lawful.costs seed time [] []) (from_zero (m seed time [] []));
  admits = admits_keep m lawful;
}
