-- The pieces of a call, one after another.
use Rattle.std.proofs.Common.{◌≡◌, ℕ, ◌+◌, ◌≤◌, List, [], ◌++◌, subst, ap, sym, ◌∙◌, add-zero, append_assoc, arith, le_trans}
use Rattle.rip_heap.specs.World.{World}
use Rattle.rip_eval_rows.specs.Evaluation.{Evaluation}
use Rattle.rip_replica.specs.declared.scheduler.runner.Rested.{Rested}
use Rattle.rip_replica.specs.declared.scheduler.runner.Rested.TheVariants.{Busy, Awaits as Waits, Finished, Unplanned, Unrun}
use Rattle.rip_replica.specs.Laws.{StandsAt}
use Rattle.rip_replica.specs.Play.{Played}
use Rattle.rip_replica.specs.Going.{IsWithin, Going, IsCut, LeadsWith, Rests, rest}

-- two pieces, each with what the outside changed in it
pub leads_on : {M S : Type 0} (e : Evaluation M S) (cs ds : List (S → S)) (r a b : Going M S) (w x y : World) (s q t : S) (n u v : ℕ)
    → LeadsWith e cs r w s n a x q u → LeadsWith e ds a x q u b y t v → LeadsWith e (cs ++ ds) r w s n b y t v
leads_on e cs ds r a b w x y s q t n u v first second gs k =
    second gs k ∙ first (ds ++ gs) k ∙ ap (λ hs. rest e r w s hs (n + k)) (sym (append_assoc cs ds gs))

-- a cut after the second piece is one after both
cut_on : {M S : Type 0} (e : Evaluation M S) (cs ds : List (S → S)) (r a b : Going M S) (w x y : World) (s q t : S) (n u : ℕ)
    → LeadsWith e cs r w s n a x q u → IsCut e ds a x q u b y t → IsCut e (cs ++ ds) r w s n b y t
cut_on e cs ds r a b w x y s q t n u first second gs =
    ap (λ hs. rest e r w s hs n) (append_assoc cs ds gs)
    ∙ ap (λ m. rest e r w s (cs ++ (ds ++ gs)) m) (sym (add-zero n))
    ∙ sym (first (ds ++ gs) 0)
    ∙ ap (λ m. rest e a x q (ds ++ gs) m) (add-zero u)
    ∙ second gs

-- where the second piece ends a call, both do
pub rests_on : {M S : Type 0} (e : Evaluation M S) (cs ds : List (S → S)) (r a b : Going M S) (w x y : World) (s q t : S) (n u : ℕ) (rested : Rested)
    → LeadsWith e cs r w s n a x q u → Rests e ds a x q u b y t rested → Rests e (cs ++ ds) r w s n b y t rested
rests_on e cs ds r a b w x y s q t n u Busy first second =
    (cut_on e cs ds r a b w x y s q t n u first second.0, leads_on e cs ds r a b w x y s q t n u 0 first second.1)
rests_on e cs ds r a b w x y s q t n u (Waits v) first second = (second.0, leads_on e cs ds r a b w x y s q t n u v first second.1)
rests_on e cs ds r a b w x y s q t n u (Finished close v) first second = (second.0, leads_on e cs ds r a b w x y s q t n u v first second.1)
rests_on e cs ds r a b w x y s q t n u (Unplanned v) first second = (second.0, leads_on e cs ds r a b w x y s q t n u v first second.1)
rests_on e cs ds r a b w x y s q t n u (Unrun item) first second = tt

-- a runner that stands at a batch, later
pub stands_later : {M S : Type 0} (e : Evaluation M S) (batch : List (S → S) → ℕ → Played S) (changes new : List (S → S)) (r r' : Going M S) (w w' : World) (s s' : S) (j n : ℕ)
    → StandsAt e batch changes j r w s → LeadsWith e new r w s n r' w' s' 0 → StandsAt e batch (changes ++ new) (j + n) r' w' s'
stands_later e batch changes new r r' w w' s s' j n stands leads gs k =
    let none : k ≡ 0 + k = omega arith in
    let all : j + (n + k) ≡ j + n + k = omega arith in
    ap (λ u. rest e r' w' s' gs u) none
    ∙ leads gs k
    ∙ stands (new ++ gs) (n + k)
    ∙ ap (λ cs. batch cs (j + (n + k))) (sym (append_assoc changes new gs))
    ∙ ap (λ u. batch ((changes ++ new) ++ gs) u) all

-- units that are not spent
pub within_more : (u n : ℕ) (rested : Rested) → u ≤ n → IsWithin u rested → IsWithin n rested
within_more u n Busy le h = tt
within_more u n (Waits v) le h = le_trans h le
within_more u n (Finished close v) le h = le_trans h le
within_more u n (Unplanned v) le h = le_trans h le
within_more u n (Unrun item) le h = tt
