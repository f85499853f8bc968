-- Where a session stands behind the items of its batches.
use Rattle.std.proofs.Common.{◌≡◌, ℕ, suc, ◌+◌, List, [], ◌∷◌, ◌++◌, length, slice_get, Option, Some, refl, ap, sym, ◌∙◌, arith}
use Rattle.rip_heap.specs.World.{World}
use Rattle.rip_wire.specs.Batches.{Contents}
use Rattle.rip_history.specs.Parts.{Given}
use Rattle.rip_replica.specs.Parts.{Doing, Stand, behind_item, behind_items, behind_next, in_batch, in_last, items_last, last_items, session_behind, stand_at}

-- an item follows those before it
pub items_follow : {A S : Type 0} (d : Doing A S) (batch : ℕ) (all : List A) (gs : List Given) (w : World) (s : S) (k : ℕ) (a : A) (before : Stand S)
    → slice_get all k ≡ Some a → behind_items d batch all gs w s k ≡ Some before → behind_items d batch all gs w s (suc k) ≡ behind_item d batch (suc k) a before
items_follow d batch all gs w s k a before is behind =
    ap (λ o. behind_next d batch (suc k) o (behind_items d batch all gs w s k)) is ∙ ap (λ o. behind_next d batch (suc k) (Some a) o) behind

-- one more batch
items_more : {A S : Type 0} (d : Doing A S) (all : List A) (bs : List Contents) (b : Contents) → items_last d all (bs ++ b ∷ []) ≡ d.items b
items_more d all [] b = refl
items_more d all (x ∷ bs) b = items_more d (d.items x) bs b

pub last_more : {A S : Type 0} (d : Doing A S) (bs : List Contents) (b : Contents) → last_items d (bs ++ b ∷ []) ≡ d.items b
last_more d bs b = items_more d (d.opening ∷ []) bs b

in_more : {A S : Type 0} (d : Doing A S) (batch number : ℕ) (all : List A) (bs : List Contents) (b : Contents) (k : ℕ) (o : Option (Stand S)) → number ≡ batch + length bs + 1
    → in_last d batch all (bs ++ b ∷ []) k o ≡ in_batch d number (d.items b) k (in_last d batch all bs (length (items_last d all bs)) o)
in_more d batch number all [] b k o is =
    let same : batch + 1 ≡ number = omega (arith, is) in
    ap (λ n. in_batch d n (d.items b) k (in_batch d batch all (length all) o)) same
in_more d batch number all (x ∷ bs) b k o is = in_more d (batch + 1) number (d.items x) bs b k (in_batch d batch all (length all) o) (omega (arith, is))

-- where a session stands in one more batch, from where it stands behind those before
pub behind_more : {A S : Type 0} (d : Doing A S) (number cost : ℕ) (bs : List Contents) (b : Contents) (given gs : List Given) (w : World) (s : S) (k : ℕ) → number ≡ length bs + 1
    → session_behind d bs given (length (last_items d bs)) ≡ Some (stand_at cost gs w s) → session_behind d (bs ++ b ∷ []) given k ≡ behind_items d number (d.items b) gs w s k
behind_more d number cost bs b given gs w s k counted is =
    in_more d 0 number (d.opening ∷ []) bs b k (Some (stand_at 1 given d.world d.page)) (omega (arith, counted)) ∙ ap (λ o. in_batch d number (d.items b) k o) is
