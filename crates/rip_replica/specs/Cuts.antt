-- Where the last batch of a session is cut, and where a session stands that has ended.
use Rattle.std.specs.Prelude.{◌≡◌, ℕ, suc, ◌+◌, ◌-◌, List, [], ◌∷◌, ◌++◌, length, slice_get, Option, None, Some}
use Rattle.rip_heap.specs.World.{World}
use Rattle.rip_wire.specs.Batches.{Contents}
use Rattle.rip_eval_rows.specs.declared.close.Close.{Close}
use Rattle.rip_replica.specs.Play.{Holds, play}
use Rattle.rip_history.specs.Parts.{Given, Lacking, Part, finishes}
use Rattle.rip_replica.specs.Parts.{Doing, last_items, part_of, session_behind, session_parts, stand_at}
use Rattle.rip_replica.specs.Standing.{ClosedIn}

-- after so many units of its last batch a session stands in this world and with this page, and so much of the depth is open,
-- whatever is given from then on: before the first unit; behind items that are over, which cost these units; or in the next item,
-- played with the units that are left behind its first
pub data CutAfter {A S : Type 0} (d : Doing A S) (batches : List Contents) (given : List Given) (units depth : ℕ) (w : World) (s : S) : Type 0 where
  at_first : units ≡ 0 → depth ≡ 0 → ((gs : List Given) → session_behind d batches (given ++ gs) 0 ≡ Some (stand_at 1 gs w s)) → CutAfter d batches given units depth w s
  between : (k : ℕ) → depth ≡ 0 → ((gs : List Given) → session_behind d batches (given ++ gs) k ≡ Some (stand_at units gs w s)) → CutAfter d batches given units depth w s
  within : (k base fuel : ℕ) (item : A) (x : World) (r : S) → slice_get (last_items d batches) k ≡ Some item
      → ((gs : List Given) → session_behind d batches (given ++ gs) k ≡ Some (stand_at base gs x r)) → units ≡ base + 1 + fuel
      → ((changes : List (S → S)) → play d.run d.full (d.plan (length batches) item (suc k) x r) changes d.full fuel ≡ Holds depth w s) → CutAfter d batches given units depth w s

-- an item of its last batch ended the session: from where that stood behind the items before it the item was played whole, and
-- closed in this world and with this page; whatever is admitted and given from then on, that is the last part
pub record EndedBy {A S : Type 0} (d : Doing A S) (batches : List Contents) (given : List Given) (w : World) (s : S) : Type 0 where
  pub number : ℕ
  pub base : ℕ
  pub cost : ℕ
  pub close : Close
  pub earlier : List Part
  pub closed : ClosedIn d (length batches) (last_items d batches) number base cost close (λ gs k. session_behind d batches (given ++ gs) k) w s
  pub whole : (bs : List Contents) (gs : List Given) → session_parts d (batches ++ bs) (given ++ gs)
      ≡ earlier ++ part_of (length batches) number cost (finishes (Some (d.ending (last_items d batches) close s))) ∷ []

-- where a session stands that has ended: where the item left it that ended it; or, if memory was wanting, where it stood behind the
-- items before the one in which it was, which cost so many units
abbrev pub StandsEnded : {A S : Type 0} → Doing A S → List Contents → List Given → Option Lacking → World → S → Type 0
StandsEnded d batches given None w s = EndedBy d batches given w s
StandsEnded d batches given (Some lack) w s =
    (cost : ℕ) × ((gs : List Given) → session_behind d batches (given ++ gs) (lack.item - 1) ≡ Some (stand_at cost gs w s))

-- where a session stands whose last batch is done and did not end it: behind all items of that batch, which cost so many units
pub record StandsDone {A S : Type 0} (d : Doing A S) (batches : List Contents) (given : List Given) (w : World) (s : S) : Type 0 where
  pub cost : ℕ
  pub behind : (gs : List Given) → session_behind d batches (given ++ gs) (length (last_items d batches)) ≡ Some (stand_at cost gs w s)
