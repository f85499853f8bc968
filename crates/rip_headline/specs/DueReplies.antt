-- The replies that an honest client tells are due.
use Rattle.std.specs.Prelude.{◌≡◌, ℕ, ◌+◌, ◌<◌, List, [], ◌∷◌, ◌++◌, Option, Some, if◌then◌else◌}
use Rattle.rip_heap.specs.World.{World}
use Rattle.rip_eval_rows.specs.declared.close.Close.{Close}
use Rattle.rip_eval_rows.specs.declared.close.Close.TheVariants.{Fine}
use Rattle.rip_replica.specs.Play.{Closes}
use Rattle.rip_base.specs.declared.report.EventKind.{EventKind}
use Rattle.rip_wire.specs.Batches.{Contents}
use Rattle.rip_wire.specs.Items.{Reported, event, reply}
use Rattle.rip_wire.specs.declared.gesture.Gesture.{Gesture}
use Rattle.rip_history.specs.Parts.{Given}
use Rattle.rip_replica.specs.Parts.{Doing, whole_item}
use Rattle.rip_client.specs.Truth.{IsReportOf, Waiting}
use Rattle.rip_law_replica.specs.Truthful.{IsDueReport, IsFineOrStopped, IsReport}

-- ---- the replies that wait on a page

-- a reply that waits: the number of its call, and of the batch in which that was served
pub record Kept : Type 0 where
  pub number : ℕ
  pub batch : ℕ

-- behind a call that was served in a batch: its reply waits, if it has a callback
abbrev pub kept_behind : Waiting → ℕ → List Kept → List Kept
kept_behind c batch rs = if c.calls_back then rs ++ record { number = c.number; batch = batch } ∷ [] else rs

-- a page keeps the replies to its served calls in order until they are delivered: none waits once it is opened; an event
-- changes nothing of them; behind the call that is read off it as the next and served its reply waits; and the first that
-- waits is due in each later batch, and then is kept no more
pub record KeepsReplies {A S : Type 0} (d : Doing A S) (task : Reported → A) (next : S → Option Waiting) (kept : S → List Kept) : Type 0 where
  pub opening : (g : Given) (more : List (S → S)) (fuel left : ℕ) (x : World) (r : S)
      → whole_item d 0 d.opening 1 d.world d.page g ≡ Closes Fine more fuel left x r → kept r ≡ []
  pub events : (batch n : ℕ) (w : World) (s : S) (g : Given) (kind : EventKind) (node : ℕ) (text : Option (List ℕ)) (place : Option ℕ)
      (close : Close) (more : List (S → S)) (fuel left : ℕ) (x : World) (r : S)
      → whole_item d batch (task (event kind node text place)) n w s g ≡ Closes close more fuel left x r → kept r ≡ kept s
  pub calls : (batch n : ℕ) (w : World) (s : S) (g : Given) (c : Waiting) (item : Reported) (more : List (S → S)) (fuel left : ℕ) (x : World) (r : S)
      → next s ≡ Some c → IsReportOf c item → whole_item d batch (task item) n w s g ≡ Closes Fine more fuel left x r
      → kept r ≡ kept_behind c batch (kept s)
  pub replies : (batch n : ℕ) (w : World) (s : S) (g : Given) (first : Kept) (others : List Kept)
      (close : Close) (more : List (S → S)) (fuel left : ℕ) (x : World) (r : S)
      → kept s ≡ first ∷ others → first.batch < batch → whole_item d batch (task (reply first.number)) n w s g ≡ Closes close more fuel left x r
      → IsFineOrStopped close × (kept r ≡ others)

-- ---- the law

-- each reply that an honest client of such pages tells is due where it is told
abbrev pub RepliesAreDue : Type 0 → Type 0 → Type 0
RepliesAreDue A S =
    (d : Doing A S) (task : Reported → A) (next : S → Option Waiting) (kept : S → List Kept) → KeepsReplies d task next kept
    → (gestures : List Gesture) (given : List Given) (batches : List Contents)
    → IsReport d task next gestures given batches → IsDueReport d task next gestures given batches
