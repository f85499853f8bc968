-- What a session does, item by item: each item is played whole, from the world and the page that those before it left.
use Rattle.std.specs.Prelude.{ℕ, zero, suc, ◌+◌, ◌-◌, Bool, true, false, List, [], ◌∷◌, drop, length, slice_get, Option, Some, None, if◌then◌else◌}
use Rattle.rip_heap.specs.World.{World}
use Rattle.rip_data.specs.Datum as datum
use Rattle.rip_wire.specs.Batches.{Contents}
use Rattle.rip_wire.specs.declared.ending.Ending.{Ending}
use Rattle.rip_eval_rows.specs.declared.close.Close.{Close}
use Rattle.rip_eval_rows.specs.declared.close.Close.TheVariants.{Fine, Refused, Mismatch, Stopped}
use Rattle.rip_eval_rows.specs.Evaluation.{Reached}
use Rattle.rip_eval_rows.specs.Plan.{Plan}
use Rattle.rip_eval_rows.specs.Started.{Started}
use Rattle.rip_replica.specs.Play.{Played, Closes, Holds, play}
use Rattle.rip_history.specs.Parts.{Fact, passes, serves, finishes, Part, Given, Meaning}

-- what is done in a session as it was opened, where A is the type of items and S that of the page: what runs mean; the
-- fuel of an item; the world and the page as it was opened; the item of its opening, and those of a batch; the plan of an
-- item of a number in a batch of a number; what an item that is over and fine comes to; the page after a call of that batch
-- was served and given this; and the ending where an item of these closed so and left this page
pub record Doing (A S : Type 0) : Type 0 where
  pub run : Started → World → S → ℕ → ℕ → Reached S
  pub full : ℕ
  pub world : World
  pub page : S
  pub opening : A
  pub items : Contents → List A
  pub plan : ℕ → A → ℕ → World → S → Plan S
  pub fact : A → Fact
  pub serve : ℕ → Given → S → S
  pub ending : List A → Close → S → Ending

-- what the next served call is given; past the end the moment 0 and null
abbrev pub first_given : List Given → Given
first_given [] = record { time = 0; reply = datum.null }
first_given (g ∷ gs) = g

-- what is given behind an item that came to this
abbrev pub given_behind : Fact → List Given → List Given
given_behind passes gs = gs
given_behind (serves number name args) gs = drop 1 gs
given_behind (finishes how) gs = gs

abbrev pub is_fine : Close → Bool
is_fine Fine = true
is_fine (Refused item kind) = false
is_fine (Mismatch item) = false
is_fine (Stopped item stop) = false

abbrev pub part_of : ℕ → ℕ → ℕ → Fact → Part
part_of batch n cost fact = record { batch = batch; item = n; cost = cost; fact = fact }

-- an item with all its fuel, where a call is given this if it is served
abbrev pub whole_item : {A S : Type 0} → Doing A S → ℕ → A → ℕ → World → S → Given → Played S
whole_item d batch a n w s g = play d.run d.full (d.plan batch a n w s) (d.serve batch g ∷ []) d.full d.full

-- what there is of an item of these that is played whole, where so many units were spent before it, and then what is done
-- with the units that were spent, the world and the page. It costs a unit, and each of its fuel that it needed; one that
-- ends the session is the last. An item that is held is none
abbrev pub after_item : {A S : Type 0} → Doing A S → ℕ → List A → ℕ → ℕ → A → Played S → (ℕ → World → S → List Part) → List Part
after_item d batch all n cost a (Closes close gs fuel u w s) go =
    if is_fine close then part_of batch n (cost + 1 + (d.full - u)) (d.fact a) ∷ go (cost + 1 + (d.full - u)) w s
    else part_of batch n (cost + 1 + (d.full - u)) (finishes (Some (d.ending all close s))) ∷ []
after_item d batch all n cost a (Holds open_depth w s) go = []

-- the parts of a batch from the item of this number on, and then those behind the batch
abbrev pub items_parts : {A S : Type 0} → Doing A S → ℕ → List A → ℕ → ℕ → List A → List Given → World → S → (List Given → World → S → List Part) → List Part
items_parts d batch all n cost [] gs w s next = part_of batch n cost (finishes None) ∷ next gs w s
items_parts d batch all n cost (a ∷ items) gs w s next =
    after_item d batch all n cost a (whole_item d batch a n w s (first_given gs)) (λ spent x r. items_parts d batch all (n + 1) spent items (given_behind (d.fact a) gs) x r next)

-- a batch: its first unit is that of no item
abbrev pub batch_parts : {A S : Type 0} → Doing A S → ℕ → List A → List Given → World → S → (List Given → World → S → List Part) → List Part
batch_parts d batch all gs w s next = items_parts d batch all 1 1 all gs w s next

-- batches from this number on
abbrev pub later_parts : {A S : Type 0} → Doing A S → ℕ → List Contents → List Given → World → S → List Part
later_parts d batch [] gs w s = []
later_parts d batch (b ∷ bs) gs w s = batch_parts d batch (d.items b) gs w s (λ hs x r. later_parts d (batch + 1) bs hs x r)

-- where a session stands behind items of a batch that are over: the units of the batch that were spent, what is given from
-- there on, the world and the page
pub record Stand (S : Type 0) : Type 0 where
  pub cost : ℕ
  pub given : List Given
  pub world : World
  pub page : S

abbrev pub stand_at : {S : Type 0} → ℕ → List Given → World → S → Stand S
stand_at cost gs w s = record { cost = cost; given = gs; world = w; page = s }

-- where it stands behind an item that was played whole, if that is over and fine
abbrev pub behind_played : {A S : Type 0} → Doing A S → ℕ → A → List Given → Played S → Option (Stand S)
behind_played d cost a gs (Closes close hs fuel u w s) =
    if is_fine close then Some (stand_at (cost + 1 + (d.full - u)) (given_behind (d.fact a) gs) w s) else None
behind_played d cost a gs (Holds open_depth w s) = None

-- where it stands behind the item of this number, from where it stood before it
abbrev pub behind_item : {A S : Type 0} → Doing A S → ℕ → ℕ → A → Stand S → Option (Stand S)
behind_item d batch n a l = behind_played d l.cost a l.given (whole_item d batch a n l.world l.page (first_given l.given))

abbrev pub behind_next : {A S : Type 0} → Doing A S → ℕ → ℕ → Option A → Option (Stand S) → Option (Stand S)
behind_next d batch n None o = None
behind_next d batch n (Some a) None = None
behind_next d batch n (Some a) (Some l) = behind_item d batch n a l

-- where it stands behind the first k items of a batch, which began with this given, world and page; the first unit is that of
-- no item
abbrev pub behind_items : {A S : Type 0} → Doing A S → ℕ → List A → List Given → World → S → ℕ → Option (Stand S)
behind_items d batch all gs w s zero = Some (stand_at 1 gs w s)
behind_items d batch all gs w s (suc k) = behind_next d batch (suc k) (slice_get all k) (behind_items d batch all gs w s k)

-- the same of the last of some batches, behind all items of those before it
abbrev pub in_batch : {A S : Type 0} → Doing A S → ℕ → List A → ℕ → Option (Stand S) → Option (Stand S)
in_batch d batch all k None = None
in_batch d batch all k (Some l) = behind_items d batch all l.given l.world l.page k

abbrev pub in_last : {A S : Type 0} → Doing A S → ℕ → List A → List Contents → ℕ → Option (Stand S) → Option (Stand S)
in_last d batch all [] k o = in_batch d batch all k o
in_last d batch all (b ∷ bs) k o = in_last d (batch + 1) (d.items b) bs k (in_batch d batch all (length all) o)

-- the items of the last of these batches, behind these
abbrev pub items_last : {A S : Type 0} → Doing A S → List A → List Contents → List A
items_last d all [] = all
items_last d all (b ∷ bs) = items_last d (d.items b) bs

-- the items of the last batch of a session
abbrev pub last_items : {A S : Type 0} → Doing A S → List Contents → List A
last_items d batches = items_last d (d.opening ∷ []) batches

-- where a session stands behind the first k items of its last batch
abbrev pub session_behind : {A S : Type 0} → Doing A S → List Contents → List Given → ℕ → Option (Stand S)
session_behind d batches gs k = in_last d 0 (d.opening ∷ []) batches k (Some (stand_at 1 gs d.world d.page))

-- a session: its opening is batch 0, with one item
abbrev pub session_parts : {A S : Type 0} → Doing A S → List Contents → List Given → List Part
session_parts d batches gs = batch_parts d 0 (d.opening ∷ []) gs d.world d.page (λ hs x r. later_parts d 1 batches hs x r)

-- what sessions do, each of which does this from its seed and time on
abbrev pub meaning_of : {A S : Type 0} → (ℕ → ℕ → Doing A S) → Meaning
meaning_of doing seed time batches gs = session_parts (doing seed time) batches gs
