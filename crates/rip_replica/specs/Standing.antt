-- A session in the middle of a batch.
use Rattle.std.specs.Prelude.{◌≡◌, ℕ, suc, ◌+◌, ◌-◌, ◌<◌, ◌≤◌, List, [], ◌∷◌, ◌++◌, drop, length, slice_get, ◌*◌, Bool, true, false, Option, None, Some}
use Rattle.rip_heap.specs.World.{World}
use Rattle.rip_wire.specs.Batches.{Contents}
use Rattle.rip_eval_rows.specs.declared.close.Close.{Close}
use Rattle.rip_eval_rows.specs.declared.close.Close.TheVariants.{Fine, Refused, Mismatch, Stopped}
use Rattle.rip_eval_rows.specs.Evaluation.{Evaluation}
use Rattle.rip_eval_rows.specs.Plan.{Plan, Over}
use Rattle.rip_replica.specs.Going.{Going}
use Rattle.rip_replica.specs.Going as runner
use Rattle.rip_replica.specs.Laws.{StandsAt}
use Rattle.rip_replica.specs.Play.{Closes, Holds, Played, play}
use Rattle.rip_history.specs.Parts.{Fact, passes, serves, finishes, Part, Given, ends_batch}
use Rattle.rip_history.specs.Parts as parts
use Rattle.rip_replica.specs.declared.item.AtItem.{AtItem}
use Rattle.rip_replica.specs.declared.replica.Place.{Place}
use Rattle.rip_replica.specs.declared.replica.Place.TheVariants.{First, Between, Within, Idle}
use Rattle.rip_replica.specs.declared.replica.Replica.{Replica}
use Rattle.rip_replica.specs.declared.replica.Turn.{Turn}
use Rattle.rip_replica.specs.declared.replica.Turn.TheVariants.{On, Busy, Calls, Done, Ends, Lacks}
use Rattle.rip_replica.specs.Parts.{Doing, Stand, batch_parts, behind_item, is_fine, items_parts, part_of, stand_at}
use Rattle.rip_replica.specs.Plays.{CountsUnits, IsItemPlan, IsStill}
use Rattle.rip_replica.specs.Rooms.{HeadsCall, IsCallAt, IsMismatch}

-- what an item means that is under way; where there is none, nothing
abbrev pub plan_of : {A S : Type 0} → (A → ℕ → World → S → Plan S) → Option A → ℕ → World → S → Plan S
plan_of under_way None n w s = Over Fine w s
plan_of under_way (Some a) n w s = under_way a n w s

-- what is left of the item of a batch that was begun last
abbrev pub planned : {I A S : Type 0} → (I → A → ℕ → World → S → Plan S) → AtItem I A → World → S → Plan S
planned under_way p w s = plan_of (under_way p.items) (slice_get p.batch.items (p.begun - 1)) p.begun w s

-- where a session stands: the runner of its items, the plans of items, the batch with how many of its items were begun,
-- the place there, the world and the page
pub record Spot (M A S : Type 0) : Type 0 where
  pub going : Going M S
  pub item_plan : A → ℕ → World → S → Plan S
  pub all : List A
  pub begun : ℕ
  pub place : Place
  pub world : World
  pub page : S

abbrev pub spot : {M I A S : Type 0} → (I → A → ℕ → World → S → Plan S) → (I → A → ℕ → World → S → Plan S) → Replica M I A S → Spot M A S
spot item_plan under_way r = record {
  going = runner.going (planned under_way) r.runner;
  item_plan = item_plan r.runner.planner.items;
  all = r.runner.planner.batch.items;
  begun = r.runner.planner.begun;
  place = r.place;
  world = r.heap;
  page = r.host;
}

-- runs, fuel and plans are those of a session's doing, and count their units; a page of which `may` is true may serve a call, and a
-- call changes nothing before it is served
pub record Keeps {M A S : Type 0} (e : Evaluation M S) (d : Doing A S) (may : S → Bool) (batch : ℕ) (at : Spot M A S) : Type 0 where
  pub run : e.run at.going.evaluator ≡ d.run
  pub full : at.going.full ≡ d.full
  pub plan : at.item_plan ≡ d.plan batch
  pub counts : CountsUnits d.run
  pub shapes : (a : A) (n : ℕ) (w : World) (s : S) → IsItemPlan may (d.fact a) (d.plan batch a n w s)
  pub still : (a : A) (n : ℕ) (w : World) (s : S) → IsStill (d.fact a) w s (d.plan batch a n w s)

-- what comes of a batch, whatever is given from now on: the parts to come, whatever batches are admitted; and where the session
-- stands behind the first items of the batch
pub record Ahead (S : Type 0) : Type 0 where
  pub parts : List Contents → List Given → List Part
  pub behind : List Given → ℕ → Option (Stand S)

-- the parts that come behind a batch
abbrev pub Behind : Type 0 → Type 0
Behind S = List Contents → List Given → World → S → List Part

-- an item as it is played with these changes of the page and so many units
abbrev pub item_play : {A S : Type 0} → Doing A S → ℕ → A → ℕ → World → S → List (S → S) → ℕ → Played S
item_play d batch a n w s gs u = play d.run d.full (d.plan batch a n w s) gs d.full u

-- the session stands in an item, which began in this world and page and has needed so many units of fuel; `base` units were
-- spent before it
pub record IsWithin {M A S : Type 0} (e : Evaluation M S) (d : Doing A S) (batch : ℕ) (next : Behind S) (at : Spot M A S)
    (base spent : ℕ) (ahead : Ahead S) : Type 0 where
  pub item : A
  pub world : World
  pub page : S
  pub units : ℕ
  pub is : slice_get at.all (at.begun - 1) ≡ Some item
  pub one : 1 ≤ at.begun
  pub few : at.begun ≤ length at.all
  pub count : spent ≡ base + 1 + units
  pub stands : StandsAt e (item_play d batch item at.begun world page) [] units at.going at.world at.page
  pub parts : (bs : List Contents) (gs : List Given) → ahead.parts bs gs ≡ items_parts d batch at.all at.begun base (item ∷ drop at.begun at.all) gs world page (next bs)
  pub began : (gs : List Given) → ahead.behind gs (at.begun - 1) ≡ Some (stand_at base gs world page)

-- what is left of a batch by the place in it, where the items that are over cost so many units with the first, and so many
-- were spent: before its first unit, before the unit of the next item, within an item
abbrev pub Left : {M A S : Type 0} → Evaluation M S → Doing A S → ℕ → Behind S → Spot M A S → Place → ℕ → ℕ → Ahead S → Type 0
Left e d batch next at First base spent ahead =
    (spent ≡ 0) × (base ≡ 1) × (at.begun ≡ 0) × ((bs : List Contents) (gs : List Given) → ahead.parts bs gs ≡ batch_parts d batch at.all gs at.world at.page (next bs))
    × ((gs : List Given) → ahead.behind gs 0 ≡ Some (stand_at base gs at.world at.page))
Left e d batch next at Between base spent ahead =
    (spent ≡ base) × (1 ≤ base) × (at.begun ≤ length at.all)
    × ((bs : List Contents) (gs : List Given) → ahead.parts bs gs ≡ items_parts d batch at.all (at.begun + 1) base (drop at.begun at.all) gs at.world at.page (next bs))
    × ((gs : List Given) → ahead.behind gs at.begun ≡ Some (stand_at base gs at.world at.page))
Left e d batch next at Within base spent ahead = IsWithin e d batch next at base spent ahead
Left e d batch next at Idle base spent ahead = ⊥

-- a session that stands in an item is cut there: the item, played with exactly the units of fuel that were spent in it, holds
-- in this world and with this page, with so much of the depth open
pub record IsCutIn {M A S : Type 0} (e : Evaluation M S) (d : Doing A S) (batch : ℕ) (next : Behind S) (at : Spot M A S) (base spent : ℕ) (ahead : Ahead S) : Type 0 where
  pub item : A
  pub world : World
  pub page : S
  pub units : ℕ
  pub is : slice_get at.all (at.begun - 1) ≡ Some item
  pub one : 1 ≤ at.begun
  pub count : spent ≡ base + 1 + units
  pub parts : (bs : List Contents) (gs : List Given) → ahead.parts bs gs ≡ items_parts d batch at.all at.begun base (item ∷ drop at.begun at.all) gs world page (next bs)
  pub began : (gs : List Given) → ahead.behind gs (at.begun - 1) ≡ Some (stand_at base gs world page)
  pub held : (gs : List (S → S)) → item_play d batch item at.begun world page gs units ≡ Holds (runner.depth_in e at.going.evaluator at.going.phase) at.world at.page

abbrev pub IsCut : {M A S : Type 0} → Evaluation M S → Doing A S → ℕ → Behind S → Spot M A S → Place → ℕ → ℕ → Ahead S → Type 0
IsCut e d batch next at First base spent ahead = Unit {0}
IsCut e d batch next at Between base spent ahead = Unit {0}
IsCut e d batch next at Within base spent ahead = IsCutIn e d batch next at base spent ahead
IsCut e d batch next at Idle base spent ahead = Unit {0}

-- an item of these ends the session: from where that stood before it the item was played with all its fuel and closed so, not
-- fine, in this world and with this page, and with what it needed so many units of the batch are spent; `behind` tells where the
-- session stands behind the first items
pub record ClosedIn {A S : Type 0} (d : Doing A S) (batch : ℕ) (all : List A) (number base cost : ℕ) (close : Close)
    (behind : List Given → ℕ → Option (Stand S)) (w : World) (s : S) : Type 0 where
  pub item : A
  pub world : World
  pub page : S
  pub fuel : ℕ
  pub units : ℕ
  pub ends : is_fine close ≡ false
  pub is : slice_get all (number - 1) ≡ Some item
  pub one : 1 ≤ number
  pub began : (gs : List Given) → behind gs (number - 1) ≡ Some (stand_at base gs world page)
  pub count : cost ≡ base + 1 + (d.full - units)
  pub closes : (changes : List (S → S)) → item_play d batch item number world page changes d.full ≡ Closes close changes fuel units w s

-- the next part, if there is one, costs more than this
abbrev pub CostsMore : ℕ → List Part → Type 0
CostsMore from [] = Unit {0}
CostsMore from (p ∷ ps) = from < p.cost

-- where the session stands behind an item of these is by where it stands before it
abbrev pub ItemsFollow : {A S : Type 0} → Doing A S → ℕ → List A → Ahead S → Type 0
ItemsFollow d batch all ahead = (k : ℕ) (a : _) (gs : List Given) (before : Stand _)
    → slice_get all k ≡ Some a → ahead.behind gs k ≡ Some before → ahead.behind gs (suc k) ≡ behind_item d batch (suc k) a before

-- the session stands in a batch of this number, and behind the batch there is what is next
pub record Stands {M A S : Type 0} (e : Evaluation M S) (d : Doing A S) (may : S → Bool) (batch : ℕ) (next : Behind S) (at : Spot M A S)
    (from base spent : ℕ) (ahead : Ahead S) : Type 0 where
  pub keeps : Keeps e d may batch at
  pub left : Left e d batch next at at.place base spent ahead
  pub more : (bs : List Contents) (gs : List Given) → CostsMore from (ahead.parts bs gs)
  pub follows : ItemsFollow d batch at.all ahead

-- the number of the item that comes next, or is under way
abbrev pub next_number : Place → ℕ → ℕ
next_number First begun = begun + 1
next_number Between begun = begun + 1
next_number Within begun = begun
next_number Idle begun = begun + 1

-- these parts are of items below a number of the batch, which were handled and end nothing; they cost more than `from`,
-- and no more than was spent
abbrev pub AreGone : ℕ → ℕ → ℕ → ℕ → List Part → Type 0
AreGone batch number from spent [] = Unit {0}
AreGone batch number from spent (p ∷ ps) =
    (p.batch ≡ batch) × (p.item < number) × (ends_batch p.fact ≡ false) × (from < p.cost) × (p.cost ≤ spent) × AreGone batch number from spent ps

-- no call is served in these parts
abbrev pub ServeNone : List Part → Type 0
ServeNone [] = Unit {0}
ServeNone (p ∷ ps) = (p.fact ≡ passes) × ServeNone ps

-- the session goes on, with these parts behind it, and u units left of n
pub record Further {M A S : Type 0} (e : Evaluation M S) (d : Doing A S) (may : S → Bool) (batch : ℕ) (next : Behind S) (at : Spot M A S)
    (from base spent n u : ℕ) (ahead : Ahead S) : Type 0 where
  pub passed : List Part
  pub later : Ahead S
  pub new_base : ℕ
  pub units : ℕ
  pub comes : (bs : List Contents) (gs : List Given) → ahead.parts bs gs ≡ passed ++ later.parts bs gs
  pub same : (gs : List Given) (k : ℕ) → later.behind gs k ≡ ahead.behind gs k
  pub each : AreGone batch (next_number at.place at.begun) from units passed
  pub quiet : ServeNone passed
  pub based : parts.spent batch passed base ≡ new_base
  pub count : units + u ≡ spent + n
  pub stands : Stands e d may batch next at from new_base units later

-- the next part is of the item of this number, and costs more than what was spent before it
abbrev pub StartsItem : ℕ → ℕ → ℕ → List Part → Type 0
StartsItem batch n base [] = ⊥
StartsItem batch n base (p ∷ ps) = (p.batch ≡ batch) × (p.item ≡ n) × (base < p.cost)

-- a call waits to be served, where the session stood before it: for what it is given it is a part, and the next items go on
-- behind it
pub record Waits {M A S : Type 0} (e : Evaluation M S) (d : Doing A S) (may : S → Bool) (batch : ℕ) (next : Behind S) (at : Spot M A S)
    (from base spent n u : ℕ) (ahead : Ahead S) : Type 0 where
  pub item : A
  pub number : ℕ
  pub name : List ℕ
  pub args : List _
  pub keeps : Keeps e d may batch at
  pub is : slice_get at.all (at.begun - 1) ≡ Some item
  pub one : 1 ≤ at.begun
  pub few : at.begun ≤ length at.all
  pub fact : d.fact item ≡ serves number name args
  pub may_serve : may at.page ≡ true
  pub count : base + 1 + u ≡ spent + n
  pub from_base : from ≤ base
  pub stays : (gs : List Given) → ahead.behind gs (at.begun - 1) ≡ Some (stand_at base gs at.world at.page)
  pub goes : (bs : List Contents) (g : Given) (gs : List Given) → ahead.parts bs (g ∷ gs) ≡ part_of batch at.begun (base + 1) (serves number name args)
      ∷ items_parts d batch at.all (at.begun + 1) (base + 1) (drop at.begun at.all) gs at.world (d.serve batch g at.page) (next bs)
  pub behind : (g : Given) (gs : List Given) → ahead.behind (g ∷ gs) at.begun ≡ Some (stand_at (base + 1) gs at.world (d.serve batch g at.page))
  pub follows : ItemsFollow d batch at.all ahead
  pub starts : (bs : List Contents) (gs : List Given) → StartsItem batch at.begun base (ahead.parts bs gs)
  pub tells : (bs : List Contents) (gs : List Given) → HeadsCall (ahead.parts bs gs)

-- where a session stands behind an item that closed so, and what the turn comes to
abbrev pub place_behind : Close → Place
place_behind Fine = Between
place_behind (Refused item kind) = Idle
place_behind (Mismatch item) = Idle
place_behind (Stopped item stop) = Idle

abbrev pub turn_behind : Close → ℕ → Turn
turn_behind Fine u = On u
turn_behind (Refused item kind) u = Ends (Refused item kind)
turn_behind (Mismatch item) u = Ends (Mismatch item)
turn_behind (Stopped item stop) u = Ends (Stopped item stop)

-- what a turn comes to, where n units are there: the session goes on; or no unit is left and one is wanted; or a call
-- waits; or the batch is done; or it is closed by an item, which was played whole and ends the session, with a mismatch only
-- where it reports a call, and then where the session stood before it; or memory is wanting in an item
abbrev pub Turns : {M A S : Type 0} → Evaluation M S → Doing A S → (S → Bool) → ℕ → Behind S → Spot M A S → ℕ → ℕ → ℕ → ℕ → Ahead S → Turn → Type 0
Turns e d may batch next at from base spent n ahead (On u) = Further e d may batch next at from base spent n u ahead
Turns e d may batch next at from base spent n ahead Busy =
    Stands e d may batch next at (spent + n) base (spent + n) ahead × IsCut e d batch next at at.place base (spent + n) ahead
Turns e d may batch next at from base spent n ahead (Calls u) = Waits e d may batch next at from base spent n u ahead
Turns e d may batch next at from base spent n ahead Done =
    (number : ℕ) × (base ≤ spent + n) × Keeps e d may batch at × ((bs : List Contents) (gs : List Given) → ahead.parts bs gs ≡ part_of batch number base (finishes None) ∷ next bs gs at.world at.page)
    × ((gs : List Given) → ahead.behind gs (length at.all) ≡ Some (stand_at base gs at.world at.page))
Turns e d may batch next at from base spent n ahead (Ends close) =
    (cost : ℕ) × (cost ≤ spent + n) × (base < cost) × ((bs : List Contents) (gs : List Given) → ahead.parts bs gs ≡ part_of batch at.begun cost (finishes (Some (d.ending at.all close at.page))) ∷ [])
    × (IsMismatch close → IsCallAt d.fact at.all at.begun)
    × ClosedIn d batch at.all at.begun base cost close ahead.behind at.world at.page
    × (IsMismatch close → (gs : List Given) → ahead.behind gs (at.begun - 1) ≡ Some (stand_at base gs at.world at.page))
Turns e d may batch next at from base spent n ahead Lacks = (base < spent) × ((bs : List Contents) (gs : List Given) → StartsItem batch at.begun base (ahead.parts bs gs))

-- wherever it stood
abbrev pub TurnsSo : {M A S : Type 0} → Evaluation M S → Spot M A S → Spot M A S → ℕ → Turn → Type 0
TurnsSo e old new n turn = (d : Doing _ _) (may : _ → Bool) (batch : ℕ) (next : Behind _) (from base spent : ℕ) (ahead : Ahead _)
    → Stands e d may batch next old from base spent ahead → Turns e d may batch next new from base spent n ahead turn

-- a bound of the turns that are left in a batch of so many items
abbrev pub weight : Place → ℕ
weight First = 2
weight Between = 1
weight Within = 2
weight Idle = 0

abbrev pub turns_left : ℕ → Place → ℕ → ℕ
turns_left count place begun = 3 * (count - begun) + weight place

-- a turn after which the session goes on is one of those, and passes no item by; one in which a call waits, or an item ends
-- the session, or memory is wanting, stands within that item
abbrev pub IsOnward : ℕ → Place → ℕ → ℕ → Place → ℕ → Turn → Type 0
IsOnward count place begun new-count new-place new-begun (On u) =
    (turns_left new-count new-place new-begun < turns_left count place begun) × (next_number place begun ≤ next_number new-place new-begun)
IsOnward count place begun new-count new-place new-begun (Calls u) =
    (place ≡ Within) × (new-place ≡ Within) × (new-begun ≡ begun) × (new-count ≡ count)
IsOnward count place begun new-count new-place new-begun Lacks = (place ≡ Within) × (new-begun ≡ begun)
IsOnward count place begun new-count new-place new-begun Busy = (new-place ≡ place) × (new-begun ≡ begun)
IsOnward count place begun new-count new-place new-begun Done = Unit {0}
IsOnward count place begun new-count new-place new-begun (Ends close) = (place ≡ Within) × (new-begun ≡ begun)
