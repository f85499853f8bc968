-- What a slice of a session comes to.
use Rattle.std.specs.Prelude.{◌≡◌, ◌⊎◌, ℕ, ◌+◌, ◌-◌, ◌<◌, ◌≤◌, Bool, List, [], ◌∷◌, ◌++◌, length, map, None, Some}
use Rattle.rip_heap.specs.World.{World}
use Rattle.rip_wire.specs.Answers.{served_of}
use Rattle.rip_wire.specs.Batches.{Contents}
use Rattle.rip_wire.specs.declared.ending.Ending.{Ending}
use Rattle.rip_wire.specs.declared.ending.Ending.TheVariants.{Memory}
use Rattle.rip_log.specs.Entries.{recorded_of}
use Rattle.rip_eval_rows.specs.declared.close.Close.{Close}
use Rattle.rip_eval_rows.specs.Evaluation.{Evaluation}
use Rattle.rip_history.specs.Parts.{Fact, finishes, Part, Given, served_count}
use Rattle.rip_history.specs.Parts as parts
use Rattle.rip_history.specs.Services.{Called, Service, called_in, given_by, served_entries, answered_calls}
use Rattle.rip_history.specs.declared.sessions.Made.{Made}
use Rattle.rip_history.specs.declared.sessions.Progress.{Progress}
use Rattle.rip_history.specs.declared.sessions.Progress.TheVariants.{Busy, Finished}
use Rattle.rip_history.specs.declared.sessions.Slice.{Slice}
use Rattle.rip_replica.specs.Parts.{Doing, part_of, stand_at}
use Rattle.rip_replica.specs.Rooms.{HeadsCall}
use Rattle.rip_replica.specs.Standing.{Ahead, AreGone, Behind, ClosedIn, CostsMore, IsCut, Keeps, Spot, Stands, StartsItem, next_number}

-- the served calls of these parts, each with what it was given, are told in entries and answers, and the service replies as
-- after them
pub record AreServed (service : Service) (calls : List Called) (slice : Slice) (old new : Made) (Replies : List Called → Type 0) (ps : List Part) (gs : List Given) : Type 0 where
  pub replied : gs ≡ given_by service calls slice.time ps
  pub replies : Replies (calls ++ called_in ps)
  pub entries : map recorded_of new.entries.items ≡ map recorded_of old.entries.items ++ served_entries slice.turn slice.session ps gs
  pub served : map served_of new.served.items ≡ map served_of old.served.items ++ answered_calls ps gs
  pub each : served_count ps ≡ length gs

-- these parts are behind the session, and what its calls were given; and these are left to come
pub record HasGone {S : Type 0} (batch number from base limit : ℕ) (old new : Ahead S) (new-base : ℕ) (ps : List Part) (gs : List Given) : Type 0 where
  pub goes : (bs : List Contents) (hs : List Given) → old.parts bs (gs ++ hs) ≡ ps ++ new.parts bs hs
  pub behind : (hs : List Given) (k : ℕ) → old.behind (gs ++ hs) k ≡ new.behind hs k
  pub gone : AreGone batch number from limit ps
  pub based : parts.spent batch ps base ≡ new-base

-- an item of these ends the session so: it was played whole, and closed in this world and with this page
pub record EndsSo {A S : Type 0} (d : Doing A S) (batch : ℕ) (all : List A) (from base limit : ℕ) (ahead : Ahead S) (ps : List Part) (gs : List Given) (how : Ending)
    (w : World) (s : S) : Type 0 where
  pub number : ℕ
  pub item : ℕ
  pub cost : ℕ
  pub within : cost ≤ limit
  pub above : from < cost
  pub new_base : ℕ
  pub gone : HasGone batch number from base limit ahead (record { parts = λ bs hs. part_of batch item cost (finishes (Some how)) ∷ []; behind = λ hs k. ahead.behind (gs ++ hs) k }) new_base ps gs
  pub close : Close
  pub told : how ≡ d.ending all close s
  pub closed : ClosedIn d batch all item new_base cost close (λ hs k. ahead.behind (gs ++ hs) k) w s

-- memory is wanting in the item of this number, after the first of its units; of a session that has its rooms that item
-- reports a call, and the world and the page are those before it
pub record LacksSo {S : Type 0} (Roomed : Type 0) (batch from base limit : ℕ) (ahead : Ahead S) (ps : List Part) (gs : List Given) (how : Ending)
    (w : World) (s : S) : Type 0 where
  pub number : ℕ
  pub is : how ≡ Memory number
  pub later : Ahead S
  pub new_base : ℕ
  pub taken : new_base < limit
  pub gone : HasGone batch number from base limit ahead later new_base ps gs
  pub starts : (bs : List Contents) (hs : List Given) → StartsItem batch number new_base (later.parts bs hs)
  pub call : Roomed → (bs : List Contents) (hs : List Given) → HeadsCall (later.parts bs hs)
  pub stays : Roomed → (hs : List Given) → ahead.behind (gs ++ hs) (number - 1) ≡ Some (stand_at new_base hs w s)
  pub more : (bs : List Contents) (hs : List Given) → CostsMore from (later.parts bs hs)

-- its batch is done
pub record DoneSo {M A S : Type 0} (e : Evaluation M S) (d : Doing A S) (may : S → Bool) (batch : ℕ) (next : Behind S) (at : Spot M A S) (from base limit : ℕ) (ahead : Ahead S)
    (ps : List Part) (gs : List Given) : Type 0 where
  pub number : ℕ
  pub item : ℕ
  pub cost : ℕ
  pub within : cost ≤ limit
  pub above : from < cost
  pub keeps : Keeps e d may batch at
  pub new_base : ℕ
  pub gone : HasGone batch number from base limit ahead (record { parts = λ bs hs. part_of batch item cost (finishes None) ∷ next bs hs at.world at.page; behind = λ hs k. ahead.behind (gs ++ hs) k }) new_base ps gs
  pub behind : (hs : List Given) → ahead.behind (gs ++ hs) (length at.all) ≡ Some (stand_at new_base hs at.world at.page)

-- it goes on, all units are spent, and it is cut there
pub record BusySo {M A S : Type 0} (e : Evaluation M S) (d : Doing A S) (may : S → Bool) (batch : ℕ) (next : Behind S) (at : Spot M A S) (from base limit : ℕ) (ahead : Ahead S)
    (ps : List Part) (gs : List Given) : Type 0 where
  pub later : Ahead S
  pub new_base : ℕ
  pub gone : HasGone batch (next_number at.place at.begun) from base limit ahead later new_base ps gs
  pub stands : Stands e d may batch next at limit new_base limit later
  pub cut : IsCut e d batch next at at.place new_base limit later

-- what a slice comes to, for a session that stood at `from` units of its batch and gets units up to a limit
abbrev pub Comes : {M A S : Type 0} → Type 0 → Evaluation M S → Doing A S → (S → Bool) → ℕ → Behind S → Spot M A S → ℕ → ℕ → ℕ → Ahead S → List Part → List Given → Progress → Type 0
Comes Roomed e d may batch next at from base limit ahead ps gs Busy = BusySo e d may batch next at from base limit ahead ps gs
Comes Roomed e d may batch next at from base limit ahead ps gs (Finished None) = DoneSo e d may batch next at from base limit ahead ps gs
Comes Roomed e d may batch next at from base limit ahead ps gs (Finished (Some how)) =
    EndsSo d batch at.all from base limit ahead ps gs how at.world at.page ⊎ LacksSo Roomed batch from base limit ahead ps gs how at.world at.page

-- what comes of a slice, with what its calls were given and the service replied
pub record Sliced {M A S : Type 0} (Roomed : Type 0) (e : Evaluation M S) (d : Doing A S) (may : S → Bool) (batch : ℕ) (next : Behind S) (at : Spot M A S) (from base limit : ℕ) (ahead : Ahead S)
    (service : Service) (calls : List Called) (slice : Slice) (old new : Made) (progress : Progress) (Replies : List Called → Type 0) : Type 0 where
  pub ps : List Part
  pub gs : List Given
  pub comes : Comes Roomed e d may batch next at from base limit ahead ps gs progress
  pub served : AreServed service calls slice old new Replies ps gs

-- these are what an item that is over and fine comes to, the page after a served call, and the ending of a closed item
pub record Agrees {A S : Type 0} (d : Doing A S) (fact : A → Fact) (serve : ℕ → Given → S → S) (ending : List A → Close → S → Ending) : Type 0 where
  pub facts : d.fact ≡ fact
  pub serving : d.serve ≡ serve
  pub endings : d.ending ≡ ending

-- a slice, wherever the session stood, whatever the service is and was called for before
abbrev pub SlicedSo : {M A S : Type 0} → Type 0 → Evaluation M S → (A → Fact) → (ℕ → Given → S → S) → (List A → Close → S → Ending) → (S → Bool) → ℕ → Spot M A S → Spot M A S → ℕ → Slice → Made → Made → Progress
    → (Service → List Called → Type 0) → (Service → List Called → Type 0) → Type 0
SlicedSo Roomed e fact serve ending may batch old new units slice old-made new-made progress Before Replies =
    (d : Doing _ _) (next : Behind _) (from base : ℕ) (ahead : Ahead _) (service : Service) (calls : List Called)
    → Agrees d fact serve ending → Stands e d may batch next old from base from ahead → Before service calls
    → Sliced Roomed e d may batch next new from base (from + units) ahead service calls slice old-made new-made progress (Replies service)
