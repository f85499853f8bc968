-- What the items of a batch come to over a page, as the page says it.
use Rattle.std.specs.Prelude.{◌≡◌, ℕ, ◌+◌, ◌≤◌, Bool, true, List, [], ◌∷◌, slice_get, Option, None, Some, Result, Ok, Err}
use Rattle.rip_base.specs.declared.report.Report.{Report}
use Rattle.rip_base.specs.declared.value.Value.{Value}
use Rattle.rip_base.specs.declared.value.Value.TheVariants.{Object}
use Rattle.rip_heap.specs.World.{World}
use Rattle.rip_eval_rows.specs.declared.close.Close.TheVariants.{Refused, Stopped}
use Rattle.rip_eval_rows.specs.declared.completion.Stop.{Stop}
use Rattle.rip_eval_rows.specs.declared.completion.Stop.TheVariants.{Limit as AtLimit}
use Rattle.rip_eval_rows.specs.Plan.{Plan, Over, Runs}
use Rattle.rip_eval_rows.specs.Started.{CallOf}
use Rattle.rip_replica.specs.declared.items.page_host.Callback.{Callback}
use Rattle.rip_replica.specs.declared.items.page_host.FlowCall.{FlowCall}
use Rattle.rip_replica.specs.declared.items.page_host.Position.{Position}
use Rattle.rip_replica.specs.declared.items.page_host.Position.TheVariants as position
use Rattle.rip_replica.specs.declared.items.page_host.ReplyRefused.{ReplyRefused}
use Rattle.rip_replica.specs.declared.items.page_host.ReplyRefused.TheVariants as reply
use Rattle.rip_replica.specs.declared.items.page_host.ReportRefused.{ReportRefused}
use Rattle.rip_replica.specs.declared.items.page_host.ReportRefused.TheVariants as report

-- what the delivery of a reply comes to, where S is the type of the page: it is not due; or its value has a fault or would pass
-- a limit while it is made, and then the world and the page are these; or the callback is to be called with this value
pub data Delivered (S : Type 0) : Type 0 where
  NotDue : Delivered S
  ReplyStops : Stop → World → S → Delivered S
  CallsBack : ℕ → Value → World → S → Delivered S

-- what items come to, where F is the type of flows and S that of the page: an event, for an item of a number, and then
-- this; what is left of a flow, and then this; the delivery of the reply to a call in a batch; and how a reported call of
-- a number and text stands to the calls that the script made
pub record Rules (F S : Type 0) : Type 0 where
  pub event : S → World → Report → ℕ → (World → S → Plan S) → Plan S
  pub flow : F → ℕ → (World → S → Plan S) → World → S → Plan S
  pub delivered : S → World → ℕ → ℕ → Delivered S
  pub position : S → ℕ → List ℕ → Position
  -- the texts of all calls that the script made; whether the one at a position has a callback; how many were served; how
  -- many replies to served calls with a callback are not delivered; and how many such there may be
  pub made : S → List (List ℕ)
  pub calls_back : S → ℕ → Bool
  pub taken : S → ℕ
  pub undelivered : S → ℕ
  pub most_undelivered : S → ℕ

-- of the calls that the script made, and of which so many were served, this text is the next
abbrev pub IsNextCall : List (List ℕ) → ℕ → List ℕ → Type 0
IsNextCall made taken text = slice_get made taken ≡ Some text

-- the call at this position has a callback, and as many replies are undelivered as may
abbrev pub HasNoRoom : (ℕ → Bool) → ℕ → ℕ → ℕ → Type 0
HasNoRoom calls_back taken undelivered most = (calls_back taken ≡ true) × (most ≤ undelivered)

-- a reported call of this number and text stands so: its number is not the next; or it is not the call at its position of
-- those that the script made; or it is, has a callback, and as many replies are undelivered as may; or it is, and is served
abbrev pub StandsSo : List (List ℕ) → (ℕ → Bool) → ℕ → ℕ → ℕ → ℕ → List ℕ → Position → Type 0
StandsSo made calls_back taken undelivered most number text position.NotNext = number ≡ taken + 1 → ⊥
StandsSo made calls_back taken undelivered most number text position.Other =
    (number ≡ taken + 1) × (IsNextCall made taken text → ⊥)
StandsSo made calls_back taken undelivered most number text position.TooMany =
    (number ≡ taken + 1) × IsNextCall made taken text × HasNoRoom calls_back taken undelivered most
StandsSo made calls_back taken undelivered most number text position.Served =
    (number ≡ taken + 1) × IsNextCall made taken text × (HasNoRoom calls_back taken undelivered most → ⊥)

-- each reported call stands as the page says
abbrev pub TellsPositions : {F S : Type 0} → Rules F S → S → Type 0
TellsPositions rules s = (number : ℕ) (text : List ℕ) →
    StandsSo (rules.made s) (rules.calls_back s) (rules.taken s) (rules.undelivered s) (rules.most_undelivered s) number text
    (rules.position s number text)

-- what is to be called next in a flow, and then what is left of it; or the flow is over, and what is done after it
abbrev pub flow_ahead : {S : Type 0} → ℕ → (World → S → Plan S) → (World → S → Plan S) → Option FlowCall → World → S → Plan S
flow_ahead item left done None w s = done w s
flow_ahead item left done (Some call) w s = Runs item (CallOf call.function (Object call.node) (Object call.event ∷ [])) w s left

-- an event of a page is answered and leaves this: a flow under way that is what is left of the event; or the event is not
-- legal and ends the session, or passes a limit and ends it. One that is not legal, and want of memory, leave all as it was
abbrev pub Reports : {F S : Type 0} → Rules F S → Report → World → S → Result (Unit {0}) ReportRefused → World → S → F → Type 0
Reports rules r w s (Ok done) w' s' f' = (item : ℕ) (next : World → _ → Plan _) → rules.event s w r item next ≡ rules.flow f' item next w' s'
Reports rules r w s (Err (report.Illegal kind)) w' s' f' =
    ((item : ℕ) (next : World → _ → Plan _) → rules.event s w r item next ≡ Over (Refused item kind) w s) × (w' ≡ w) × (s' ≡ s)
Reports rules r w s (Err (report.Limit limit)) w' s' f' =
    (item : ℕ) (next : World → _ → Plan _) → rules.event s w r item next ≡ Over (Stopped item (AtLimit limit)) w' s'
Reports rules r w s (Err report.Memory) w' s' f' = (w' ≡ w) × (s' ≡ s)

-- a reply is answered and leaves what its delivery comes to; one that is not due leaves all as it was
abbrev pub Delivers : {S : Type 0} → Delivered S → World → S → Result Callback ReplyRefused → World → S → Type 0
Delivers meant w s (Ok callback) w' s' = meant ≡ CallsBack callback.function callback.reply w' s'
Delivers meant w s (Err reply.NotDue) w' s' = (meant ≡ NotDue) × (w' ≡ w) × (s' ≡ s)
Delivers meant w s (Err (reply.Stopped stop)) w' s' = meant ≡ ReplyStops stop w' s'
