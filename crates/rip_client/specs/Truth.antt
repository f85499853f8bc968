-- What a truthful client tells of a user's gestures.
use Rattle.std.specs.Prelude.{◌≡◌, ◌≢◌, ℕ, ◌+◌, ◌≤◌, Bool, List, [], ◌∷◌, ◌++◌, length, map, Option, Some, None, Result, Ok, Err, if◌then◌else◌}
use Rattle.rip_data.specs.Datum.{Tree}
use Rattle.rip_eval_rows.specs.declared.close.Close.{Close}
use Rattle.rip_eval_rows.specs.declared.close.Close.TheVariants.{Fine, Refused, Mismatch, Stopped}
use Rattle.rip_wire.specs.Batches.{Contents, batch_text, contents_of}
use Rattle.rip_wire.specs.Calls.{call_text}
use Rattle.rip_wire.specs.Items.{Reported, event, call, reply, reported_of, AreArgs}
use Rattle.rip_wire.specs.Names.{IsName}
use Rattle.rip_wire.specs.declared.gesture.Gesture.{Gesture}
use Rattle.rip_wire.specs.declared.gesture.Gesture.TheVariants.{Event, Flush}
use Rattle.rip_client.specs.declared.actor.Over.{Over}
use Rattle.rip_client.specs.declared.actor.WaitingCall.{WaitingCall}

-- a call that waits to be reported: its number, its canonical text, and whether it has a callback
pub record Waiting : Type 0 where
  pub number : ℕ
  pub text : List ℕ
  pub calls_back : Bool

abbrev pub waiting_of : WaitingCall → Waiting
waiting_of c = record { number = c.number; text = c.text; calls_back = c.calls_back }

abbrev pub IsNext : Option Waiting → Option WaitingCall → Type 0
IsNext next None = next ≡ None
IsNext next (Some c) = next ≡ Some (waiting_of c)

-- how a session goes, where A is its type and G that of what gives replies: it turns to a batch of a number; an item that is
-- next in the batch is played and comes out so; and which call is to be reported next
pub record Playing (A G : Type 0) : Type 1 where
  pub turns : ℕ → A → A → Type 0
  pub plays : Reported → A → G → Over → A → G → Type 0
  pub next : A → Option Waiting

-- where a client stands in a list: its session and what gives replies; the batches that are closed; the number and the items
-- of the open one; and the numbers of the calls whose replies wait to be delivered in a later list
pub record Place (A G : Type 0) : Type 0 where
  pub session : A
  pub giver : G
  pub closed : List Contents
  pub number : ℕ
  pub items : List Reported
  pub waiting : List ℕ

abbrev pub open_batch : {A G : Type 0} → Place A G → Contents
open_batch p = record { number = p.number; items = p.items }

-- a batch may have these items: at most 64, in a body of at most 65,536 bytes
pub record Fits (b : Contents) : Type 0 where
  pub few : length b.items ≤ 64
  pub short : length (batch_text b) ≤ 65536

-- the open batch with an item more
abbrev pub with_item : {A G : Type 0} → Reported → Place A G → Place A G
with_item item p = record p { items = p.items ++ item ∷ [] }

-- the next batch is open, with this item alone
abbrev pub in_next : {A G : Type 0} → Reported → A → Place A G → Place A G
in_next item session p = record p { session = session; closed = p.closed ++ open_batch p ∷ []; number = p.number + 1; items = item ∷ [] }

-- an item is put into the open batch where that has room for it; else it is the first of the next
pub data IsPut {A G : Type 0} (x : Playing A G) (item : Reported) (p : Place A G) : Place A G → Type 0 where
  fits : Fits (open_batch (with_item item p)) → IsPut x item p (with_item item p)
  opens : (session : A) → ¬ Fits (open_batch (with_item item p)) → x.turns (p.number + 1) p.session session → IsPut x item p (in_next item session p)

-- an item of this kind is told, which closes so: it is put into a batch, and played there
pub record TellsItem {A G : Type 0} (x : Playing A G) (Kind : Reported → Type 0) (p : Place A G) (close : Close) (q : Place A G) : Type 0 where
  pub item : Reported
  pub is : Kind item
  pub put : Place A G
  pub is_put : IsPut x item p put
  pub fuel : ℕ
  pub plays : x.plays item put.session put.giver (record { close = close; fuel = fuel }) q.session q.giver
  pub rest : q ≡ record put { session = q.session; giver = q.giver }

-- one thing is told and then another, or the first ends the session
pub data Then {A G : Type 0} (First Second : Place A G → Close → Place A G → Type 0) (p : Place A G) : Close → Place A G → Type 0 where
  goes_on : (between : Place A G) (close : Close) (q : Place A G) → First p Fine between → Second between close q → Then First Second p close q
  breaks : (close : Close) (q : Place A G) → close ≢ Fine → First p close q → Then First Second p close q

-- nothing is told
abbrev pub Silent : {A G : Type 0} → Place A G → Close → Place A G → Type 0
Silent p close q = (close ≡ Fine) × (q ≡ p)

-- the item reports this call
pub record IsReportOf (c : Waiting) (item : Reported) : Type 0 where
  pub name : List ℕ
  pub args : List Tree
  pub is : item ≡ call c.number name args
  pub text : c.text ≡ call_text name args
  pub is_name : IsName name
  pub are_args : AreArgs args

-- behind a call that was told and closed so: its reply waits, if it was served and has a callback
abbrev pub behind_call : {A G : Type 0} → Waiting → Close → Place A G → Place A G
behind_call c Fine p = record p { waiting = if c.calls_back then p.waiting ++ c.number ∷ [] else p.waiting }
behind_call c (Refused item kind) p = p
behind_call c (Mismatch item) p = p
behind_call c (Stopped item stop) p = p

-- a call that waits is told
pub record TellsCall {A G : Type 0} (x : Playing A G) (c : Waiting) (p : Place A G) (close : Close) (q : Place A G) : Type 0 where
  pub told : Place A G
  pub tells : TellsItem x (IsReportOf c) p close told
  pub behind : q ≡ behind_call c close told

-- all calls that wait are told, in order
pub data TellsCalls {A G : Type 0} (x : Playing A G) : Place A G → Close → Place A G → Type 0 where
  none : (p : Place A G) → x.next p.session ≡ None → TellsCalls x p Fine p
  more : (p : Place A G) (c : Waiting) (between : Place A G) (close : Close) (q : Place A G) → x.next p.session ≡ Some c → TellsCall x c p Fine between → TellsCalls x between close q → TellsCalls x p close q
  breaks : (p : Place A G) (c : Waiting) (close : Close) (q : Place A G) → x.next p.session ≡ Some c → close ≢ Fine → TellsCall x c p close q → TellsCalls x p close q

-- the replies to the calls of these numbers, each followed by the calls that wait then
abbrev pub TellsReplies : {A G : Type 0} → Playing A G → List ℕ → Place A G → Close → Place A G → Type 0
TellsReplies x [] = Silent
TellsReplies x (k ∷ ks) = Then (TellsItem x (λ item. item ≡ reply k)) (Then (TellsCalls x) (TellsReplies x ks))

-- the event, followed by the calls that were made in its flow
abbrev pub TellsEvent : {A G : Type 0} → Playing A G → Gesture → Place A G → Close → Place A G → Type 0
TellsEvent x (Event r) = Then (TellsItem x (λ item. item ≡ event r.kind r.node r.text r.place)) (TellsCalls x)
TellsEvent x Flush = Silent

-- the list of a gesture: the calls that wait, which are those of the opening; the replies that waited before it; and the
-- event
abbrev pub TellsList : {A G : Type 0} → Playing A G → Gesture → Place A G → Close → Place A G → Type 0
TellsList x g p close q = Then (TellsCalls x) (Then (TellsReplies x p.waiting) (TellsEvent x g)) (record p { waiting = [] }) close q

-- a gesture is told by these batches, from one client to another, each with its session, what gives replies, the number of
-- the next batch and the calls whose replies wait
pub record TellsGesture {A G : Type 0} (x : Playing A G) (g : Gesture) (session : A) (giver : G) (number : ℕ) (waiting : List ℕ) (close : Close) (batches : List Contents) (next : A) (gives : G) (following : ℕ) (waits : List ℕ) : Type 0 where
  pub first : A
  pub turns : x.turns number session first
  pub last : Place A G
  pub tells : TellsList x g (record { session = first; giver = giver; closed = []; number = number; items = []; waiting = waiting }) close last
  pub are : batches ≡ last.closed ++ open_batch last ∷ []
  pub session_is : next ≡ last.session
  pub giver_is : gives ≡ last.giver
  pub number_is : following ≡ last.number + 1
  pub waiting_is : waits ≡ last.waiting
