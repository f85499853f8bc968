-- The honest client: the batches that it tells of gestures, and that they are served.
use Rattle.std.specs.Prelude.{◌≡◌, ◌≢◌, ℕ, ◌+◌, Bool, true, false, List, [], ◌∷◌, ◌++◌, map, take, Option, Some, None}
use Rattle.std.specs.List.{list_any}
use Rattle.rip_heap.specs.World.{World}
use Rattle.rip_eval_rows.specs.declared.close.Close.{Close}
use Rattle.rip_eval_rows.specs.declared.close.Close.TheVariants.{Fine, Refused, Mismatch, Stopped}
use Rattle.rip_eval_rows.specs.declared.completion.Stop.{Stop}
use Rattle.rip_replica.specs.Play.{Closes}
use Rattle.rip_wire.specs.Batches.{Contents}
use Rattle.rip_wire.specs.Items.{Reported, event, call, reply}
use Rattle.rip_wire.specs.declared.ending.Ending.TheVariants as ending
use Rattle.rip_wire.specs.declared.gesture.Gesture.{Gesture}
use Rattle.rip_history.specs.Parts.{Fact, passes, serves, finishes, Part, Given}
use Rattle.rip_replica.specs.Parts.{Doing, first_given, given_behind, session_parts, whole_item}
use Rattle.rip_client.specs.declared.actor.Over.{Over}
use Rattle.rip_client.specs.Wholes.{IsWhole}
use Rattle.rip_client.specs.Truth.{IsReportOf, Playing, TellsGesture, Waiting}

-- ---- a session that is played item by item

-- where it stands: the world and the page, the number of its batch, and how many items of that were played
pub record Seat (S : Type 0) : Type 0 where
  pub world : World
  pub page : S
  pub batch : ℕ
  pub count : ℕ

-- what gives replies, where G is its type: what an item of this fact is given, and what is behind it, where it closed so
pub record Giving (G : Type 0) : Type 0 where
  pub gives : Fact → G → Given
  pub behind : Fact → Close → G → G

-- what is left of what is given behind an item that came to this and closed so
abbrev pub given_after : Fact → Close → List Given → List Given
given_after fact Fine gs = given_behind fact gs
given_after fact (Refused item kind) gs = gs
given_after fact (Mismatch item) gs = gs
given_after fact (Stopped item stop) gs = gs

-- what is given is this, one after another
abbrev pub given_in_turn : Giving (List Given)
given_in_turn = record { gives = λ fact gs. first_given gs; behind = given_after }

-- an item is over and fine, or a limit or a fault stopped it
abbrev pub IsFineOrStopped : Close → Type 0
IsFineOrStopped Fine = Unit {0}
IsFineOrStopped (Refused item kind) = ⊥
IsFineOrStopped (Mismatch item) = ⊥
IsFineOrStopped (Stopped item stop) = Unit {0}

-- an event is legal where it stands; of calls and replies nothing is asked
abbrev pub IsLegal : Reported → Close → Type 0
IsLegal (event kind node text place) close = IsFineOrStopped close
IsLegal (call number name args) close = Unit {0}
IsLegal (reply number) close = Unit {0}

-- an event is legal where it stands, and a reply is due there; of a call nothing is asked
abbrev pub IsLegalAndDue : Reported → Close → Type 0
IsLegalAndDue (event kind node text place) close = IsFineOrStopped close
IsLegalAndDue (call number name args) close = Unit {0}
IsLegalAndDue (reply number) close = IsFineOrStopped close

-- of no item anything is asked
abbrev pub IsAny : Reported → Close → Type 0
IsAny item close = Unit {0}

-- an item is played whole where the session stands, with what is given to it, and comes out so, which is legal in this sense
pub record IsPlayed {A S G : Type 0} (d : Doing A S) (task : Reported → A) (giving : Giving G) (Legal : Reported → Close → Type 0) (item : Reported) (a : Seat S) (g : G) (over : Over) (b : Seat S) (h : G) : Type 0 where
  pub is : IsWhole d a.batch (task item) (a.count + 1) a.world a.page (giving.gives (d.fact (task item)) g) (record { close = over.close; fuel = over.fuel }) b.world b.page
  pub batch : b.batch ≡ a.batch
  pub count : b.count ≡ a.count + 1
  pub given : h ≡ giving.behind (d.fact (task item)) over.close g
  pub legal : Legal item over.close

-- a session in which this is done, where these are the items that report, this is the call that is read off a page as the
-- next, this gives replies, and items are legal in this sense
abbrev pub playing_of : {A S G : Type 0} → Doing A S → (Reported → A) → (S → Option Waiting) → Giving G → (Reported → Close → Type 0) → Playing (Seat S) G
playing_of d task next giving Legal = record {
  turns = λ n a b. b ≡ record a { batch = n; count = 0 };
  plays = λ item a g over b h. IsPlayed d task giving Legal item a g over b h;
  next = λ a. next a.page;
}

-- ---- reports

-- the batches of gestures, one after another, from a client on: its session, what gives replies, the number of the next
-- batch, and the calls whose replies wait. An item that ends the session is
-- the last
pub data Reports {A G : Type 0} (x : Playing A G) : List Gesture → A → G → ℕ → List ℕ → List Contents → Type 0 where
  silent : (a : A) (g : G) (number : ℕ) (waiting : List ℕ) → Reports x [] a g number waiting []
  told : (gesture : Gesture) (gestures : List Gesture) (a b : A) (g h : G) (number next : ℕ) (waiting waits : List ℕ) (batches rest : List Contents)
      → TellsGesture x gesture a g number waiting Fine batches b h next waits → Reports x gestures b h next waits rest → Reports x (gesture ∷ gestures) a g number waiting (batches ++ rest)
  ended : (gesture : Gesture) (gestures : List Gesture) (a b : A) (g h : G) (number next : ℕ) (waiting waits : List ℕ) (close : Close) (batches : List Contents)
      → close ≢ Fine → TellsGesture x gesture a g number waiting close batches b h next waits → Reports x (gesture ∷ gestures) a g number waiting batches

-- the batches of gestures whose items are legal in this sense, in a session that was opened fine and is given this
pub record IsReportBy {A S : Type 0} (Legal : Reported → Close → Type 0) (d : Doing A S) (task : Reported → A) (next : S → Option Waiting) (gestures : List Gesture) (given : List Given) (batches : List Contents) : Type 0 where
  pub more : List (S → S)
  pub fuel : ℕ
  pub left : ℕ
  pub world : World
  pub page : S
  pub opens : whole_item d 0 d.opening 1 d.world d.page (first_given given) ≡ Closes Fine more fuel left world page
  pub reports : Reports (playing_of d task next given_in_turn Legal) gestures (record { world = world; page = page; batch = 0; count = 1 }) given 1 [] batches

-- the batches that an honest client tells of these gestures, in such a session: each event is legal at its place
abbrev pub IsReport : {A S : Type 0} → Doing A S → (Reported → A) → (S → Option Waiting) → List Gesture → List Given → List Contents → Type 0
IsReport d task next gestures given batches = IsReportBy IsLegal d task next gestures given batches

-- and each reply is due where it is told
abbrev pub IsDueReport : {A S : Type 0} → Doing A S → (Reported → A) → (S → Option Waiting) → List Gesture → List Given → List Contents → Type 0
IsDueReport d task next gestures given batches = IsReportBy IsLegalAndDue d task next gestures given batches

-- ---- that they are served

-- the session ends for a lie: with a mismatch or a bad report
abbrev pub is_lie : Fact → Bool
is_lie passes = false
is_lie (serves number name args) = false
is_lie (finishes None) = false
is_lie (finishes (Some (ending.Mismatch item number reported made))) = true
is_lie (finishes (Some (ending.BadReport item kind))) = true
is_lie (finishes (Some (ending.Limit item limit))) = false
is_lie (finishes (Some (ending.Fault item fault))) = false
is_lie (finishes (Some (ending.Memory item))) = false
is_lie (finishes (Some ending.Closed)) = false

abbrev pub has_lie : List Part → Bool
has_lie ps = list_any (λ (p : Part). is_lie p.fact) ps

-- the opening reports nothing and the items of a batch are those that report; none comes to a lie where it is fine, and none
-- ends for a lie where a limit or a fault stopped it
pub record AreItems {A S : Type 0} (d : Doing A S) (task : Reported → A) : Type 0 where
  pub opening : d.fact d.opening ≡ passes
  pub items : (b : Contents) → d.items b ≡ map task b.items
  pub fine : (item : Reported) → is_lie (d.fact (task item)) ≡ false
  pub stopped : (all : List A) (item : ℕ) (stop : Stop) (s : S) → is_lie (finishes (Some (d.ending all (Stopped item stop) s))) ≡ false

-- the call that is read off a page as the next is served where it is reported then, or stopped
abbrev pub ServesNext : {A S : Type 0} → Doing A S → (Reported → A) → (S → Option Waiting) → Type 0
ServesNext {A} {S} d task next =
    (batch n : ℕ) (w : World) (s : S) (g : Given) (c : Waiting) (item : Reported) (close : Close) (more : List (S → S)) (fuel left : ℕ) (x : World) (r : S)
    → next s ≡ Some c → IsReportOf c item → whole_item d batch (task item) n w s g ≡ Closes close more fuel left x r → IsFineOrStopped close

-- a session that is given any front of these batches, where each reply is due, is ended by no mismatch and no bad report
abbrev pub TruthIsServed : Type 0 → Type 0 → Type 0
TruthIsServed A S =
    (d : Doing A S) (task : Reported → A) (next : S → Option Waiting) (gestures : List Gesture) (given : List Given) (batches : List Contents)
    → AreItems d task → ServesNext d task next → IsDueReport d task next gestures given batches
    → (k : ℕ) → has_lie (session_parts d (take k batches) given) ≡ false
