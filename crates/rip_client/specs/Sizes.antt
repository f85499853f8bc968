-- How clients stand in code, and what came of telling.
use Rattle.std.specs.Prelude.{◌≡◌, map, Option, None, Some, Result, Ok, Err}
use Rattle.rip_eval_rows.specs.declared.close.Close.{Close}
use Rattle.rip_eval_rows.specs.declared.close.Close.TheVariants.{Fine, Refused, Mismatch, Stopped}
use Rattle.rip_wire.specs.Items.{Reported, event, reply, reported_of, HasDetail}
use Rattle.rip_wire.specs.declared.gesture.Gesture.{Gesture}
use Rattle.rip_wire.specs.declared.gesture.Gesture.TheVariants.{Event, Flush}
use Rattle.rip_client.specs.declared.client.Client.{Client}
use Rattle.rip_client.specs.declared.client.HowTold.{HowTold}
use Rattle.rip_client.specs.declared.client.HowTold.TheVariants as how
use Rattle.rip_client.specs.declared.client.Stop.{Stop}
use Rattle.rip_client.specs.declared.client.Stop.TheVariants.{Closed, Memory}
use Rattle.rip_client.specs.declared.tale.Tale.{Tale}
use Rattle.rip_client.specs.declared.tale.Tale.TheVariants as tale
use Rattle.rip_client.specs.Bytes.{batches_of}
use Rattle.rip_client.specs.Truth.{Place, IsReportOf, waiting_of}

-- the item tells this
abbrev pub IsTold : Tale → Reported → Type 0
IsTold (tale.Call c) item = IsReportOf (waiting_of c.now) item
IsTold (tale.Reply k) item = item ≡ reply k
IsTold (tale.Event r) item = item ≡ event r.now.kind r.now.node r.now.text r.now.place

-- an event of it may stand in a batch
abbrev pub MayBeTold : Tale → Type 0
MayBeTold (tale.Call c) = Unit {0}
MayBeTold (tale.Reply k) = Unit {0}
MayBeTold (tale.Event r) = HasDetail r.now.kind r.now.text r.now.place

abbrev pub IsGesture : Gesture → Type 0
IsGesture (Event r) = HasDetail r.kind r.text r.place
IsGesture Flush = Unit {0}

-- where a client stands
abbrev pub place_of : {A G : Type 0} → Client A → G → Place A G
place_of c g = record {
  session = c.actor;
  giver = g;
  closed = batches_of c.list.closed.items;
  number = c.list.number;
  items = map reported_of c.list.items.items;
  waiting = c.waiting.items;
}

-- what came of telling: all was told, or the last item ended the session; where memory was wanting nothing is said
abbrev pub Comes : {A G T : Type 0} → (Place A G → Close → Place A G → Type 0) → Place A G → Result T Stop → Place A G → Type 0
Comes R p (Ok done) q = R p Fine q
Comes R p (Err (Closed close)) q = (close ≡ Fine → ⊥) × R p close q
Comes R p (Err Memory) q = Unit {0}

-- how a gesture was told that closed so
abbrev pub ToldSo : HowTold → Close → Type 0
ToldSo how.Whole close = close ≡ Fine
ToldSo (how.Ended c) close = close ≡ c
ToldSo how.Memory close = ⊥

-- how a gesture was told that comes to this
abbrev pub how_told : {T : Type 0} → Result T Stop → HowTold
how_told (Ok done) = how.Whole
how_told (Err (Closed close)) = how.Ended close
how_told (Err Memory) = how.Memory

-- the end of a client whose gesture was told so, if it is one
abbrev pub end_of : HowTold → Option HowTold
end_of how.Whole = None
end_of (how.Ended Fine) = None
end_of (how.Ended (Refused item kind)) = Some (how.Ended (Refused item kind))
end_of (how.Ended (Mismatch item)) = Some (how.Ended (Mismatch item))
end_of (how.Ended (Stopped item stop)) = Some (how.Ended (Stopped item stop))
end_of how.Memory = Some how.Memory
