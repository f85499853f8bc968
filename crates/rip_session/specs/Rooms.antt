-- The rooms of a session, with which it wants memory only at a call.
use Rattle.rip_eval_rows.specs.Evaluation.{Evaluation}
use Rattle.rip_replica.specs.SchedulerRooms.{HasRooms}
use Rattle.rip_machine.specs.Law.{Standing}
use Rattle.rip_machine.specs.Plans.{HasRoom}
use Rattle.rip_replica.specs.declared.item.AtItem.{AtItem}
use Rattle.rip_replica.specs.declared.replica.Replica.{Replica}
use Rattle.rip_host.specs.declared.browser.Browser.{Browser}
use Rattle.rip_session.specs.declared.work.items.PageItems.{PageItems}
use Rattle.rip_session.specs.Plans.{room_of}
use Rattle.rip_session.specs.Tasks.{Task}

-- its machine has the room for runs with the fuel of an item, and its flows have room for each node that its document may have
abbrev pub HasRoomsIn : Evaluation Standing Browser → Replica Standing PageItems Task Browser → Type 0
HasRoomsIn e r = HasRooms e HasRoom (λ (p : AtItem PageItems Task). room_of p.items) (λ (s : Browser). s.dom.limit) r.runner r.host
