use Rattle.std.proofs.Common.{◌≡◌, ◌∙◌, sym, subst}
use Rattle.rip_outer.specs.Connections.{IsShut}
use Rattle.rip_outer.specs.MemoryDoor.{DoorState}
use Rattle.rip_outer.proofs.memory_door.MemoryDoor.was_shut.Goals as goal

pub returns : goal.returns
returns c =
    let marks = c.self.invariant.shut_ones c.args.c in (
      λ e. subst (λ (s : DoorState). IsShut s.shuts c.args.c) c.self.view_is (marks.1 (sym c.is_shut.ensures ∙ e)),
      λ i. c.is_shut.ensures ∙ marks.0 (subst (λ (s : DoorState). IsShut s.shuts c.args.c) (sym c.self.view_is) i),
    )
