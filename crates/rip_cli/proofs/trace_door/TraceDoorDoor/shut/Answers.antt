use Rattle.std.proofs.Common.{◌<◌, ◌∙◌, Some, length, ap, sym, subst}
use Rattle.rip_outer.specs.Connections.{hushed}
use Rattle.rip_outer.proofs.Telling.{all_shut}
use Rattle.rip_cli.specs.TraceDoor.{Bringing, left_of}
use Rattle.rip_cli.proofs.trace_door.TraceDoorDoor.shut.Goals as goal

pub returns-clause-left : goal.returns-clause-left
returns-clause-left c =
    let i = c.self.inside in
    let there : c.args.c < length i.shut.items = subst (λ (s : Bringing). c.args.c < length s.shut) (sym c.self.view_is) c.requires in
    ap Some (all_shut i.shut.items c.args.c i.left.items there ∙ ap (λ (s : Bringing). hushed c.args.c (left_of s)) c.self.view_is)
