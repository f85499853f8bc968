use Rattle.std.proofs.Common.{◌-◌, length, take, ap}
use Rattle.rip_eval_rows.specs.Stack.{Frames}
use Rattle.rip_eval_rows.proofs.Joined.{frames-last}
use Rattle.rip_eval_rows.proofs.stack.Stack.top.Goals as goal

pub returns-in-Some : goal.returns-in-Some
returns-in-Some c =
    (frames-last c.args.self.now c.self.inside.entries.items (take (length c.self.inside.entries.items - 1) c.self.inside.entries.items) c.in-Some.entry.now c.self.inside.values.items (ap (λ (m : Frames). m.frames) c.self.view_is) c.in-Some.ensures c.self.invariant.beside).0
