use Rattle.std.proofs.Common.{◌≡◌, length, sym, ap, ◌∙◌, rules}
use Rattle.rip_eval_rows.specs.Stack.{Frames}
use Rattle.rip_eval_rows.proofs.Joined.{length-joined}
use Rattle.rip_eval_rows.proofs.stack.Stack.depth.Goals as goal

pub returns-clause-count : goal.returns-clause-count
returns-clause-count c =
    let n : c.len.result ≡ length c.self.inside.entries.items = search rules in
    n ∙ sym (length-joined c.self.inside.entries.items c.self.inside.values.items) ∙ ap (λ (m : Frames). length m.frames) c.self.view_is
