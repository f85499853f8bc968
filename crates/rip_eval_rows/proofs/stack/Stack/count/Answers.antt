use Rattle.std.proofs.Common.{◌≡◌, length, sym, ap, ◌∙◌, rules}
use Rattle.rip_eval_rows.specs.Stack.{Frames, count_of_values}
use Rattle.rip_eval_rows.proofs.Joined.{count-joined}
use Rattle.rip_eval_rows.proofs.stack.Stack.count.Goals as goal

pub returns-clause-count : goal.returns-clause-count
returns-clause-count c =
    let n : c.len.result ≡ length c.self.inside.values.items = search rules in
    n ∙ sym (count-joined c.self.inside.entries.items c.self.inside.values.items c.self.invariant.beside) ∙ ap (λ (m : Frames). count_of_values m.frames) c.self.view_is
