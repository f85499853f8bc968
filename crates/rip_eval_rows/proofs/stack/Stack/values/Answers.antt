use Rattle.std.proofs.Common.{◌≡◌, ◌-◌, length, take, drop, ap, ◌∙◌, arith, rules}
use Rattle.rip_eval_rows.specs.Stack.{Frames}
use Rattle.std.proofs.Common.{take_all, length-drop}
use Rattle.rip_eval_rows.proofs.Joined.{frames-last}
use Rattle.rip_eval_rows.proofs.stack.Stack.values.Goals as goal

pub returns-in-Some : goal.returns-in-Some
returns-in-Some c =
    let d : c.deref.result.now ≡ c.self.inside.values.items = search rules in
    let n : c.len.result ≡ length c.deref.result.now = search rules in
    let l = frames-last c.args.self.now c.self.inside.entries.items (take (length c.self.inside.entries.items - 1) c.self.inside.entries.items) c.in-Some.entry.now c.self.inside.values.items (ap (λ (m : Frames). m.frames) c.self.view_is) c.in-Some.ensures c.self.invariant.beside in
    take_all _ _ (omega (arith, length-drop (c.len.result - c.in-Some.entry.now.values) c.deref.result.now))
    ∙ ap (λ k. drop (k - c.in-Some.entry.now.values) c.deref.result.now) n ∙ ap (λ xs. drop (length xs - c.in-Some.entry.now.values) xs) d ∙ l.2
