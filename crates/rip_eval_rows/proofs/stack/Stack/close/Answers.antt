use Rattle.std.proofs.Common.{◌≡◌, ◌-◌, length, take, ap, ◌∙◌, rules}
use Rattle.rip_eval_rows.specs.Stack.{Frames}
use Rattle.rip_eval_rows.proofs.Joined.{frames-popped}
use Rattle.rip_eval_rows.proofs.stack.Stack.close.Goals as goal

pub returns-in-Some : goal.returns-in-Some
returns-in-Some c =
    let n : c.len.result ≡ length c.self.inside.values.items = search rules in
    let m : c.len-in-Some.result ≡ length c.self.inside.entries.items = search rules in
    let t : c.truncate.new.self.items ≡ take (length c.self.inside.values.items - c.in-Some.entry.now.values) c.self.inside.values.items = c.truncate.ensures.items ∙ ap (λ k. take (k - c.in-Some.entry.now.values) c.self.inside.values.items) n in
    let e : c.truncate-in-Some.new.self.items ≡ take (length c.self.inside.entries.items - 1) c.self.inside.entries.items = c.truncate-in-Some.ensures.items ∙ ap (λ k. take (k - 1) c.self.inside.entries.items) m in
    let p = frames-popped c.args.self.now c.self.inside.entries.items (take (length c.self.inside.entries.items - 1) c.self.inside.entries.items) c.in-Some.entry.now c.self.inside.values.items c.truncate.new.self.items (ap (λ (m : Frames). m.frames) c.self.view_is) c.in-Some.ensures c.self.invariant.beside t in
    let most : c.self.inside.most ≡ c.args.self.now.most = ap (λ (m : Frames). m.most) c.self.view_is in
    let room : c.self.inside.room ≡ c.args.self.now.room = ap (λ (m : Frames). m.room) c.self.view_is in
    cc
