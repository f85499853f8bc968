use Rattle.std.proofs.Common.{◌≡◌, ℕ, ◌<◌, ◌-◌, length, take, refl, ap, ◌∙◌, rules}
use Rattle.rip_eval_rows.specs.declared.stack.Entry.{Entry}
use Rattle.rip_eval_rows.specs.Stack.{Frames}
use Rattle.rip_eval_rows.specs.Joining.{joined}
use Rattle.rip_eval_rows.proofs.Joined.{frames-replaced, last-taken, set-last}
use Rattle.rip_eval_rows.proofs.stack.Stack.replace.Goals as goal

pub returns-in-Some-clause-replaced : goal.returns-in-Some-clause-replaced
returns-in-Some-clause-replaced c _ =
    let len : ℕ = c.self.inside.entries.len in
    let some : 0 < len = c.in-Some.ensures.variant.0 refl in
    let n : c.len.result ≡ length c.self.inside.values.items = search rules in
    let t : c.truncate.new.self.items ≡ take (length c.self.inside.values.items - c.in-Some.last.now.values) c.self.inside.values.items = c.truncate.ensures.items ∙ ap (λ k. take (k - c.in-Some.last.now.values) c.self.inside.values.items) n in
    let r : Entry = record { frame = c.args.frame.now; values = 0 } in
    let last = last-taken c.self.inside.entries.items len c.in-Some.last.now c.self.inside.entries.ok.0 some c.in-Some.ensures.value in
    let p = ap (λ es. joined es c.truncate.new.self.items) (set-last c.self.inside.entries.items len r c.self.inside.entries.ok.0 some) ∙ frames-replaced c.args.self.now c.self.inside.entries.items (take (len - 1) c.self.inside.entries.items) c.in-Some.last.now r c.self.inside.values.items c.truncate.new.self.items (ap (λ (m : Frames). m.frames) c.self.view_is) last c.self.invariant.beside t refl in
    let most : c.self.inside.most ≡ c.args.self.now.most = ap (λ (m : Frames). m.most) c.self.view_is in
    let room : c.self.inside.room ≡ c.args.self.now.room = ap (λ (m : Frames). m.room) c.self.view_is in
    cc
