use Rattle.std.proofs.Common.{◌≡◌, length, refl, ap, ◌∙◌, arith}
use Rattle.rip_eval_rows.specs.declared.stack.Entry.{Entry}
use Rattle.rip_eval_rows.specs.Stack.{Frames}
use Rattle.rip_eval_rows.specs.Joining.{joined}
use Rattle.rip_eval_rows.proofs.Joined.{frames-pushed, length-joined}
use Rattle.rip_eval_rows.proofs.stack.Stack.push.Goals as goal

pub returns-then-len-self-clause-room : goal.returns-then-len-self-clause-room
returns-then-len-self-clause-room c =
    let most : c.self.inside.most ≡ c.args.self.now.most = ap (λ (m : Frames). m.most) c.self.view_is in
    let count : length (joined c.self.inside.entries.items c.self.inside.values.items) ≡ length c.args.self.now.frames = ap (λ (m : Frames). length m.frames) c.self.view_is in
    let n = length-joined c.self.inside.entries.items c.self.inside.values.items in
    (λ e. absurd (cc), λ lt. absurd (omega arith))

pub returns-clause-room : goal.returns-clause-room
returns-clause-room c =
    let most : c.self.inside.most ≡ c.args.self.now.most = ap (λ (m : Frames). m.most) c.self.view_is in
    let count : length (joined c.self.inside.entries.items c.self.inside.values.items) ≡ length c.args.self.now.frames = ap (λ (m : Frames). length m.frames) c.self.view_is in
    let n = length-joined c.self.inside.entries.items c.self.inside.values.items in
    (λ _. omega arith, λ _. refl)

pub returns-clause-pushed : goal.returns-clause-pushed
returns-clause-pushed c =
    let r : Entry = record { frame = c.args.frame; values = 0 } in
    let p = ap (λ es. joined es c.self.inside.values.items) c.push_reserved.ensures.items ∙ frames-pushed c.self.inside.entries.items r c.self.inside.values.items c.self.invariant.beside refl in
    let most : c.self.inside.most ≡ c.args.self.now.most = ap (λ (m : Frames). m.most) c.self.view_is in
    let room : c.self.inside.room ≡ c.args.self.now.room = ap (λ (m : Frames). m.room) c.self.view_is in
    let frames : joined c.self.inside.entries.items c.self.inside.values.items ≡ c.args.self.now.frames = ap (λ (m : Frames). m.frames) c.self.view_is in
    cc
