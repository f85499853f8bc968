use Rattle.std.proofs.Common.{◌≡◌, ℕ, ◌+◌, ◌-◌, ◌<◌, [], ◌∷◌, ◌++◌, length, take, refl, ap, ◌∙◌, arith}
use Rattle.rip_eval_rows.specs.declared.stack.Entry.{Entry}
use Rattle.rip_eval_rows.specs.Stack.{Frames, count_of_values}
use Rattle.rip_eval_rows.specs.Joining.{joined}
use Rattle.rip_eval_rows.proofs.Joined.{frames-kept, count-joined, last-taken, length-joined, set-last}
use Rattle.rip_eval_rows.proofs.stack.Stack.keep.Goals as goal

pub returns-then-len-self-clause-room : goal.returns-then-len-self-clause-room
returns-then-len-self-clause-room c =
    let room : c.self.inside.room ≡ c.args.self.now.room = ap (λ (m : Frames). m.room) c.self.view_is in
    let count : count_of_values (joined c.self.inside.entries.items c.self.inside.values.items) ≡ count_of_values c.args.self.now.frames = ap (λ (m : Frames). count_of_values m.frames) c.self.view_is in
    let n = count-joined c.self.inside.entries.items c.self.inside.values.items c.self.invariant.beside in
    (λ e. absurd (cc), λ lt. absurd (omega (arith, lt.1)))

pub returns-in-Some-clause-room : goal.returns-in-Some-clause-room
returns-in-Some-clause-room c =
    let room : c.self.inside.room ≡ c.args.self.now.room = ap (λ (m : Frames). m.room) c.self.view_is in
    let count : count_of_values (joined c.self.inside.entries.items c.self.inside.values.items) ≡ count_of_values c.args.self.now.frames = ap (λ (m : Frames). count_of_values m.frames) c.self.view_is in
    let n = count-joined c.self.inside.entries.items c.self.inside.values.items c.self.invariant.beside in
    let some : length (joined c.self.inside.entries.items c.self.inside.values.items) ≡ length c.args.self.now.frames = ap (λ (m : Frames). length m.frames) c.self.view_is in
    let m = length-joined c.self.inside.entries.items c.self.inside.values.items in
    let len : c.self.inside.entries.len ≡ length c.self.inside.entries.items = c.self.inside.entries.ok.0 in
    let lt : 0 < c.self.inside.entries.len = c.in-Some.ensures.variant.0 refl in
    (λ _. (omega arith, omega arith), λ _. refl)

pub returns-in-Some-clause-kept : goal.returns-in-Some-clause-kept
returns-in-Some-clause-kept c =
    let len : ℕ = c.self.inside.entries.len in
    let some : 0 < len = c.in-Some.ensures.variant.0 refl in
    let r : Entry = record { frame = c.args.frame.now; values = c.in-Some.entry.now.values + 1 } in
    let last = last-taken c.self.inside.entries.items len c.in-Some.entry.now c.self.inside.entries.ok.0 some c.in-Some.ensures.value in
    let p = ap (λ es. joined es c.push_reserved.new.self.items) (set-last c.self.inside.entries.items len r c.self.inside.entries.ok.0 some) ∙ ap (joined (take (len - 1) c.self.inside.entries.items ++ r ∷ [])) c.push_reserved.ensures.items ∙ frames-kept c.args.self.now c.self.inside.entries.items (take (len - 1) c.self.inside.entries.items) c.in-Some.entry.now r c.self.inside.values.items c.args.value.now (ap (λ (m : Frames). m.frames) c.self.view_is) last c.self.invariant.beside refl in
    let most : c.self.inside.most ≡ c.args.self.now.most = ap (λ (m : Frames). m.most) c.self.view_is in
    let room : c.self.inside.room ≡ c.args.self.now.room = ap (λ (m : Frames). m.room) c.self.view_is in
    cc
