use Rattle.std.proofs.Common.{◌≡◌, ℕ, ◌+◌, ◌-◌, ◌<◌, [], ◌∷◌, ◌++◌, length, take, refl, ap, ◌∙◌, arith, rules}
use Rattle.std.proofs.lemmas.List.{length_push}
use Rattle.rip_eval_rows.specs.declared.stack.Entry.{Entry}
use Rattle.rip_eval_rows.specs.Stack.{Frames, framed}
use Rattle.rip_eval_rows.specs.Joining.{joined}
use Rattle.rip_eval_rows.proofs.Joined.{frames-taken, last-count, last-taken, set-last}
use Rattle.rip_eval_rows.proofs.stack.Stack.take_back.Goals as goal

pub returns-then-entry-gt0 : goal.returns-then-entry-gt0
returns-then-entry-gt0 c os values v is =
    let len : ℕ = c.self.inside.entries.len in
    let some : 0 < len = c.in-Some.ensures.variant.0 refl in
    let r : Entry = record { frame = c.args.frame.now; values = c.in-Some.entry.now.values - 1 } in
    let n : c.len.result ≡ length c.self.inside.values.items = search rules in
    let last = last-taken c.self.inside.entries.items len c.in-Some.entry.now c.self.inside.entries.ok.0 some c.in-Some.ensures.value in
    let t : c.truncate.new.self.items ≡ take (length c.self.inside.values.items - 1) c.self.inside.values.items = c.truncate.ensures.items ∙ ap (λ k. take (k - 1) c.self.inside.values.items) n in
    let p = ap (λ es. joined es c.truncate.new.self.items) (set-last c.self.inside.entries.items len r c.self.inside.entries.ok.0 some) ∙ frames-taken c.args.self.now c.self.inside.entries.items (take (len - 1) c.self.inside.entries.items) c.in-Some.entry.now r c.self.inside.values.items c.truncate.new.self.items os values v (ap (λ (m : Frames). m.frames) c.self.view_is) last c.self.invariant.beside is t refl in
    let most : c.self.inside.most ≡ c.args.self.now.most = ap (λ (m : Frames). m.most) c.self.view_is in
    let room : c.self.inside.room ≡ c.args.self.now.room = ap (λ (m : Frames). m.room) c.self.view_is in
    cc

pub returns-else-entry-gt0 : goal.returns-else-entry-gt0
returns-else-entry-gt0 c os values v is =
    let len : ℕ = c.self.inside.entries.len in
    let some : 0 < len = c.in-Some.ensures.variant.0 refl in
    let last = last-taken c.self.inside.entries.items len c.in-Some.entry.now c.self.inside.entries.ok.0 some c.in-Some.ensures.value in
    let count = last-count c.args.self.now c.self.inside.entries.items (take (len - 1) c.self.inside.entries.items) c.in-Some.entry.now c.self.inside.values.items (values ++ v ∷ []) os (framed c.args.frame.now (values ++ v ∷ [])) (ap (λ (m : Frames). m.frames) c.self.view_is) last c.self.invariant.beside is refl in
    let none = c.if-entry-gt0.false in
    absurd (omega (arith, count, none, length_push values v))
