use Rattle.std.proofs.Common.{◌≡◌, ◌+◌, ◌<◌, ◌^◌, [], length, refl, sym, subst, rules}
use Rattle.rip_outer.specs.Pieces.{pieces}
use Rattle.rip_trace.proofs.GestureTexts.{Progress, progress_none, progress_more, progress_refused, progress_all}
use Rattle.rip_trace.proofs.gestures.read_gestures.Goals as goal

pub loop-line-init : goal.loop-line-init
loop-line-init c =
    let gives : c.into_iter-line-iterator.result ≡ pieces c.args.text.now = search rules in
    let bound : length (pieces c.args.text.now) < 2 ^ 64 = search rules in
    (tt, tt, subst (λ left. Progress (pieces c.args.text.now) 0 c.new-gestures.result.items left) (sym gives) (progress_none (pieces c.args.text.now) c.new-gestures.result.items (search rules)), bound)

pub loop-line-preserved : goal.loop-line-preserved
loop-line-preserved c =
    let added = c.in-Ok.ensures.ok in
    (tt, tt, progress_more (pieces c.args.text.now) c.loop-line.number c.loop-line.gestures.items c.loop-line.line-iterator c.in-Some.line.now c.next.new.self (c.loop-line.number + 1) c.add_line.new.gestures.items added.0 c.loop-line.invariant.2 c.in-Some.ensures.steps refl added.1 added.2, c.loop-line.invariant.3)

pub returns-in-Err-Other-clause-refused : goal.returns-in-Err-Other-clause-refused
returns-in-Err-Other-clause-refused c =
    progress_refused c.args.text.now c.loop-line.number c.loop-line.gestures.items c.loop-line.line-iterator c.in-Some.line.now c.next.new.self (c.loop-line.number + 1) c.loop-line.invariant.2 c.in-Some.ensures.steps refl (c.in-Err-Other.ensures.other (search rules))
