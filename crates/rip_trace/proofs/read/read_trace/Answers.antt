use Rattle.std.proofs.Common.{◌≡◌, ◌<◌, ◌^◌, ◌+◌, [], length, refl, sym, subst, rules}
use Rattle.rip_outer.specs.Pieces.{pieces}
use Rattle.rip_trace.proofs.TraceLemmas.{Progress, progress_none, progress_more, progress_refused, progress_all}
use Rattle.rip_trace.proofs.read.read_trace.Goals as goal

pub loop-line-init : goal.loop-line-init
loop-line-init c =
    let gives : c.into_iter-line-iterator.result ≡ pieces c.args.text.now = search rules in
    let bound : length (pieces c.args.text.now) < 2 ^ 64 = search rules in
    (tt, tt, subst (λ left. Progress (pieces c.args.text.now) c.as_slice-drawn.result.now 0 c.new-reading.result left) (sym gives) (progress_none (pieces c.args.text.now) c.as_slice-drawn.result.now c.new-reading.result c.new-reading.ensures), bound)

pub loop-line-preserved : goal.loop-line-preserved
loop-line-preserved c =
    (tt, tt, progress_more (pieces c.args.text.now) c.as_slice-drawn.result.now c.loop-line.number c.loop-line.reading c.loop-line.line-iterator c.in-Some.line.now c.next.new.self (c.loop-line.number + 1) c.add.new.self c.loop-line.invariant.2 c.in-Some.ensures.steps refl c.in-Ok-add.ensures.ok, c.loop-line.invariant.3)

pub returns-in-Err-Other-clause-refused : goal.returns-in-Err-Other-clause-refused
returns-in-Err-Other-clause-refused c =
    progress_refused c.args.text.now c.as_slice-drawn.result.now c.loop-line.number c.loop-line.reading c.loop-line.line-iterator c.in-Some.line.now c.next.new.self (c.loop-line.number + 1) c.loop-line.invariant.2 c.in-Some.ensures.steps refl (c.in-Err-Other.ensures.other (search rules))

pub returns-in-Ok-finish-clause-ok : goal.returns-in-Ok-finish-clause-ok
returns-in-Ok-finish-clause-ok c =
    let none : c.loop-line.line-iterator ≡ [] = search rules in
    let read = subst (λ ws. Progress (pieces c.args.text.now) ws c.loop-line.number c.loop-line.reading c.loop-line.line-iterator) c.as_slice-drawn.ensures c.loop-line.invariant.2 in
    progress_all c.args.text.now c.in-Ok.words c.loop-line.number c.loop-line.reading c.loop-line.line-iterator c.in-Ok-finish.trace read none c.in-Ok.ensures c.in-Ok-finish.ensures
