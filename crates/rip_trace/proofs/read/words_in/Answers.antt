use Rattle.std.proofs.Common.{refl, sym, subst}
use Rattle.rip_outer.specs.Pieces.{pieces}
use Rattle.rip_trace.proofs.TraceLemmas.{Finding, finding_some, finding_pass}
use Rattle.rip_trace.proofs.read.words_in.Goals as goal

pub loop-line-preserved-in-Continue-1 : goal.loop-line-preserved-in-Continue-1
loop-line-preserved-in-Continue-1 c =
    let found = finding_some (pieces c.args.text.now) c.loop-line.line-iterator c.loop-line.words.items c.in-Some.line.now c.next.new.self c.in-Some-word_told.word c.loop-line.invariant.2 c.in-Some.ensures.steps c.in-Some-word_told.ensures.is in
    (tt, tt, subst (λ ws. Finding (pieces c.args.text.now) c.next.new.self ws) (sym c.in_ok-push.ensures.items) found)

pub loop-line-preserved : goal.loop-line-preserved
loop-line-preserved c =
    (tt, tt, finding_pass (pieces c.args.text.now) c.loop-line.line-iterator c.loop-line.words.items c.in-Some.line.now c.next.new.self c.loop-line.invariant.2 c.in-Some.ensures.steps (c.in_default.ensures.none refl))
