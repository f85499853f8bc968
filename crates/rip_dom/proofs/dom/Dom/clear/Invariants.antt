use Rattle.rip_dom.proofs.WritingLemmas.{Clears}
use Rattle.rip_dom.proofs.dom.Dom.clear.Given as goal

abbrev pub invariant-loop-i : goal.invariant-loop-i
invariant-loop-i l = Clears l.fn.self l.self l.n l._i-end l._i
