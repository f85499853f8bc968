use Rattle.std.proofs.Common.{◌-◌}
use Rattle.rip_dom.proofs.ReadingLemmas.{Compares}
use Rattle.rip_dom.proofs.dom.Dom.has_text.Given as goal

abbrev pub invariant-loop-i : goal.invariant-loop-i
invariant-loop-i l = Compares l.pool l.self l.n (l._i-end - l._i) l.at l.rest l.text
