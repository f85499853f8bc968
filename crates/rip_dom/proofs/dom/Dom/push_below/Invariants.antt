use Rattle.std.proofs.Common.{◌-◌}
use Rattle.rip_dom.specs.Reading.{text_below}
use Rattle.rip_dom.proofs.ReadingLemmas.{Joins}
use Rattle.rip_dom.proofs.dom.Dom.push_below.Given as goal

abbrev pub invariant-loop-i : goal.invariant-loop-i
invariant-loop-i l = Joins l.self l.fn.pool l.pool l.n (l._i-end - l._i) l.at (text_below l.fn.pool l.self l.n)
