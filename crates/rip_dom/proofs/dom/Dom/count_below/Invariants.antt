use Rattle.std.proofs.Common.{◌≡◌, ◌-◌, ◌+◌, length}
use Rattle.rip_dom.specs.Reading.{text_below}
use Rattle.rip_dom.proofs.ReadingLemmas.{Counts}
use Rattle.rip_dom.proofs.dom.Dom.count_below.Given as goal

abbrev pub invariant-loop-i : goal.invariant-loop-i
invariant-loop-i l = record {
  end : l._i-end ≡ length l.self.nodes + length l.self.nodes;
  most : l.most ≡ l.pool.text_limit;
  counts : Counts l.pool l.self l.n (l._i-end - l._i) l.at l.left (text_below l.pool l.self l.n);
}
