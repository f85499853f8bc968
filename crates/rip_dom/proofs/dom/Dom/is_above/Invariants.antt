use Rattle.std.proofs.Common.{◌≡◌, ◌-◌, length}
use Rattle.rip_dom.specs.Tree.{way_up, is_above}
use Rattle.rip_dom.proofs.WalkLemmas.{meets}
use Rattle.rip_dom.proofs.dom.Dom.is_above.Given as goal

abbrev pub invariant-loop-i : goal.invariant-loop-i
invariant-loop-i l = (l._i-end ≡ length l.self.nodes) × (meets l.upper (way_up (l._i-end - l._i) l.self l.at) ≡ is_above l.self l.upper l.lower)
