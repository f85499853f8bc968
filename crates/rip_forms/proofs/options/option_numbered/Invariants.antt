use Rattle.std.proofs.Common.{◌≡◌, ◌-◌, ◌+◌, length}
use Rattle.rip_forms.proofs.OptionLemmas.{Seeks}
use Rattle.rip_forms.proofs.options.option_numbered.Given as goal

abbrev pub invariant-loop-i : goal.invariant-loop-i
invariant-loop-i l = Seeks l.pool l.dom l.n (l._i-end - l._i) l.at l.left l.place
