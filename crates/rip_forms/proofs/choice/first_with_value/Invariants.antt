use Rattle.std.proofs.Common.{◌-◌}
use Rattle.rip_forms.proofs.OptionLemmas.{Finds}
use Rattle.rip_forms.proofs.choice.first_with_value.Given as goal

abbrev pub invariant-loop-i : goal.invariant-loop-i
invariant-loop-i l = Finds l.pool l.dom l.text l.n (l._i-end - l._i) l.at l.count l._i
