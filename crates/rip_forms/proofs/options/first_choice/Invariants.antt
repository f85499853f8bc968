use Rattle.std.proofs.Common.{◌≡◌, ◌-◌, ◌+◌, length}
use Rattle.rip_forms.proofs.OptionLemmas.{Chooses}
use Rattle.rip_forms.proofs.options.first_choice.Given as goal

abbrev pub invariant-loop-i : goal.invariant-loop-i
invariant-loop-i l = Chooses l.pool l.dom l.n (l._i-end - l._i) l.at l.count l.found l._i
