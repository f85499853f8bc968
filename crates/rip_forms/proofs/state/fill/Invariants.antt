use Rattle.std.proofs.Common.{◌≡◌, ◌+◌, vec_capacity}
use Rattle.rip_forms.proofs.StateLemmas.{Fills}
use Rattle.rip_forms.proofs.state.fill.Given as goal

abbrev pub invariant-loop-i : goal.invariant-loop-i
invariant-loop-i l = record {
  fills : Fills l._i l._i-end l.fn.states.items l.states.items;
  room : vec_capacity l.states ≡ vec_capacity l.fn.states;
  end : l._i-end ≡ l.n + 1;
}
