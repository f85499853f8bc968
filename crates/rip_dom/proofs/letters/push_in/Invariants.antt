use Rattle.rip_values.specs.Pool.{text_at}
use Rattle.rip_dom.proofs.LettersLemmas.{Copied}
use Rattle.rip_dom.proofs.letters.push_in.Given as goal

abbrev pub invariant-loop-i : goal.invariant-loop-i
invariant-loop-i l = Copied l.fn.letters l.fn.pool l.pool l.held (text_at l.fn.pool l.fn.text) l.i
