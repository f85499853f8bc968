use Rattle.std.proofs.Common.{Err, sym, ap, ◌∙◌, subst}
use Rattle.rip_heap.specs.Arrays.{elements_at}
use Rattle.rip_heap.specs.Outcome.{Answers}
use Rattle.rip_builtins.specs.Joining.{join_items}
use Rattle.rip_builtins.proofs.JoinLemmas.{join-halts, halt-answers}
use Rattle.rip_builtins.proofs.joining.join.Goals as goal

pub returns-in-Err-clause-answers : goal.returns-in-Err-clause-answers
returns-in-Err-clause-answers c =
    let w = c.args.heap.now in
    let items = elements_at w c.args.array in
    subst (λ o. Answers o w (Err c.into.result) w)
    (sym (ap (λ v. join_items w v items) (sym c.argument-separator.ensures) ∙ join-halts w c.argument-separator.result items c.in-Err.halt c.in-Err.ensures))
    (halt-answers w c.in-Err.halt c.into.result c.into.ensures)
