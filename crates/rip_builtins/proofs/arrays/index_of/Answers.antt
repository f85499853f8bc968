use Rattle.std.proofs.Common.{sym, ap, ◌∙◌, arith, rules, w64}
use Rattle.std.proofs.lemmas.Int.{ints, to_z-of_z}
use Rattle.rip_heap.specs.Arrays.{elements_at}
use Rattle.rip_heap.specs.Outcome.{Gives}
use Rattle.rip_builtins.specs.Arguments.{integer_in, value_or_fault}
use Rattle.rip_builtins.specs.Arrays.{place_of_value}
use Rattle.rip_builtins.proofs.ArrayLemmas.{index_in-from}
use Rattle.rip_builtins.proofs.arrays.index_of.Goals as goal

pub returns-in-Ok : goal.returns-in-Ok
returns-in-Ok c =
    let w = c.args.heap.now in
    let items = elements_at w c.args.array in
    ap (value_or_fault w) (index_in-from w.pool items c.args.args.now c.in-Ok.from (omega (arith, c.count-count.ensures)) (c.in-Ok.ensures ∙ ap (integer_in w.pool) c.argument.ensures))
    ∙ ap (λ v. Gives v w) (sym (c.place_of_value.ensures ∙ ap (place_of_value w.pool c.argument-in-Ok.result items) (to_z-of_z w64 c.in-Ok.from (search (rules, ints))) ∙ ap (λ v. place_of_value w.pool v items c.in-Ok.from) c.argument-in-Ok.ensures))
