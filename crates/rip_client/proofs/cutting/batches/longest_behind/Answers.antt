use Rattle.std.proofs.Common.{ℕ, take, drop, sym, subst, ap, ◌∙◌, arith}
use Rattle.std.proofs.lemmas.List.{length-drop}
use Rattle.std.proofs.Math.Seq.{take-length}
use Rattle.rip_client.specs.Cutting.{IsLongest}
use Rattle.rip_client.proofs.Fronts.{takes_behind}
use Rattle.rip_client.proofs.cutting.batches.longest_behind.Goals as goal

pub returns-clause-some : goal.returns-clause-some
returns-clause-some c =
    let rest = drop c.args.start c.args.sizes.now in
    let all = ap (λ (k : ℕ). take k rest) (sym (length-drop c.args.start c.args.sizes.now)) ∙ take-length rest in
    takes_behind c.args.number c.args.start _ c.args.sizes.now (subst (λ xs. IsLongest c.args.number xs c.longest.result) all c.longest.ensures) (omega arith) c.requires.each
