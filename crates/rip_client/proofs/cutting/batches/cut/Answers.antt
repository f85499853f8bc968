use Rattle.std.proofs.Common.{◌+◌, ◌<◌, [], ◌∷◌, ◌++◌, length, drop, sym, subst, ap, ◌∙◌, append_assoc, arith}
use Rattle.std.proofs.lemmas.List.{drop-drop, length-drop}
use Rattle.rip_client.specs.Cutting.{IsCut, parts}
use Rattle.rip_client.proofs.Fronts.{cut_whole}
use Rattle.rip_client.proofs.cutting.batches.cut.Goals as goal

pub returns-then-count-sizes : goal.returns-then-count-sizes
returns-then-count-sizes c =
    let sizes = c.args.sizes.now in
    let rest = drop c.loop-counts.start sizes in
    let last : IsCut c.loop-counts.number rest (c.longest_behind-count.result ∷ []) = cut_whole _ _ rest c.longest_behind-count.ensures.longest (omega (arith, length-drop c.loop-counts.start sizes)) in
    subst (λ counts. IsCut c.args.first sizes counts) (sym c.in_ok-push.ensures.items) (c.loop-counts.invariant.completes _ last)

pub loop-counts-preserved : goal.loop-counts-preserved
loop-counts-preserved c =
    let sizes = c.args.sizes.now in
    let start = c.loop-counts.start in
    let count = c.longest_behind-count.result in
    let some : start < length sizes = omega (arith, length-drop start sizes, c.longest_behind-count.ensures.longest.within) in
    let low : count < length (drop start sizes) = omega (arith, length-drop start sizes, c.longest_behind-count.ensures.longest.within) in
    record {
      completes = λ more cut.
          let behind = subst (λ xs. IsCut (c.loop-counts.number + 1) xs more) (sym (drop-drop count start sizes)) cut in
          let from : IsCut c.loop-counts.number (drop start sizes) (count ∷ more) = parts _ _ _ _ c.longest_behind-count.ensures.longest low behind in
          subst (λ counts. IsCut c.args.first sizes counts) (sym (ap (λ xs. xs ++ more) c.in_ok-push.ensures.items ∙ append_assoc c.loop-counts.counts.items (count ∷ []) more)) (c.loop-counts.invariant.completes (count ∷ more) from);
      within = omega (arith, length-drop start sizes, low);
      numbers = omega (arith, c.longest_behind-count.ensures.some some);
    }
