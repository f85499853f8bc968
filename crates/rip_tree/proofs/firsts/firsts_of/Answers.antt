use Rattle.std.proofs.Common.{◌≡◌, ℕ, ◌+◌, List, Option, [], ◌∷◌, ◌++◌, map, option_map, unwrap_or, Some, None, cond, take, position, bytes_eq, ap, sym, ◌∙◌, arith}
use Rattle.std.specs.List.{range_with_len}
use Rattle.std.specs.BTreeMap.{get_by}
use Rattle.std.specs.Cmp.Lexicographic.{slice_cmp}
use Rattle.std.specs.Ordering.{nat_cmp}
use Rattle.std.proofs.lemmas.List.FromFn.{map-range_with_len_more}
use Rattle.rip_tree.specs.Firsts.{first_named, has_name, name_of}
use Rattle.rip_tree.specs.Branches.{units_at}
use Rattle.rip_tree.specs.Joining.{grove_of}
use Rattle.rip_tree.proofs.Naming.{first_noted, first_unnamed, noted_more, noted_same}
use Rattle.rip_tree.proofs.firsts.firsts_of.Goals as goal
use Rattle.rip_tree.proofs.firsts.firsts_of.Goals.{in-Some+in_ok-first-in-Some, in-None}

pub loop-id-preserved : goal.loop-id-preserved
loop-id-preserved c =
    let g = grove_of c.args.trees.now in
    let id = c.loop-id.id in
    let node = c.node.result.now in
    let old : List ℕ → Option ℕ = λ q. get_by (λ k. slice_cmp nat_cmp q k.now) c.loop-id.noted in
    let new : List ℕ → Option ℕ = λ q. get_by (λ k. slice_cmp nat_cmp q k.now) c.match-name_piece.noted in
    let same : (q : List ℕ) → old q ≡ position (has_name g.units q) (take id g.branches) = c.loop-id.invariant.noted in
    let name : Option (List ℕ) → Type 0 = λ o. name_of g.units node.form ≡ o in
    let step : (c.match-name_piece.first ≡ first_named g id) × ((q : List ℕ) → new q ≡ position (has_name g.units q) (take (id + 1) g.branches)) = elim c.match-name_piece.branch [
      | in-Some+in_ok-first-in-Some w ↦
          let text = w.units.result.now in
          let named : name (Some text) = ap (option_map (units_at g.units)) (sym w.in-Some.ensures) ∙ ap Some (sym w.units.ensures) in
          let is : w.in_ok-first-in-Some.first ≡ unwrap_or (old text) id = w.in_ok-first-in-Some.ensures.first in
          let added : (q : List ℕ) → new q ≡ cond (bytes_eq text q) (Some w.in_ok-first-in-Some.first) (old q) =
          λ q. ap (get_by (λ k. slice_cmp nat_cmp q k.now)) w.noted-is ∙ w.in_ok-first-in-Some.ensures.noted q in (
            w.first-is ∙ first_noted g id w.in_ok-first-in-Some.first node text old c.node.ensures named same is,
            noted_more g id w.in_ok-first-in-Some.first node text old new c.node.ensures named same is added,
          )
      | in-None w ↦
          let named : name None = ap (option_map (units_at g.units)) (sym w.in-None.ensures) in (
            w.first-is ∙ first_unnamed g id node c.node.ensures named,
            noted_same g id node old new c.node.ensures named same (λ q. ap (get_by (λ k. slice_cmp nat_cmp q k.now)) w.noted-is),
          )
    ] in
    record {
      firsts = c.in_ok-push.ensures.items ∙ ap (λ xs. xs ++ c.match-name_piece.first ∷ []) c.loop-id.invariant.firsts
          ∙ ap (λ n. map (first_named g) (range_with_len 0 id) ++ n ∷ []) step.0 ∙ sym (map-range_with_len_more (first_named g) 0 id id (omega arith));
      noted = step.1;
    }
