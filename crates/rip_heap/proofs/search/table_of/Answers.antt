use Rattle.std.proofs.Common.{◌≡◌, ◌+◌, ◌-◌, ◌++◌, ◌∷◌, [], length, take, drop, get_or, sym, ap, ◌∙◌, subst, arith, length-append, length-drop}
use Rattle.std.proofs.Math.Seq.{take-length}
use Rattle.rip_heap.specs.Borders.{IsLongest, IsTable}
use Rattle.rip_heap.proofs.BorderLemmas.{table-more, longest-taken}
use Rattle.rip_heap.proofs.search.table_of.Goals as goal

pub loop-unit-preserved : goal.loop-unit-preserved
loop-unit-preserved c =
    let pattern = c.args.pattern.now in
    let behind = drop 1 pattern in
    let i = c.loop-unit.unit-index in
    let k = c.advanced-matched.result in
    let table = c.loop-unit.table.items in
    let whole : take (length pattern - 1) behind ≡ behind = ap (λ n. take n behind) (sym (length-drop 1 pattern)) ∙ take-length behind in
    let given : IsLongest pattern (take i behind ++ get_or behind i 0 ∷ []) k =
    subst (λ t. IsLongest pattern (take i behind ++ get_or t i 0 ∷ []) k) whole (c.advanced-matched.ensures (take i behind) c.loop-unit.invariant.2) in
    let longest : IsLongest pattern (take (i + 1) behind) k = longest-taken pattern behind i k (omega (arith, length-drop 1 pattern, ap length whole)) given in
    let count : length table ≡ i + 1 = c.loop-unit.invariant.0 in (
      ap length c.push_reserved-in-loop-unit.ensures.items ∙ length-append table (k ∷ []) ∙ ap (λ n. n + 1) count,
      subst (IsTable pattern) (sym c.push_reserved-in-loop-unit.ensures.items) (table-more pattern table k c.loop-unit.invariant.1 (subst (λ n. IsLongest pattern (take n behind) k) (sym count) longest)),
      longest,
      c.push_reserved-in-loop-unit.ensures.capacity ∙ c.loop-unit.invariant.3,
    )

pub overflow_cast-matched : goal.overflow_cast-matched
overflow_cast-matched c =
    let longest = c.advanced-matched.ensures (take c.loop-unit.unit-index (drop 1 c.args.pattern.now)) c.loop-unit.invariant.2 in
    omega (arith, longest.ends.0, c.requires.bound)
