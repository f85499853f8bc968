use Rattle.std.proofs.Common.{◌≡◌, ◌<◌, ◌++◌, length, take, sym, ap, ◌∙◌, arith, length-append}
use Rattle.rip_heap.specs.Arrays.{elements_at}
use Rattle.rip_builtins.specs.Pieces.{gap, item_at, joined_in, piece_in, piece_of_element, piece_of_separator}
use Rattle.rip_builtins.proofs.JoinLemmas.{gap-none, gap-some, joined-more}
use Rattle.rip_builtins.proofs.joining.joined_length.Goals as goal
use Rattle.rip_builtins.proofs.joining.joined_length.Goals.{then-place-eq0, else-place-eq0}

pub loop-place-preserved : goal.loop-place-preserved
loop-place-preserved c =
    let units = c.args.heap.now.pool.units in
    let separator = c.args.separator.now in
    let items = elements_at c.args.heap.now c.args.array in
    let place = c.loop-place.place in
    let within : place < length items = omega (arith, c.loop-place-test.true, c.count-place-end.ensures) in
    let between = piece_in units (piece_of_separator separator) in
    let text = piece_in units (piece_of_element (item_at items place)) in
    let before : c.if-place-eq0.before ≡ length (gap place between) =
    elim c.if-place-eq0.branch [
      | then-place-eq0 w ↦ w.before-is ∙ sym (gap-none between place w.if-place-eq0.true)
      | else-place-eq0 w ↦
          w.before-is ∙ c.piece_length-between.ensures.length ∙ ap (λ p. length (piece_in units p)) c.piece_of_separator.ensures ∙ sym (gap-some between place w.if-place-eq0.false)
    ] in
    let more : c.piece_length-more.result ≡ length text =
    c.piece_length-more.ensures.length ∙ ap (λ p. length (piece_in units p)) (c.piece_of_element.ensures ∙ ap piece_of_element c.item.ensures) in
    omega (
      arith,
      c.min-length.ensures,
      c.loop-place.invariant,
      before,
      more,
      ap length (joined-more units separator items place within),
      length-append (joined_in units separator (take place items)) (gap place between ++ text),
      length-append (gap place between) text,
    )
