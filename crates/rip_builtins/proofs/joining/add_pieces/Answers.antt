use Rattle.std.proofs.Common.{◌≡◌, ◌<◌, length, take, ap, ◌∙◌, arith, rules}
use Rattle.rip_heap.specs.Arrays.{elements_at}
use Rattle.rip_builtins.specs.Pieces.{gap, item_at, piece_in, piece_of_element, with_units}
use Rattle.rip_builtins.proofs.JoinLemmas.{longer, one-more, room-behind, room-for, same-elements, same-front}
use Rattle.rip_builtins.proofs.joining.add_pieces.Goals as goal

pub add_gap-requires-clause-end : goal.add_gap-requires-clause-end
add_gap-requires-clause-end c =
    let u = c.args.heap.now in
    let items = elements_at u c.args.array in
    let within : c.loop-place.place < length items = omega (arith, c.loop-place-test.true, c.count-place-end.ensures) in
    longer u c.loop-place.heap c.args.separator.now items c.loop-place.place c.args.end c.requires.end within c.loop-place.invariant.0

pub add_gap-requires-clause-room : goal.add_gap-requires-clause-room
add_gap-requires-clause-room c =
    let u = c.args.heap.now in
    let l = c.loop-place.heap in
    let place = c.loop-place.place in
    let items = elements_at u c.args.array in
    let within : place < length items = omega (arith, c.loop-place-test.true, c.count-place-end.ensures) in
    omega (
      arith,
      room-for u l c.args.separator.now items place c.args.end c.requires.end within c.loop-place.invariant.0 c.requires.room,
      ap (λ xs. length (gap place (piece_in xs c.piece_of_separator-between.result))) (same-front u l c.args.separator.now items place c.args.end c.requires.end within c.loop-place.invariant.0),
      ap (λ p. length (gap place (piece_in (take c.args.end u.pool.units) p))) c.piece_of_separator-between.ensures,
    )

pub add_piece-requires-clause-room : goal.add_piece-requires-clause-room
add_piece-requires-clause-room c =
    let u = c.args.heap.now in
    let l = c.loop-place.heap in
    let g = c.add_gap.new.heap in
    let place = c.loop-place.place in
    let items = elements_at u c.args.array in
    let within : place < length items = omega (arith, c.loop-place-test.true, c.count-place-end.ensures) in
    let read : c.item.result ≡ item_at items place = c.item.ensures ∙ ap (λ is. item_at is place) (same-elements u l c.args.array (ap (λ x. x.objects) c.loop-place.invariant.0)) in
    omega (
      arith,
      room-behind u l c.args.separator.now items place c.args.end c.requires.end within c.loop-place.invariant.0 g
          (c.add_gap.ensures.added ∙ ap (λ p. with_units l (gap place (piece_in (take c.args.end l.pool.units) p))) c.piece_of_separator-between.ensures) c.requires.room,
      ap (λ p. length (piece_in (take c.args.end g.pool.units) p)) (c.piece_of_element-piece.ensures ∙ ap piece_of_element read),
    )

pub loop-place-preserved : goal.loop-place-preserved
loop-place-preserved c =
    let u = c.args.heap.now in
    let l = c.loop-place.heap in
    let place = c.loop-place.place in
    let items = elements_at u c.args.array in
    let within : place < length items = omega (arith, c.loop-place-test.true, c.count-place-end.ensures) in
    let read : c.item.result ≡ item_at items place = c.item.ensures ∙ ap (λ is. item_at is place) (same-elements u l c.args.array (ap (λ x. x.objects) c.loop-place.invariant.0)) in (
      one-more u l c.args.separator.now items place c.args.end c.requires.end within c.loop-place.invariant.0 c.add_gap.new.heap c.add_piece.new.heap
          (c.add_gap.ensures.added ∙ ap (λ p. with_units l (gap place (piece_in (take c.args.end l.pool.units) p))) c.piece_of_separator-between.ensures)
          (c.add_piece.ensures.added ∙ ap (λ p. with_units c.add_gap.new.heap (piece_in (take c.args.end c.add_gap.new.heap.pool.units) p)) (c.piece_of_element-piece.ensures ∙ ap piece_of_element read)),
      search rules,
    )
