use Rattle.std.proofs.Common.{◌≡◌, ◌≤◌, [], ◌∙◌, ◌+◌, ◌-◌, ap, arith, length, slice_get, slice_range, sym}
use Rattle.rip_heap.specs.Arrays.{elements_of}
use Rattle.rip_heap.specs.NamedObjects.{with_another, with_more, with_paid_edit}
use Rattle.rip_heap.specs.Stored.{object_of, stored_with}
use Rattle.rip_heap.proofs.PieceLemmas.{piece_count, piece_within}
use Rattle.rip_heap.proofs.StoredLemmas.{edit_last, other_behind}
use Rattle.rip_heap.proofs.named_objects.NamedObjects.push_piece.Goals as goal

pub returns : goal.returns
returns c =
    let n = c.args.self.now in
    let xs = elements_of (slice_get n.objects c.args.at) in
    let first = c.min-first.result in
    let end = c.min-end.result in
    let piece = slice_range xs c.args.from c.args.to in
    let bare = object_of (stored_with c.bare.result []) [] in
    let there = other_behind n c.push.new.self bare 1 c.args.at c.push.ensures c.requires.within in
    let within : slice_range xs first end ≡ piece = piece_within xs c.args.from c.args.to first end (omega (arith, c.min-end.ensures, c.element_count.ensures)) c.min-first.ensures in
    let range : first ≤ end = omega (arith, c.min-first.ensures) in
    let inside : end ≤ length xs = omega (arith, c.min-end.ensures, c.element_count.ensures) in
    let count : end - first ≡ length piece = sym (piece_count xs first end range inside) ∙ ap length within in
    let same : slice_range (elements_of (slice_get c.push.new.self.objects c.args.at)) first end ≡ piece = ap (λ o. slice_range (elements_of o) first end) there ∙ within in
    c.copy_elements.ensures
    ∙ (λ t. with_paid_edit (c.push.ensures t) (c.len-made.ensures t) (with_more (same t)) (count t))
    ∙ edit_last n bare (with_more piece) 1 (length piece)
    ∙ (λ t. with_another n (with_more piece (object_of (stored_with (c.bare.ensures t) []) [])) (1 + length piece))
