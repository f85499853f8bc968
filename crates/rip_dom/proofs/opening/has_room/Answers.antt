use Rattle.std.proofs.Common.{◌≡◌, ◌+◌, ◌-◌, ◌<◌, ◌≤◌, sym, subst, length, arith}
use Rattle.std.proofs.lemmas.Bool.{lt-leb}
use Rattle.rip_dom.specs.Opening.{count_of_nodes}
use Rattle.rip_dom.proofs.OpeningLemmas.{RoomLeft, room-more, room-short}
use Rattle.rip_dom.proofs.opening.has_room.Goals as goal

pub returns-then-attributes-left : goal.returns-then-attributes-left
returns-then-attributes-left c =
    let n : c.len-attributes.result ≡ length c.node.result.now.attributes = c.len-attributes.ensures in
    let short : c.loop-i.left < 1 + length c.node.result.now.attributes = omega (arith, n, c.if-attributes-left.true) in
    sym (lt-leb (count_of_nodes c.args.page.now.nodes) c.args.limit (room-short c.args.page.now.nodes c.loop-i.i c.loop-i.left c.args.limit c.node.result.now c.loop-i.invariant.1 c.node.ensures short))

pub loop-i-preserved : goal.loop-i-preserved
loop-i-preserved c =
    let n : c.len-attributes.result ≡ length c.node.result.now.attributes = c.len-attributes.ensures in
    let room : 1 + length c.node.result.now.attributes ≤ c.loop-i.left = omega (arith, n, c.if-attributes-left.false) in (
      c.loop-i.invariant.0,
      subst (λ k. RoomLeft c.args.page.now.nodes (c.loop-i.i + 1) (c.loop-i.left - (1 + k)) c.args.limit) (sym n)
          (room-more c.args.page.now.nodes c.loop-i.i c.loop-i.left c.args.limit c.node.result.now c.loop-i.invariant.1 c.node.ensures room),
    )
