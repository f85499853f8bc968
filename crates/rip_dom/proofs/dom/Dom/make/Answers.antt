use Rattle.std.proofs.lemmas.Result.{err_from_is_err_and}
use Rattle.rip_dom.specs.Opening.{no_tree}
use Rattle.rip_dom.proofs.OpeningLemmas.{node-room, node-short, node-done, opens-short}
use Rattle.rip_dom.proofs.dom.Dom.make.Goals as goal

pub push_page_node-requires-clause-room : goal.push_page_node-requires-clause-room
push_page_node-requires-clause-room c =
    node-room c.args.page.now.nodes c.loop-i.i c.node.result.now c.loop-i.pool c.args.pool.now c.loop-i.dom (no_tree c.args.nodes) c.loop-i.invariant.2 c.node.ensures

pub returns-in_err-push_page_node : goal.returns-in_err-push_page_node
returns-in_err-push_page_node c =
    let p = err_from_is_err_and c.from_residual-in_err-push_page_node.result c.from_residual-in_err-push_page_node.ensures.1 in
    rw (p.1, p.2) (opens-short c.args.page.now.nodes c.args.nodes c.args.pool.now c.push_page_node.new.pool _ _ c.in_err-push_page_node.ensures.short c.loop-i.invariant.1
    (λ g. node-short c.args.page.now.nodes c.loop-i.i c.node.result.now c.loop-i.pool c.args.pool.now c.loop-i.dom (no_tree c.args.nodes) c.loop-i.invariant.2 c.node.ensures g))

pub loop-i-preserved : goal.loop-i-preserved
loop-i-preserved c = (
  c.loop-i.invariant.0,
  c.loop-i.invariant.1,
  node-done c.args.page.now.nodes c.loop-i.i c.node.result.now c.loop-i.pool c.args.pool.now c.push_page_node.new.pool c.loop-i.dom (no_tree c.args.nodes) c.push_page_node.new.self c.loop-i.invariant.2 c.node.ensures
      c.in_ok-push_page_node.ensures.ok c.in_ok-push_page_node.ensures.fit,
)
