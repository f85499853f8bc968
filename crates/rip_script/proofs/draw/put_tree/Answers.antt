use Rattle.std.proofs.Common.{◌∙◌}
use Rattle.rip_script.specs.Steps.{open_lines}
use Rattle.rip_script.specs.Texts.{node_line}
use Rattle.rip_script.proofs.Drawing.{first_line, lines_next, none_left, none_open}
use Rattle.rip_script.proofs.Passing.{draws_front, draws_line, draws_moved, draws_stopped, puts_last, puts_stopped}
use Rattle.rip_script.proofs.draw.put_tree.Goals as goal

pub returns-in_err-put_full_block-clause-put : goal.returns-in_err-put_full_block-clause-put
returns-in_err-put_full_block-clause-put g c =
    let bs = c.args.tree.now.branches in
    let o = c.in-Some.next in
    let first = first_line bs c.loop-next.stack.items c.pop.new.self.items o c.node.result.now c.in-Some.ensures.items c.loop-next.invariant.opened c.node.ensures in
    puts_stopped c.from_residual-in_err-put_full_block.result _ _ _ c.from_residual-in_err-put_full_block.ensures.0
    (draws_stopped _ (draws_line (node_line o.level c.node.result.now) first.0 (open_lines bs c.loop-next.stack.items) c.write_node.new.out c.loop-next.invariant.draws first.1 c.in_ok-write_node.ensures) c.in_err-put_full_block.ensures.passed)

pub loop-next-preserved : goal.loop-next-preserved
loop-next-preserved g c =
    let bs = c.args.tree.now.branches in
    let next = lines_next bs c.loop-next.stack.items c.pop.new.self.items c.open_children.new.stack.items c.in-Some.next c.node.result.now c.in-Some.ensures.items c.in_ok-open_children.ensures.lines c.node.ensures in
    record {
      draws = draws_moved c.put_full_block.new.block _ (draws_line (node_line c.in-Some.next.level c.node.result.now) (open_lines bs c.open_children.new.stack.items) (open_lines bs c.loop-next.stack.items) c.write_node.new.out c.loop-next.invariant.draws next c.in_ok-write_node.ensures) c.in_ok-put_full_block.ensures.passed;
      opened = c.in_ok-open_children.ensures.opened;
      counted = c.in_ok-put_full_block.ensures.counted ∙ c.loop-next.invariant.counted;
    }

pub returns-in_err-open_children-clause-put : goal.returns-in_err-open_children-clause-put
returns-in_err-open_children-clause-put g c =
    let bs = c.args.tree.now.branches in
    let o = c.in-Some.next in
    let first = first_line bs c.loop-next.stack.items c.pop.new.self.items o c.node.result.now c.in-Some.ensures.items c.loop-next.invariant.opened c.node.ensures in
    puts_stopped c.from_residual-in_err-open_children.result _ _ _ c.from_residual-in_err-open_children.ensures.0
    (draws_front (draws_moved c.put_full_block.new.block _ (draws_line (node_line o.level c.node.result.now) first.0 (open_lines bs c.loop-next.stack.items) c.write_node.new.out c.loop-next.invariant.draws first.1 c.in_ok-write_node.ensures) c.in_ok-put_full_block.ensures.passed))

pub returns-clause-put : goal.returns-clause-put
returns-clause-put g c =
    let none = none_open c.args.tree.now.branches c.loop-next.stack.items (none_left c.loop-next.stack.items c.pop.new.self.items _ c.in_default.ensures.items c.in_default.ensures.rest c.in_default.ensures.cases.0) in
    puts_last c.put_block.result _ c.loop-next.block c.put_block.new.block (open_lines c.args.tree.now.branches c.loop-next.stack.items) _ _ _ c.loop-next.invariant.draws none c.put_block.ensures.passed c.put_block.ensures.all
