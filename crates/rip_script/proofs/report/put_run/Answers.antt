use Rattle.std.proofs.Common.{◌∙◌, ◌<◌, refl, length, arith}
use Rattle.rip_heap.specs.Scopes.{bindings_of}
use Rattle.rip_heap.specs.World.{scope_at}
use Rattle.rip_outer.proofs.Composing.{Front-none}
use Rattle.rip_script.specs.Report.{binding_line}
use Rattle.rip_script.proofs.Passing.{draws_front, draws_moved, draws_stopped, puts_last, puts_stopped}
use Rattle.rip_script.proofs.Reporting.{draws_place, no_place}
use Rattle.rip_script.proofs.report.put_run.Goals as goal

pub returns-in_err-write_head-clause-put : goal.returns-in_err-write_head-clause-put
returns-in_err-write_head-clause-put g c = puts_stopped c.from_residual.result _ _ _ c.from_residual.ensures.0 (Front-none _ _ _ refl)

pub returns-in_err-write_binding-clause-put : goal.returns-in_err-write_binding-clause-put
returns-in_err-write_binding-clause-put g c =
    puts_stopped c.from_residual-in_err-write_binding.result _ _ _ c.from_residual-in_err-write_binding.ensures.0 (draws_front c.loop-place.invariant.draws)

pub returns-in_err-put_full_block-clause-put : goal.returns-in_err-put_full_block-clause-put
returns-in_err-put_full_block-clause-put g c =
    let code = c.args.program.now in
    let heap = c.args.ended.now.heap in
    let place = c.loop-place.place in
    let count = length (bindings_of (scope_at heap 0)) in
    let within : place < count = omega arith in
    puts_stopped c.from_residual-in_err-put_full_block.result _ _ _ c.from_residual-in_err-put_full_block.ensures.0
    (draws_stopped _ (draws_place (binding_line code heap) place count c.write_binding.new.out within c.loop-place.invariant.draws c.in_ok-write_binding.ensures)
    c.in_err-put_full_block.ensures.passed)

pub loop-place-preserved : goal.loop-place-preserved
loop-place-preserved g c =
    let code = c.args.program.now in
    let heap = c.args.ended.now.heap in
    let place = c.loop-place.place in
    let count = length (bindings_of (scope_at heap 0)) in
    let within : place < count = omega arith in
    record {
      draws = draws_moved c.put_full_block.new.block _ (draws_place (binding_line code heap) place count c.write_binding.new.out within c.loop-place.invariant.draws c.in_ok-write_binding.ensures)
          c.in_ok-put_full_block.ensures.passed;
      counted = c.in_ok-put_full_block.ensures.counted ∙ c.loop-place.invariant.counted;
    }

pub returns-clause-put : goal.returns-clause-put
returns-clause-put g c =
    let heap = c.args.ended.now.heap in
    let count = length (bindings_of (scope_at heap 0)) in
    puts_last c.put_block.result _ c.loop-place.block c.put_block.new.block _ _ _ _ c.loop-place.invariant.draws
    (no_place (binding_line c.args.program.now heap) c.loop-place.place count (omega arith)) c.put_block.ensures.passed
    c.put_block.ensures.all
