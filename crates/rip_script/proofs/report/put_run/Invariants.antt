use Rattle.std.proofs.Common.{◌≡◌, ◌-◌, length, map}
use Rattle.std.specs.List.{range_with_len}
use Rattle.rip_heap.specs.Scopes.{bindings_of}
use Rattle.rip_heap.specs.World.{scope_at}
use Rattle.rip_script.specs.Report.{binding_line, run_text}
use Rattle.rip_script.proofs.Passing.{Draws}
use Rattle.rip_script.proofs.report.put_run.Given as goal

-- the lines of the bindings ahead are due
abbrev pub invariant-loop-place : goal.invariant-loop-place
invariant-loop-place g l = record {
  draws : Draws (run_text l.program l.ended)
      (map (binding_line l.program l.ended.heap) (range_with_len l.place (length (bindings_of (scope_at l.ended.heap 0)) - l.place)))
      l.block (g.S.Sink.held l.initial.out) (g.S.Sink.held l.out);
  counted : g.S.Sink.count l.out ≡ g.S.Sink.count l.initial.out;
}
