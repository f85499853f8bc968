use Rattle.std.proofs.Common.{◌≡◌}
use Rattle.rip_convert.proofs.Placing.{IsFilled}
use Rattle.rip_convert.proofs.order.put_fields.Given as goal

-- those before are among the places
abbrev pub invariant-loop-place : goal.invariant-loop-place
invariant-loop-place l = record {
  properties : l.fields.properties ≡ l.initial.fields.properties;
  filled : IsFilled l.heap.pool l.initial.fields.properties l.first l.initial.fields.places l.fields.places l.place;
}
