use Rattle.std.proofs.Common.{◌≡◌, drop}
use Rattle.rip_forms.specs.Reports.{number_behind}
use Rattle.rip_forms.proofs.NumberLemmas.{IsBounded}
use Rattle.rip_forms.proofs.report.number_of.Given as goal

abbrev pub invariant-loop-digit : goal.invariant-loop-digit
invariant-loop-digit l = record {
  rest : number_behind l.number (drop l.digit-index l.digits) ≡ number_behind 0 l.digits;
  bounded : IsBounded l.number l.digit-index;
}
