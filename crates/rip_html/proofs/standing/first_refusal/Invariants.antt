use Rattle.std.proofs.Common.{◌≡◌, ◌^◌, drop}
use Rattle.std.specs.List.{AllByRecursion}
use Rattle.rip_markup.specs.Within.{PlacedWithin}
use Rattle.rip_html.specs.Refusals.{refusal_from, first_refusal}
use Rattle.rip_html.proofs.standing.first_refusal.Given as goal

abbrev pub invariant-loop-placed : goal.invariant-loop-placed
invariant-loop-placed l = record {
  first : refusal_from l.open (drop l.placed-index l.tokens) ≡ first_refusal l.tokens;
  within : AllByRecursion (PlacedWithin (2 ^ 32)) (drop l.placed-index l.tokens);
}
