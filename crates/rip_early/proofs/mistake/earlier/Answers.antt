use Rattle.std.proofs.Common.{subst}
use Rattle.rip_early.specs.Least.{IsLeast}
use Rattle.rip_early.proofs.Earliest.{least-both}
use Rattle.rip_early.proofs.mistake.earlier.Goals as goal

pub returns-in-Some-second : goal.returns-in-Some-second
returns-in-Some-second c = λ a b in_a in_b. least-both a b c.in-Some.one c.in-Some-second.other c.first_of.result
    c.first_of.ensures.either c.first_of.ensures.before_one c.first_of.ensures.before_other
    (subst (IsLeast a) c.in-Some.is in_a) (subst (IsLeast b) c.in-Some-second.is in_b)
