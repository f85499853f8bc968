-- A run that a plan begins has room where there was room for its fuel.
use Rattle.std.proofs.Common.{◌≡◌, ℕ, ◌+◌, ◌≤◌, Result, Ok, Err, OnOk, sym, subst, arith}
use Rattle.rip_base.specs.declared.value.Refused.{Refused}
use Rattle.rip_base.specs.declared.value.Refused.TheVariants.{Limit as At, Memory as NoRoom}
use Rattle.rip_heap.specs.World.{World}
use Rattle.rip_eval_rows.specs.Row.{Table}
use Rattle.rip_machine.specs.Law.{Standing, Starts, values_of}
use Rattle.rip_machine.specs.Plans.{HasRoom}
use Rattle.rip_machine.specs.Starting.{Beginning}

pub started_room : (t : Table) (b : Beginning) (fuel : ℕ) (w x : World) (m n : Standing) (r : Result (Unit {0}) Refused) (most arguments : ℕ) → Starts t b fuel w x m n r → n.value_room ≡ m.value_room
    → OnOk r (values_of n ≤ arguments + fuel + 1) → HasRoom m most → arguments ≤ 1 → fuel ≤ most → HasRoom n most
started_room t b fuel w x m n (Ok done) most arguments starts same values has few within = record {
  runs = omega (arith, same, has.runs);
  run = omega (arith, same, has.runs, values, few, within);
}
started_room t b fuel w x m n (Err (At limit)) most arguments starts same values has few within =
    let P : Standing → Type 0 = λ s. HasRoom s most in subst P (sym starts.2) has
started_room t b fuel w x m n (Err NoRoom) most arguments starts same values has few within =
    let P : Standing → Type 0 = λ s. HasRoom s most in subst P (sym starts.1) has
